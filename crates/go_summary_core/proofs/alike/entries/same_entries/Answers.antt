use Rattle.std.proofs.Common.{◌<◌, subst}
use Rattle.go_summary_core.proofs.AlikeListed.{listed_apart}
use Rattle.go_summary_core.proofs.alike.entries.same_entries.Goals as goal

pub returns-then-not-is_same_entry : goal.returns-then-not-is_same_entry
returns-then-not-is_same_entry c = listed_apart c.args.types.now c.args.others.now c.loop-place.place c.index-types-place.result c.index-others-place.result c.is_same_entry.result c.loop-place-test.true (subst (λ n. c.loop-place.place < n) c.if-types-others.false c.loop-place-test.true) c.index-types-place.is c.index-others-place.is c.is_same_entry.ensures c.if-not-is_same_entry.true
