use Rattle.std.proofs.Common.{◌<◌, subst}
use Rattle.go_summary_core.proofs.AlikeListed.{listed_apart}
use Rattle.go_summary_core.proofs.alike.names.same_names.Goals as goal

pub returns-then-not-is_same_name : goal.returns-then-not-is_same_name
returns-then-not-is_same_name c = listed_apart c.args.names.now c.args.others.now c.loop-place.place c.index-names-place.result c.index-others-place.result c.is_same_name.result c.loop-place-test.true (subst (λ n. c.loop-place.place < n) c.if-names-others.false c.loop-place-test.true) c.index-names-place.is c.index-others-place.is c.is_same_name.ensures c.if-not-is_same_name.true
