use Rattle.std.proofs.Common.{◌<◌, subst}
use Rattle.go_declared_core.specs.graph_core.ToldApart.{told_apart}
use Rattle.go_table_core.specs.Shown.{member_shown}
use Rattle.go_summary_core.proofs.alike.entries.same_members.Goals as goal

pub returns-then-not-is_same_member : goal.returns-then-not-is_same_member
returns-then-not-is_same_member c = told_apart member_shown c.args.methods.now c.args.others.now c.loop-place.place c.index-methods-place.result c.index-others-place.result c.is_same_member.result c.loop-place-test.true (subst (λ n. c.loop-place.place < n) c.if-methods-others.false c.loop-place-test.true) c.index-methods-place.is c.index-others-place.is c.is_same_member.ensures c.if-not-is_same_member.true
