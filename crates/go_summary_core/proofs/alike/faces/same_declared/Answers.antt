use Rattle.std.proofs.Common.{◌<◌, subst}
use Rattle.go_declared_core.specs.graph_core.ToldApart.{told_apart}
use Rattle.go_declared_core.specs.Held.{declared_shown}
use Rattle.go_summary_core.proofs.alike.faces.same_declared.Goals as goal

pub returns-then-not-is_same_declared : goal.returns-then-not-is_same_declared
returns-then-not-is_same_declared c = told_apart declared_shown c.args.faces.now c.args.others.now c.loop-place.place c.index-faces-place.result c.index-others-place.result c.is_same_declared.result c.loop-place-test.true (subst (λ n. c.loop-place.place < n) c.if-faces-others.false c.loop-place-test.true) c.index-faces-place.is c.index-others-place.is c.is_same_declared.ensures c.if-not-is_same_declared.true
