use Rattle.std.proofs.Common.{ap, sym, ◌∙◌}
use Rattle.go_tree_nodes.specs.Trees.{Alone}
use Rattle.go_tree_nodes.specs.Shapes.{shape_simple}
use Rattle.go_tree_core.specs.copies.Respelled.{spelled, simple_with}
use Rattle.go_tree_core.proofs.copies.stmt_copies.copy_simple.Goals as goal

pub returns-in-Ok : goal.returns-in-Ok
returns-in-Ok c = ap Alone c.in-Ok.ensures ∙ sym (ap (λ s. simple_with (spelled c.args.copier.now) (shape_simple s)) c.in-Expr.is)
