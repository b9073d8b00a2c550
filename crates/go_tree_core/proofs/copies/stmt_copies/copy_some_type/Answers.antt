use Rattle.std.proofs.Common.{Some, ap, sym, ◌∙◌}
use Rattle.go_tree_nodes.specs.Shapes.{shape_some_type}
use Rattle.go_tree_core.specs.copies.Respelled.{spelled, some_with, type_with}
use Rattle.go_tree_core.proofs.copies.stmt_copies.copy_some_type.Goals as goal

pub returns-in-Ok : goal.returns-in-Ok
returns-in-Ok c = ap Some c.in-Ok.ensures ∙ sym (ap (λ t. some_with (type_with (spelled c.args.copier.now)) (shape_some_type t)) c.in-Some.is)
