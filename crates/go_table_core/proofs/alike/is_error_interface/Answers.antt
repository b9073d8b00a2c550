use Rattle.std.proofs.Common.{ap, ◌∙◌}
use Rattle.go_term_core.specs.Shapes.{shape, method_shapes}
use Rattle.go_term_core.proofs.TermShapes.{shape_interface}
use Rattle.go_table_core.proofs.Underlying.{of_methods}
use Rattle.go_table_core.proofs.alike.is_error_interface.Goals as goal

pub returns-in-Interface : goal.returns-in-Interface
returns-in-Interface c =
    let ms = c.in-Interface.methods in
    of_methods (shape c.args.term.now) c.in-Interface.field-0 (method_shapes ms.items) c.are_errors.result (ap shape c.in-Interface.is ∙ shape_interface c.in-Interface.field-0 ms) c.are_errors.ensures
