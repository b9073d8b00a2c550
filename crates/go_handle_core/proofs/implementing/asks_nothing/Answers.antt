use Rattle.std.proofs.Common.{ap, sym, ◌∙◌}
use Rattle.go_term_core.specs.Shapes.{shape}
use Rattle.go_term_core.proofs.TermShapes.{shape_interface}
use Rattle.go_handle_core.specs.mirrors.Bare.{asks_nothing}
use Rattle.go_handle_core.proofs.Telling.{none_listed}
use Rattle.go_handle_core.proofs.implementing.asks_nothing.Goals as goal

pub returns-in-Interface : goal.returns-in-Interface
returns-in-Interface c =
    let ms = c.in-Interface.methods in
    none_listed c.len.result ms.items (c.len.ensures ∙ ms.ok.0) ∙ ap asks_nothing (sym (ap shape c.in-Interface.is ∙ shape_interface c.in-Interface.field-0 ms))
