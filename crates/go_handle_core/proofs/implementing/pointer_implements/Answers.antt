use Rattle.go_term_core.specs.Shapes.{shape}
use Rattle.go_term_core.specs.Terms.{PointerTo}
use Rattle.go_handle_core.proofs.Telling.{told_yes, told_no}
use Rattle.go_handle_core.proofs.implementing.pointer_implements.Goals as goal

pub returns-in-Ok : goal.returns-in-Ok
returns-in-Ok c =
    let w = c.in_ok-implements_by_pointer in
    told_yes c.args.table.now (PointerTo (shape c.args.base.now)) (shape c.args.interface.now) w.field-0 c.in-Ok.field-0 c.in-Ok.is w.ensures

pub returns-in-Err : goal.returns-in-Err
returns-in-Err c =
    let w = c.in_ok-implements_by_pointer in
    told_no c.args.table.now (PointerTo (shape c.args.base.now)) (shape c.args.interface.now) w.field-0 c.in-Err.field-0 c.in-Err.is w.ensures
