use Rattle.go_term_core.specs.Shapes.{shape}
use Rattle.go_handle_core.proofs.Telling.{told_yes, told_no}
use Rattle.go_handle_core.proofs.implementing.term_implements.Goals as goal

pub returns-in-Ok : goal.returns-in-Ok
returns-in-Ok c = told_yes c.args.table.now (shape c.args.term.now) (shape c.args.interface.now) c.in_ok-implements.field-0 c.in-Ok.field-0 c.in-Ok.is c.in_ok-implements.ensures

pub returns-in-Err : goal.returns-in-Err
returns-in-Err c = told_no c.args.table.now (shape c.args.term.now) (shape c.args.interface.now) c.in_ok-implements.field-0 c.in-Err.field-0 c.in-Err.is c.in_ok-implements.ensures
