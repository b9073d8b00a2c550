use Rattle.go_program_laws.proofs.CallsStarts.{typed_objects_run}
use Rattle.go_program_laws.proofs.calls.laws.typed_objects_run.Goals as goal

pub returns : goal.returns
returns c = typed_objects_run c.objects_run_as_typed.ensures c.starts_take_nothing.ensures
