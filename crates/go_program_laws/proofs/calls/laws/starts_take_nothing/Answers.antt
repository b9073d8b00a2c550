use Rattle.go_program_laws.proofs.CallsStarts.{starts_take_nothing}
use Rattle.go_program_laws.proofs.calls.laws.starts_take_nothing.Goals as goal

pub returns : goal.returns
returns c = starts_take_nothing c.objects_are_of_faultless.ensures
