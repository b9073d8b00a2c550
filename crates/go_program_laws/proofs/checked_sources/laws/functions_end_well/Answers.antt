use Rattle.go_program_laws.proofs.CheckedSourcesClear.{functions_end_well}
use Rattle.go_program_laws.proofs.checked_sources.laws.functions_end_well.Goals as goal

pub returns : goal.returns
returns c = functions_end_well c.objects_are_of_faultless.ensures c.bodies_are_between_braces.ensures
