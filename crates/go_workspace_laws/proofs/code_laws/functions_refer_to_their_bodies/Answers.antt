use Rattle.go_workspace_laws.proofs.Referring.{functions_refer}
use Rattle.go_workspace_laws.proofs.code_laws.functions_refer_to_their_bodies.Goals as goal

pub returns : goal.returns
returns c = functions_refer c.part_has_occurrences.ensures c.occurrences_are_written.ensures c.bodies_are_between_braces.ensures c.calls_name_their_own.ensures c.objects_are_of_faultless.ensures
