use Rattle.go_program_laws.proofs.CallsReferred.{calls_refer}
use Rattle.go_program_laws.proofs.calls.laws.calls_refer_to_theirs.Goals as goal

pub returns : goal.returns
returns c =
    calls_refer c.objects_are_of_faultless.ensures c.functions_have_one_table.ensures c.functions_are_placed.ensures c.bodies_are_between_braces.ensures c.calls_name_their_own.ensures
