use Rattle.go_workspace_laws.proofs.Referring.{objects_formed}
use Rattle.go_workspace_laws.proofs.code_laws.objects_are_well_formed.Goals as goal

pub returns : goal.returns
returns c =
    objects_formed c.part_has_occurrences.ensures c.occurrences_are_written.ensures c.bodies_are_between_braces.ensures c.calls_name_their_own.ensures c.objects_are_of_faultless.ensures c.jumps_stay_inside.ensures c.code_is_whole.ensures c.outside_is_alone.ensures
