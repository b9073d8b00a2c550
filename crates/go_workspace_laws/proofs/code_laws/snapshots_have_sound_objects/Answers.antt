use Rattle.go_workspace_laws.proofs.Snapshots.{sound_objects}
use Rattle.go_workspace_laws.proofs.code_laws.snapshots_have_sound_objects.Goals as goal

pub returns : goal.returns
returns c = sound_objects c.objects_are_well_formed.ensures c.functions_refer_to_their_bodies.ensures
