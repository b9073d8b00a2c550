use Rattle.go_meaning_laws.proofs.ObjectSourcesCoded.{objects_are_code}
use Rattle.go_meaning_laws.proofs.object_sources.laws.objects_are_code_of_sources.Goals as goal

pub returns : goal.returns
returns c = objects_are_code
