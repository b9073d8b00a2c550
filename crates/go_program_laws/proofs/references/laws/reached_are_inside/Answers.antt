use Rattle.go_program_laws.proofs.ReferencesCallees.{inside_reached}
use Rattle.go_program_laws.proofs.references.laws.reached_are_inside.Goals as goal

pub returns : goal.returns
returns c = inside_reached c.objects_are_code_of_sources.ensures
