use Rattle.go_program_laws.proofs.ReferencesJoined.{one_part}
use Rattle.go_program_laws.proofs.references.laws.parts_of_a_path_are_one.Goals as goal

pub returns : goal.returns
returns c = one_part
