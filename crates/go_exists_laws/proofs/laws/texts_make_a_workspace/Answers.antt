use Rattle.go_exists_laws.proofs.Files.{texts_make_a_workspace}
use Rattle.go_exists_laws.proofs.laws.texts_make_a_workspace.Goals as goal

pub returns : goal.returns
returns c = texts_make_a_workspace
