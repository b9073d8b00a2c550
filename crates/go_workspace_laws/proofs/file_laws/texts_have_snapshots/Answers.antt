use Rattle.go_workspace_laws.proofs.Making.{texts_have}
use Rattle.go_workspace_laws.proofs.file_laws.texts_have_snapshots.Goals as goal

pub returns : goal.returns
returns c = texts_have c.parts_are_whole.ensures
