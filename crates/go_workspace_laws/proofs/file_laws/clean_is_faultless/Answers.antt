use Rattle.go_workspace_laws.proofs.Making.{clean_is_faultless}
use Rattle.go_workspace_laws.proofs.file_laws.clean_is_faultless.Goals as goal

pub returns : goal.returns
returns c = clean_is_faultless c.snapshots_have_what_is_told.ensures
