use Rattle.go_workspace_laws.proofs.FileTelling.{snapshots_have}
use Rattle.go_workspace_laws.proofs.file_laws.snapshots_have_what_is_told.Goals as goal

pub returns : goal.returns
returns c = snapshots_have c.one_input.ensures c.one_tree.ensures c.one_rule.ensures
