use Rattle.std.proofs.Common.{rules}
use Rattle.go_path_core.proofs.Paths.{may_import_is}
use Rattle.go_path_core.proofs.import_path.may_import_text.Goals as goal

pub returns : goal.returns
returns c = may_import_is _ _ _ (search rules)
