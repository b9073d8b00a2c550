use Rattle.go_import_core.proofs.ListAdded.{added_imports_are_judged}
use Rattle.go_import_core.proofs.list.laws.added_imports_are_judged.Goals as goal

pub returns : goal.returns
returns c = added_imports_are_judged
