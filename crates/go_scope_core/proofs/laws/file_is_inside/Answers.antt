use Rattle.go_scope_core.proofs.LawLemmas.{file_inside}
use Rattle.go_scope_core.proofs.laws.file_is_inside.Goals as goal

pub returns : goal.returns
returns c = file_inside
