use Rattle.go_scope_core.proofs.LawLemmas.{package_never_hidden}
use Rattle.go_scope_core.proofs.laws.package_is_never_hidden.Goals as goal

pub returns : goal.returns
returns c = package_never_hidden
