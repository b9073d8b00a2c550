use Rattle.go_complete_core.proofs.SpellingStaying.{contexts_decide}
use Rattle.go_complete_core.proofs.spelling.package_laws.checked_packages_have_contexts.Goals as goal

pub returns : goal.returns
returns c = contexts_decide
