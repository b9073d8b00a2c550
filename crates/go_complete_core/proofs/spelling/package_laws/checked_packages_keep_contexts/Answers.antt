use Rattle.go_complete_core.proofs.SpellingStaying.{contexts_stay}
use Rattle.go_complete_core.proofs.spelling.package_laws.checked_packages_keep_contexts.Goals as goal

pub returns : goal.returns
returns c = contexts_stay c.types_stay.ensures c.file_initialisers_stay.ensures c.outer_types_in_files_stay.ensures c.package_bodies_stay.ensures
