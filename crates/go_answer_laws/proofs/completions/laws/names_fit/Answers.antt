use Rattle.go_answer_laws.proofs.CompletionsFitting.{all_fit}
use Rattle.go_answer_laws.proofs.completions.laws.names_fit.Goals as goal

pub returns : goal.returns
returns c =
    all_fit c.identifiers_can_be_respelled.ensures c.blocks_stay.ensures c.checked_packages_have_contexts.ensures c.checked_packages_keep_contexts.ensures c.part_has_occurrences.ensures
