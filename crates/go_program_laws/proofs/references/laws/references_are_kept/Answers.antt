use Rattle.go_program_laws.proofs.ReferencesKept.{references_kept}
use Rattle.go_program_laws.proofs.references.laws.references_are_kept.Goals as goal

pub returns : goal.returns
returns c =
    references_kept c.functions_are_of_parts.ensures c.seen_are_in_program.ensures c.functions_have_numbers.ensures c.parts_are_among.ensures c.names_lead_to_no_methods.ensures c.own_references_take_words.ensures c.own_signatures_are_theirs.ensures c.headers_give_their_results.ensures c.reached_are_inside.ensures c.signatures_are_alike.ensures
