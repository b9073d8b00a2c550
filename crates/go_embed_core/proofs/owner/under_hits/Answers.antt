use Rattle.std.proofs.Common.{ap, sym, subst, ◌∙◌}
use Rattle.go_collections_core.specs.spelling_index.Spelled.{AreSpelled, places_of}
use Rattle.go_type_core.specs.table_core.MemberNames.{term_names}
use Rattle.go_embed_core.specs.Owners.{term_found, nobody}
use Rattle.go_embed_core.specs.mirrors.Tallies.{tallies, tally_of}
use Rattle.go_embed_core.proofs.owner.under_hits.Goals as goal

pub indexed_hits-requires : goal.indexed_hits-requires
indexed_hits-requires c = subst (λ t. AreSpelled (places_of c.in-Some.index.now) (term_names t)) (sym c.underlying-term.ensures) c.in-Some.ensures

pub returns-in-Some : goal.returns-in-Some
returns-in-Some c = c.indexed_hits.ensures ∙ ap (λ u. tallies (tally_of c.args.name.now c.args.from.now) (term_found nobody u)) c.underlying-term.ensures

pub returns-in-None : goal.returns-in-None
returns-in-None c = c.term_hits.ensures ∙ ap (λ u. tallies (tally_of c.args.name.now c.args.from.now) (term_found nobody u)) c.underlying-term.ensures
