use Rattle.std.proofs.Common.{ap, ◌∙◌}
use Rattle.go_collections_core.specs.spelling_index.Spelled.{places_of}
use Rattle.go_embed_core.specs.Owners.{term_found, is_spelled_in, nobody}
use Rattle.go_embed_core.proofs.Placing.{term_named}
use Rattle.go_embed_core.proofs.owner.is_under_spelled.Goals as goal

pub returns-in-Some : goal.returns-in-Some
returns-in-Some c = c.is_indexed.ensures ∙ term_named c.args.name.now c.args.defined.now.term (places_of c.in-Some.index.now) c.in-Some.ensures

pub returns-in-None : goal.returns-in-None
returns-in-None c = c.is_spelled.ensures ∙ ap (λ u. is_spelled_in (term_found nobody u) c.args.name.now) c.underlying.ensures
