use Rattle.std.proofs.Common.{map, ap, subst, ◌∙◌}
use Rattle.go_collections_core.specs.spelling_index.Spelled.{AreSpelled, places_of}
use Rattle.go_table_core.proofs.indexed.interface_index.Goals as goal

pub returns : goal.returns
returns c = subst (λ names. AreSpelled (places_of c.in_ok-index.index) names) (ap (map (λ n. n.now)) c.as_slice.ensures.value ∙ c.in_ok-names.ensures) c.in_ok-index.ensures
