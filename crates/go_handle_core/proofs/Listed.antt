-- The types of parameters and of results as lists.
use Rattle.std.proofs.Common.{◌≡◌, ℕ, ◌∷◌, length, Some, refl, ap, ◌∙◌}
use Rattle.std.specs.Prelude.{map, slice_get, option_map}
use Rattle.std.proofs.lemmas.List.{length-map}
use Rattle.std.proofs.lemmas.Option.{slice_get-map}
use Rattle.go_term_core.specs.Terms.{Term, Terms, NoTerm, ATerm, term_list}
use Rattle.go_table_core.specs.Entries.{EntryLook}
use Rattle.go_handle_core.specs.deciding.Rules.{typed, all_typed}

typed_list : (look : EntryLook) (ts : Terms) → all_typed look ts ≡ map (typed look) (term_list ts)
typed_list look NoTerm = refl
typed_list look (ATerm t ts) = ap (λ us. typed look t ∷ us) (typed_list look ts)

pub typed_length : (look : EntryLook) (ts : Terms) → length (all_typed look ts) ≡ length (term_list ts)
typed_length look ts = ap length (typed_list look ts) ∙ length-map (term_list ts) (typed look)

pub typed_at : (look : EntryLook) (ts : Terms) (i : ℕ) (t : Term) → slice_get (term_list ts) i ≡ Some t → slice_get (all_typed look ts) i ≡ Some (typed look t)
typed_at look ts i t at = ap (λ us. slice_get us i) (typed_list look ts) ∙ (slice_get-map (typed look) (term_list ts) i ∙ ap (option_map (typed look)) at)
