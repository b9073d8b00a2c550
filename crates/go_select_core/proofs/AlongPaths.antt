-- The names along a path, step by step.
use Rattle.std.proofs.Common.{◌≡◌, ℕ, zero, suc, ◌+◌, ◌<◌, ◌≤◌, List, [], ◌∷◌, ◌++◌, length, map, drop, get_or, refl, sym, ap, ◌∙◌}
use Rattle.std.specs.Prelude.{option_map, option_to_list, slice_get}
use Rattle.std.proofs.lemmas.List.{append_assoc, append-nil, drop_more, drop_all}
use Rattle.go_embed_core.specs.table_core.Entries.{EntryLook, underlying_in}
use Rattle.go_term_core.specs.Terms.{Term}
use Rattle.go_term_core.specs.declared.term.Field.{Field}
use Rattle.go_term_core.specs.Shapes.{Line, fields_in}
use Rattle.go_embed_core.specs.Owners.{owner_in, embeds_at}
use Rattle.go_select_core.specs.PathNames.{embedded_target, field_name_at, names_along, term_field_name}

-- one step more
pub along_step : (look : EntryLook) (t u : Term) (steps : List ℕ) (i : ℕ) (now next all : List (List ℕ)) → i < length steps
    → next ≡ now ++ option_to_list (term_field_name (underlying_in look t) (get_or steps i 0)) → u ≡ embedded_target (embeds_at (owner_in look t) (get_or steps i 0))
    → now ++ names_along look t (drop i steps) ≡ all → next ++ names_along look u (drop (i + 1) steps) ≡ all
along_step look t u steps i now next all lt more to before =
    let here = option_to_list (term_field_name (underlying_in look t) (get_or steps i 0)) in
    let rest = names_along look (embedded_target (embeds_at (owner_in look t) (get_or steps i 0))) (drop (i + 1) steps) in
    ap (λ l. l ++ names_along look u (drop (i + 1) steps)) more
    ∙ (ap (λ v. (now ++ here) ++ names_along look v (drop (i + 1) steps)) to
    ∙ (append_assoc now here rest
    ∙ (ap (λ l. now ++ names_along look t l) (sym (drop_more steps i 0 lt)) ∙ before)))

pub along_end : (look : EntryLook) (t : Term) (steps : List ℕ) (i : ℕ) (now all : List (List ℕ)) → length steps ≤ i → now ++ names_along look t (drop i steps) ≡ all → now ≡ all
along_end look t steps i now all past before = sym (append-nil now) ∙ (ap (λ l. now ++ names_along look t l) (sym (drop_all i steps past)) ∙ before)

-- the name at a place of a list of fields
pub name_is : (ls : List Line) (fs : List Field) (i : ℕ) → option_map (λ f. f.name) (slice_get fs i) ≡ field_name_at (fields_in ls fs) i
name_is ls [] zero = refl
name_is ls [] (suc i) = refl
name_is ls (f ∷ fs) zero = refl
name_is ls (f ∷ fs) (suc i) = name_is ls fs i
