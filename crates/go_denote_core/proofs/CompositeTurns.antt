-- What a turn of a loop over fields adds.
use Rattle.std.proofs.Common.{◌≡◌, ℕ, ◌+◌, true, false, ◌&&◌, List, ◌∷◌, drop, refl, sym, ap, ◌∙◌}
use Rattle.std.specs.Prelude.{Option, Some, None, option_map, slice_get}
use Rattle.std.specs.List.{list_all}
use Rattle.std.proofs.lemmas.Option.{slice_get_within, get_or_from_slice_get, none-some, same_Some}
use Rattle.std.proofs.lemmas.List.{drop_more}
use Rattle.go_denote_core.specs.declared.composite.things.LiteralField.{LiteralField}
use Rattle.go_denote_core.specs.composite.Look.{FieldOf}
use Rattle.go_denote_core.specs.composite.Literals.{is_visible_field}

-- one field
visible_turn : {T D : Type 0} (fs : List (FieldOf T D)) (i : ℕ) (field : LiteralField T D) → option_map (λ f. f.known) (slice_get fs i) ≡ Some field
    → list_all is_visible_field (drop i fs) ≡ (field.is_visible && list_all is_visible_field (drop (i + 1) fs))
visible_turn {T} {D} fs i field at = by (slice_get fs i) refl at
  where
    by : (o : Option (FieldOf T D)) → slice_get fs i ≡ o → option_map (λ f. f.known) o ≡ Some field → list_all is_visible_field (drop i fs) ≡ (field.is_visible && list_all is_visible_field (drop (i + 1) fs))
    by None e h = absurd (none-some field h)
    by (Some f) e h =
        ap (list_all is_visible_field) (drop_more fs i f (slice_get_within fs i f e) ∙ ap (λ g. g ∷ drop (i + 1) fs) (get_or_from_slice_get fs i f f e))
        ∙ ap (λ k. k.is_visible && list_all is_visible_field (drop (i + 1) fs)) (same_Some f.known field h)

-- one that is not visible, and one that is

pub visible_stops : {T D : Type 0} (fs : List (FieldOf T D)) (i : ℕ) (field : LiteralField T D) → option_map (λ f. f.known) (slice_get fs i) ≡ Some field
    → list_all is_visible_field (drop i fs) ≡ list_all is_visible_field fs → field.is_visible ≡ false → false ≡ list_all is_visible_field fs
visible_stops fs i field at before bad = sym (sym before ∙ (visible_turn fs i field at ∙ ap (λ b. b && list_all is_visible_field (drop (i + 1) fs)) bad))

pub visible_goes_on : {T D : Type 0} (fs : List (FieldOf T D)) (i : ℕ) (field : LiteralField T D) → option_map (λ f. f.known) (slice_get fs i) ≡ Some field
    → list_all is_visible_field (drop i fs) ≡ list_all is_visible_field fs → field.is_visible ≡ true → list_all is_visible_field (drop (i + 1) fs) ≡ list_all is_visible_field fs
visible_goes_on fs i field at before fine = sym (visible_turn fs i field at ∙ ap (λ b. b && list_all is_visible_field (drop (i + 1) fs)) fine) ∙ before
