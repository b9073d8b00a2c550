-- Which field is found, by how fields are spelled.
use Rattle.std.proofs.Common.{◌≡◌, ℕ, zero, suc, Bool, true, false, List, [], ◌∷◌, ◌⊎◌, inl, inr, if◌then◌else◌, refl, sym, ap, ◌∙◌, subst}
use Rattle.std.specs.Prelude.{◌↔◌, Some, slice_get}
use Rattle.std.specs.Str.{bytes_eq}
use Rattle.std.proofs.lemmas.Option.{none-some, same_Some}
use Rattle.std.proofs.lemmas.Bool.{true≢false}
use Rattle.go_denote_core.specs.declared.composite.things.LiteralField.{LiteralField}
use Rattle.go_denote_core.specs.declared.composite.things.NamedField.{NamedField}
use Rattle.go_denote_core.specs.declared.composite.things.NamedField.TheVariants as nameds
use Rattle.go_denote_core.specs.composite.Look.{FieldOf}
use Rattle.go_denote_core.specs.composite.Fields.{named_field, shown_field}
use Rattle.go_denote_core.specs.composite.Rules.{is_hidden_field, is_missing_field}
use Rattle.go_denote_core.specs.composite.Laws.{IsFieldSpelled, AreOneEach, NamedFields}
use Rattle.go_denote_core.proofs.CompositeNames.{bytes_same, bytes_itself}

-- a field is spelled so and is found, or none is
abbrev Search : (T D : Type 0) → List (FieldOf T D) → List ℕ → Type 0
Search T D fields name =
    ((known : LiteralField T D) × IsFieldSpelled T D fields name known × (named_field fields name ≡ shown_field known.is_visible known))
    ⊎ ((named_field fields name ≡ nameds.Missing) × ((known : LiteralField T D) → IsFieldSpelled T D fields name known → ⊥))

in_rest : {T D : Type 0} (f : FieldOf T D) (fields : List (FieldOf T D)) (name : List ℕ) (known : LiteralField T D) → bytes_eq f.name name ≡ false
    → (at : ℕ) → slice_get (f ∷ fields) at ≡ Some (record { name = name; known = known }) → IsFieldSpelled T D fields name known
in_rest f fields name known other zero there = absurd (true≢false (sym (bytes_itself f.name name (ap (λ g. g.name) (same_Some f (record { name = name; known = known }) there))) ∙ other))
in_rest f fields name known other (suc at) there = record { at = at; there = there }

searched : (T D : Type 0) (fields : List (FieldOf T D)) (name : List ℕ) → Search T D fields name
searched T D [] name = inr (refl, λ known spelled. none-some (record { name = name; known = known }) spelled.there)
searched T D (f ∷ fields) name = by (bytes_eq f.name name) refl (searched T D fields name)
  where
    by : (b : Bool) → bytes_eq f.name name ≡ b → Search T D fields name
        → ((known : LiteralField T D) × IsFieldSpelled T D (f ∷ fields) name known × ((if b then shown_field f.known.is_visible f.known else named_field fields name) ≡ shown_field known.is_visible known))
        ⊎ (((if b then shown_field f.known.is_visible f.known else named_field fields name) ≡ nameds.Missing) × ((known : LiteralField T D) → IsFieldSpelled T D (f ∷ fields) name known → ⊥))
    by true same rest = inl (f.known, record { at = 0; there = ap (λ n. Some (record { name = n; known = f.known })) (bytes_same f.name name same) }, refl)
    by false other (inl found) = inl (found.0, record { at = suc found.1.at; there = found.1.there }, found.2)
    by false other (inr gone) = inr (gone.0, λ known spelled. gone.1 known (in_rest f fields name known other spelled.at spelled.there))

abbrev field_in : {T D : Type 0} → LiteralField T D → NamedField T D → LiteralField T D
field_in d nameds.Hidden = d
field_in d nameds.Missing = d
field_in d (nameds.Visible field) = field

shown_visible : {T D : Type 0} (k known : LiteralField T D) (b : Bool) → k.is_visible ≡ b → shown_field b k ≡ nameds.Visible known → (k ≡ known) × (known.is_visible ≡ true)
shown_visible k known true v h = let same : k ≡ known = ap (field_in k) h in (same, sym (ap (λ x. x.is_visible) same) ∙ v)
shown_visible k known false v h = absurd (true≢false (ap is_hidden_field h))

shown_hidden : {T D : Type 0} (k : LiteralField T D) (b : Bool) → shown_field b k ≡ nameds.Hidden → b ≡ false
shown_hidden k true h = absurd (true≢false (sym (ap is_hidden_field h)))
shown_hidden k false h = refl

shown_missing : {T D : Type 0} (k : LiteralField T D) (b : Bool) → shown_field b k ≡ nameds.Missing → ⊥
shown_missing k true h = true≢false (sym (ap is_missing_field h))
shown_missing k false h = true≢false (sym (ap is_missing_field h))

visible_field : (T D : Type 0) (fields : List (FieldOf T D)) (name : List ℕ) → AreOneEach T D fields name → (known : LiteralField T D) → Search T D fields name
    → (named_field fields name ≡ nameds.Visible known) ↔ (IsFieldSpelled T D fields name known × (known.is_visible ≡ true))
visible_field T D fields name one known (inl found) = (
  λ h. let v = shown_visible found.0 known found.0.is_visible refl (sym found.2 ∙ h) in (subst (λ k. IsFieldSpelled T D fields name k) v.0 found.1, v.1),
  λ h. let same : found.0 ≡ known = one found.0 known found.1 h.0 in found.2 ∙ (ap (λ k. shown_field k.is_visible k) same ∙ ap (λ b. shown_field b known) h.1),
)
visible_field T D fields name one known (inr gone) = (λ h. absurd (true≢false (sym (ap is_missing_field (sym h ∙ gone.0)))), λ h. absurd (gone.1 known h.0))

hidden_field : (T D : Type 0) (fields : List (FieldOf T D)) (name : List ℕ) → AreOneEach T D fields name → Search T D fields name
    → (named_field fields name ≡ nameds.Hidden) ↔ ((known : LiteralField T D) × IsFieldSpelled T D fields name known × (known.is_visible ≡ false))
hidden_field T D fields name one (inl found) = (
  λ h. (found.0, found.1, shown_hidden found.0 found.0.is_visible (sym found.2 ∙ h)),
  λ h. let same : found.0 ≡ h.0 = one found.0 h.0 found.1 h.1 in found.2 ∙ (ap (λ k. shown_field k.is_visible k) same ∙ ap (λ b. shown_field b h.0) h.2),
)
hidden_field T D fields name one (inr gone) = (λ h. absurd (true≢false (sym (ap is_missing_field (sym h ∙ gone.0)))), λ h. absurd (gone.1 h.0 h.1))

missing_field : (T D : Type 0) (fields : List (FieldOf T D)) (name : List ℕ) → Search T D fields name
    → (named_field fields name ≡ nameds.Missing) ↔ ((known : LiteralField T D) → IsFieldSpelled T D fields name known → ⊥)
missing_field T D fields name (inl found) = (λ h. absurd (shown_missing found.0 found.0.is_visible (sym found.2 ∙ h)), λ h. absurd (h found.0 found.1))
missing_field T D fields name (inr gone) = (λ h. gone.1, λ h. gone.0)

pub named_fields : {T D : Type 0} → NamedFields T D
named_fields {T} {D} = record {
  visible = λ fields name one known. visible_field T D fields name one known (searched T D fields name);
  hidden = λ fields name one. hidden_field T D fields name one (searched T D fields name);
  missing = λ fields name. missing_field T D fields name (searched T D fields name);
}
