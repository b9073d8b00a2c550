-- The only embedded field of a type, as far as the loop over its fields has come.
use Rattle.std.proofs.Common.{◌≡◌, ℕ, ◌+◌, ◌<◌, ◌≤◌, Bool, true, false, Option, Some, None, refl, sym, ap, ◌∙◌, subst, arith, inl, inr}
use Rattle.std.specs.Prelude.{is_some, IfSome}
use Rattle.std.specs.Option.{option_map}
use Rattle.go_term_core.specs.Terms.{Term, NoType, Predeclared, ErrorType, Defined, PointerTo, StructOf, InterfaceOf}
use Rattle.go_embed_core.specs.table_core.Entries.{EntryLook, underlying_in}
use Rattle.go_term_core.specs.declared.settling.kind.Kind.TheVariants as kinds
use Rattle.go_term_core.specs.settling.Settled.{kind_of_term}
use Rattle.go_embed_core.specs.Owners.{OwnerModel, EmbeddedEdge, owner_in, edge_at, term_embedded, embeds_at, owner_field_count}
use Rattle.go_select_core.specs.levels.Selectors.{term_kind_in}
use Rattle.go_select_core.proofs.LevelsEdges.{step_at, step_edge, step_within, edge_place}
use Rattle.go_select_core.proofs.LevelsListLemmas.{less_or_same}
use Rattle.go_select_core.specs.declared.surveys.sole.SoleField.{SoleField}
use Rattle.go_select_core.specs.surveys.Sole.{IsSole}
use Rattle.go_select_core.specs.surveys.SoleShown.{sole_shown}
use Rattle.go_select_core.specs.surveys.mirrors.Alike.{IsSoleOf}

-- of the fields before a place, the only embedded one
abbrev pub SoleTo : OwnerModel → ℕ → Option EmbeddedEdge → Type 0
SoleTo o n None = (j : ℕ) → j < n → embeds_at o j ≡ None
SoleTo o n (Some e) = (embeds_at o e.position ≡ Some e) × ((j : ℕ) (g : EmbeddedEdge) → j < n → embeds_at o j ≡ Some g → g ≡ e)

pub sole_start : (o : OwnerModel) → SoleTo o 0 None
sole_start o = λ j less. absurd (omega (arith, less))

pub sole_skip : (o : OwnerModel) (n : ℕ) (s : Option EmbeddedEdge) → SoleTo o n s → embeds_at o n ≡ None → SoleTo o (n + 1) s
sole_skip o n None h none = λ j less. elim (less_or_same j n less) [ inl k ↦ h j k | inr k ↦ subst (λ i. embeds_at o i ≡ None) (sym k) none ]
sole_skip o n (Some e) h none = (
  h.0,
  λ j g less at. elim (less_or_same j n less) [
    | inl k ↦ h.1 j g k at
    | inr k ↦ absurd (let z : None ≡ Some g = sym none ∙ subst (λ i. embeds_at o i ≡ Some g) k at in (cc))
  ],
)

pub sole_found : (o : OwnerModel) (n : ℕ) (e : EmbeddedEdge) → SoleTo o n None → embeds_at o n ≡ Some e → SoleTo o (n + 1) (Some e)
sole_found o n e h at = (
  subst (λ i. embeds_at o i ≡ Some e) (sym (edge_place o n e at)) at,
  λ j g less here. elim (less_or_same j n less) [
    | inl k ↦ absurd (let z : None ≡ Some g = sym (h j k) ∙ here in (cc))
    | inr k ↦ let z : Some g ≡ Some e = sym (subst (λ i. embeds_at o i ≡ Some g) k here) ∙ at in (cc)
  ],
)

pub sole_end : (look : EntryLook) (t : Term) (n : ℕ) (e : EmbeddedEdge) → SoleTo (owner_in look t) n (Some e) → owner_field_count (owner_in look t) ≤ n → IsSole look t e
sole_end look t n e h all =
    record {
      step = step_at look t e.position e h.0;
      only = λ i p u s.
          let x = step_edge look t i p u s in
          let within = step_within look t i p u s in
          let same : x.0 ≡ e = h.1 i x.0 (omega (arith, within, all)) x.1 in (
            sym x.3 ∙ ap (λ (y : EmbeddedEdge). y.position) same,
            sym x.4 ∙ ap (λ (y : EmbeddedEdge). y.pointer) same,
            sym x.5 ∙ ap (λ (y : EmbeddedEdge). y.target) same,
          );
    }

pub sole_of : (o : OwnerModel) (n : ℕ) (s : Option EmbeddedEdge) (e : EmbeddedEdge) → SoleTo o n s → s ≡ Some e → owner_field_count o ≤ n → IsSoleOf o e
sole_of o n s e h is all =
    λ look t same. sole_end look t n e (subst (λ p. SoleTo p n (Some e)) same (subst (λ r. SoleTo o n r) is h)) (subst (λ p. owner_field_count p ≤ n) same all)

-- the same of what the program holds

pub held_skip : (o : OwnerModel) (n : ℕ) (s s' : Option SoleField) → SoleTo o n (option_map sole_shown s) → s' ≡ s → embeds_at o n ≡ None → SoleTo o (n + 1) (option_map sole_shown s')
held_skip o n s s' h same none = subst (λ (r : Option SoleField). SoleTo o (n + 1) (option_map sole_shown r)) (sym same) (sole_skip o n (option_map sole_shown s) h none)

pub held_found : (o : OwnerModel) (n : ℕ) (s s' : Option SoleField) (e : SoleField) (b : Bool) → SoleTo o n (option_map sole_shown s) → b ≡ is_some s → b ≡ false → s' ≡ Some e → embeds_at o n ≡ Some (sole_shown e) → SoleTo o (n + 1) (option_map sole_shown s')
held_found o n None s' e b h is none same at = subst (λ (r : Option SoleField). SoleTo o (n + 1) (option_map sole_shown r)) (sym same) (sole_found o n (sole_shown e) h at)
held_found o n (Some f) s' e b h is none same at = absurd (let z : true ≡ false = sym is ∙ none in (cc))

pub held_end : (o : OwnerModel) (n : ℕ) (s : Option SoleField) → SoleTo o n (option_map sole_shown s) → owner_field_count o ≤ n → IfSome s (λ e. IsSoleOf o (sole_shown e))
held_end o n None h all = tt
held_end o n (Some e) h all = sole_of o n (Some (sole_shown e)) (sole_shown e) h refl all

-- a type that embeds another is a struct type, or declared as one
struct_kind : (o : OwnerModel) (u : Term) (i : ℕ) (e : EmbeddedEdge) → edge_at (term_embedded o u) i ≡ Some e → kind_of_term u ≡ kinds.Other
struct_kind o NoType i e h = absurd (let z : None ≡ Some e = h in (cc))
struct_kind o (Predeclared b) i e h = refl
struct_kind o ErrorType i e h = absurd (let z : None ≡ Some e = h in (cc))
struct_kind o (Defined k) i e h = refl
struct_kind o (PointerTo t) i e h = absurd (let z : None ≡ Some e = h in (cc))
struct_kind o (StructOf path fs) i e h = refl
struct_kind o (InterfaceOf path ms) i e h = absurd (let z : None ≡ Some e = h in (cc))

pub sole_kind : (look : EntryLook) (t : Term) (e : EmbeddedEdge) → IsSole look t e → term_kind_in look t ≡ kinds.Other
sole_kind look t e h =
    let x = step_edge look t e.position e.pointer e.target h.step in
    struct_kind (owner_in look t) (underlying_in look t) e.position x.0 x.1
