-- Tests of all elements of a list, and of two lists in step.
use Rattle.std.proofs.Common.{◌≡◌, ℕ, zero, suc, Bool, true, false, ◌==◌, List, [], ◌∷◌, length, refl, sym, ap, ◌∙◌}
use Rattle.std.specs.Prelude.{Option, Some, None, slice_get, if◌then◌else◌}
use Rattle.std.specs.List.{list_all}
use Rattle.std.proofs.lemmas.Bool.{and_parts, and_from, eqb-true, eq-eqb}
use Rattle.go_constant_core.specs.text_core.declared.rule.Rule.{Rule}
use Rattle.go_constant_core.specs.text_core.declared.rule.Rule.TheVariants.{Y4}
use Rattle.go_stmt_core.specs.statement.Assignments.{all_pairs, unless}
use Rattle.go_stmt_core.specs.statement.Relations.{Correspond}

pub all_each : {X : Type 0} (p : X → Bool) (xs : List X) → list_all p xs ≡ true → (i : ℕ) (x : X) → slice_get xs i ≡ Some x → p x ≡ true
all_each p [] h i x e = absurd cc
all_each p (y ∷ ys) h zero x e = let same : y ≡ x = cc in ap p (sym same) ∙ (and_parts (p y) (list_all p ys) h).0
all_each p (y ∷ ys) h (suc i) x e = all_each p ys (and_parts (p y) (list_all p ys) h).1 i x e

pub each_all : {X : Type 0} (p : X → Bool) (xs : List X) → ((i : ℕ) (x : X) → slice_get xs i ≡ Some x → p x ≡ true) → list_all p xs ≡ true
each_all p [] h = refl
each_all p (y ∷ ys) h = and_from (p y) (list_all p ys) (h 0 y refl) (each_all p ys (λ i x e. h (suc i) x e))

pub pairs_each : {X Y : Type 0} (p : X → Y → Bool) (xs : List X) (ys : List Y) → all_pairs p xs ys ≡ true
    → (i : ℕ) (x : X) (y : Y) → slice_get xs i ≡ Some x → slice_get ys i ≡ Some y → p x y ≡ true
pairs_each p [] ys h i x y e f = absurd cc
pairs_each p (a ∷ more) [] h i x y e f = absurd cc
pairs_each p (a ∷ more) (b ∷ bs) h zero x y e f =
    let left : a ≡ x = cc in
    let right : b ≡ y = cc in
    ap (λ z. p z y) (sym left) ∙ (ap (λ z. p a z) (sym right) ∙ (and_parts (p a b) (all_pairs p more bs) h).0)
pairs_each p (a ∷ more) (b ∷ bs) h (suc i) x y e f = pairs_each p more bs (and_parts (p a b) (all_pairs p more bs) h).1 i x y e f

pub each_pairs : {X Y : Type 0} (p : X → Y → Bool) (xs : List X) (ys : List Y)
    → ((i : ℕ) (x : X) (y : Y) → slice_get xs i ≡ Some x → slice_get ys i ≡ Some y → p x y ≡ true) → all_pairs p xs ys ≡ true
each_pairs p [] ys h = refl
each_pairs p (a ∷ more) [] h = refl
each_pairs p (a ∷ more) (b ∷ bs) h = and_from (p a b) (all_pairs p more bs) (h 0 a b refl refl) (each_pairs p more bs (λ i x y e f. h (suc i) x y e f))

-- one value for each, or Y4
abbrev pub counted : Bool → Bool → Option Rule
counted same pairs = if same then unless pairs else Some Y4

pub counted_only : (same pairs : Bool) → counted same pairs ≡ None → (same ≡ true) × (pairs ≡ true)
counted_only true true h = (refl, refl)
counted_only true false h = absurd cc
counted_only false pairs h = absurd cc

pub counted_well : (same pairs : Bool) → same ≡ true → pairs ≡ true → counted same pairs ≡ None
counted_well true true h k = refl
counted_well true false h k = absurd cc
counted_well false pairs h k = absurd cc

-- a test of pairs is a relation of those that belong together
pub corresponds : {X Y : Type 0} (p : X → Y → Bool) (R : X → Y → Type 0) → ((x : X) (y : Y) → p x y ≡ true → R x y) → (xs : List X) (ys : List Y)
    → counted (length xs == length ys) (all_pairs p xs ys) ≡ None → Correspond R xs ys
corresponds p R f xs ys h =
    let parts = counted_only (length xs == length ys) (all_pairs p xs ys) h in
    record {
      count = eqb-true (length xs) (length ys) parts.0;
      each = λ i x y e k. f x y (pairs_each p xs ys parts.1 i x y e k);
    }

pub corresponded : {X Y : Type 0} (p : X → Y → Bool) (R : X → Y → Type 0) → ((x : X) (y : Y) → R x y → p x y ≡ true) → (xs : List X) (ys : List Y)
    → Correspond R xs ys → counted (length xs == length ys) (all_pairs p xs ys) ≡ None
corresponded p R f xs ys h =
    counted_well (length xs == length ys) (all_pairs p xs ys) (eq-eqb (length xs) (length ys) h.count) (each_pairs p xs ys (λ i x y e k. f x y (h.each i x y e k)))
