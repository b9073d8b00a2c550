-- Items of lists, and what is looked up in lists of pairs.
use Rattle.std.proofs.Common.{◌≡◌, ◌⊎◌, inl, inr, ℕ, zero, suc, ◌<◌, ◌+◌, Bool, cond, List, [], ◌∷◌, ◌++◌, map, get_or, Contains, All, Some, nat_eq, length, refl, sym, ap, subst, ◌∙◌, arith}
use Rattle.std.specs.Prelude.{slice_get}
use Rattle.std.specs.List.{flat_map}
use Rattle.std.specs.Map.{lookup}
use Rattle.std.proofs.lemmas.Bool.{eq-eqb, ne_eqb}
use Rattle.go_workspace_laws.proofs.FoldingInside.{none_left, none_right}

-- an item of a list
abbrev pub HasItem : {A : Type 0} → List A → A → Type 0
HasItem [] x = ⊥
HasItem (y ∷ ys) x = (y ≡ x) ⊎ HasItem ys x

has_at : {A : Type 0} (xs : List A) (x : A) (k : ℕ) → k < length xs → get_or xs k x ≡ x → HasItem xs x
has_at [] x k lt e = absurd (omega (arith, lt))
has_at (y ∷ ys) x zero lt e = inl e
has_at (y ∷ ys) x (suc k) lt e = inr (has_at ys x k (omega (arith, lt)) e)

pub has : {A : Type 0} (xs : List A) (x : A) → Contains xs x → HasItem xs x
has xs x h = has_at xs x h.0 h.1 h.2

pub contained : {A : Type 0} (xs : List A) (x : A) → HasItem xs x → Contains xs x
contained [] x h = absurd h
contained (y ∷ ys) x (inl e) = (let lt : 0 < suc (length ys) = omega arith in (0, lt, e))
contained (y ∷ ys) x (inr h) =
    let rest = contained ys x h in
    let low = rest.1 in
    let lt : suc rest.0 < suc (length ys) = omega (arith, low) in
    (suc rest.0, lt, rest.2)

pub has_left : {A : Type 0} (xs ys : List A) (x : A) → HasItem xs x → HasItem (xs ++ ys) x
has_left [] ys x h = absurd h
has_left (a ∷ xs) ys x (inl e) = inl e
has_left (a ∷ xs) ys x (inr h) = inr (has_left xs ys x h)

pub has_right : {A : Type 0} (xs ys : List A) (x : A) → HasItem ys x → HasItem (xs ++ ys) x
has_right [] ys x h = h
has_right (a ∷ xs) ys x h = inr (has_right xs ys x h)

pub has_either : {A : Type 0} (xs ys : List A) (x : A) → HasItem (xs ++ ys) x → HasItem xs x ⊎ HasItem ys x
has_either [] ys x h = inr h
has_either (a ∷ xs) ys x (inl e) = inl (inl e)
has_either (a ∷ xs) ys x (inr h) = elim (has_either xs ys x h) [
  | inl k ↦ inl (inr k)
  | inr k ↦ inr k
]

pub has_flat : {A B : Type 0} (g : A → List B) (xs : List A) (x : A) (y : B) → HasItem xs x → HasItem (g x) y → HasItem (flat_map g xs) y
has_flat g [] x y h k = absurd h
has_flat g (a ∷ xs) x y (inl e) k = has_left (g a) (flat_map g xs) y (subst (λ z. HasItem (g z) y) (sym e) k)
has_flat g (a ∷ xs) x y (inr h) k = has_right (g a) (flat_map g xs) y (has_flat g xs x y h k)

-- the item of a list of lists that has it
pub record InOne {A B : Type 0} (g : A → List B) (xs : List A) (y : B) : Type 0 where
  pub item : A
  pub there : HasItem xs item
  pub here : HasItem (g item) y

pub from_flat : {A B : Type 0} (g : A → List B) (xs : List A) (y : B) → HasItem (flat_map g xs) y → InOne g xs y
from_flat g [] y h = absurd h
from_flat g (a ∷ xs) y h = elim (has_either (g a) (flat_map g xs) y h) [
  | inl k ↦ record { item = a; there = inl refl; here = k }
  | inr k ↦ (let rest = from_flat g xs y k in record { item = rest.item; there = inr rest.there; here = rest.here })
]

pub has_map : {A B : Type 0} (g : A → B) (xs : List A) (x : A) → HasItem xs x → HasItem (map g xs) (g x)
has_map g [] x h = absurd h
has_map g (a ∷ xs) x (inl e) = inl (ap g e)
has_map g (a ∷ xs) x (inr h) = inr (has_map g xs x h)

pub has_of_all : {A : Type 0} (P : A → Type 0) (xs : List A) (x : A) → All P xs → HasItem xs x → P x
has_of_all P xs x h k = (let c = contained xs x k in subst P c.2 (h c.0 x c.1))

pub has_get : {A : Type 0} (xs : List A) (n : ℕ) (x : A) → slice_get xs n ≡ Some x → HasItem xs x
has_get [] n x e = absurd cc
has_get (y ∷ ys) zero x e = inl cc
has_get (y ∷ ys) (suc n) x e = inr (has_get ys n x e)

pub none_in : {A B : Type 0} (g : A → List B) (xs : List A) (x : A) → flat_map g xs ≡ [] → HasItem xs x → g x ≡ []
none_in g [] x e h = absurd h
none_in g (a ∷ xs) x e (inl s) = subst (λ z. g z ≡ []) s (none_left (g a) (flat_map g xs) e)
none_in g (a ∷ xs) x e (inr h) = none_in g xs x (none_right (g a) (flat_map g xs) e) h

-- looking up

module _ {X V : Type 0} (at : X → ℕ) (value : X → V) where
  -- each stands behind those before it
  abbrev pub Rising : List X → Type 0
  Rising [] = Unit {0}
  Rising (x ∷ xs) = ((y : X) → HasItem xs y → at x < at y) × Rising xs

  -- what is found at the place of an item is that item's
  pub found_at : (xs : List X) (x : X) → Rising xs → HasItem xs x → lookup (nat_eq (at x)) (map (λ y. (at y, value y)) xs) ≡ Some (value x)
  found_at [] x r h = absurd h
  found_at (y ∷ ys) x r (inl e) =
      ap (λ (b : Bool). cond b (Some (value y)) (lookup (nat_eq (at x)) (map (λ z. (at z, value z)) ys))) (eq-eqb (at x) (at y) (sym (ap at e))) ∙ ap (λ z. Some (value z)) e
  found_at (y ∷ ys) x r (inr h) =
      let up = r.0 x h in
      ap (λ (b : Bool). cond b (Some (value y)) (lookup (nat_eq (at x)) (map (λ z. (at z, value z)) ys))) (ne_eqb (at x) (at y) (λ s. omega (arith, s, up))) ∙ found_at ys x r.1 h
