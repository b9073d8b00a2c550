-- Lists that grow at their end.
use Rattle.std.proofs.Common.{◌≡◌, ◌⊎◌, ℕ, zero, suc, ◌+◌, ◌-◌, ◌<◌, ◌≤◌, List, [], ◌∷◌, ◌++◌, length, take, get_or, Some, None, refl, ap, subst, ◌∙◌, inl, inr, ⊎_elim, arith}
use Rattle.std.specs.Prelude.{slice_get}
use Rattle.std.specs.List.{fold}
use Rattle.std.proofs.lemmas.List.{take_more, take_all}
use Rattle.std.proofs.lemmas.Option.{slice_get-get_or}
use Rattle.go_graph_core.specs.Lists.{AllNumbered}

pub at_end : {X : Type 0} (xs : List X) (y : X) (k : ℕ) (x : X) → slice_get (xs ++ y ∷ []) k ≡ Some x → ((k < length xs) × (slice_get xs k ≡ Some x)) ⊎ ((k ≡ length xs) × (y ≡ x))
at_end [] y zero x e = inr (refl, (cc))
at_end [] y (suc k) x e = absurd (cc)
at_end (z ∷ xs) y zero x e = inl (omega arith, e)
at_end (z ∷ xs) y (suc k) x e =
    ⊎_elim
    (λ (l : (k < length xs) × (slice_get xs k ≡ Some x)). inl (omega (arith, l.0), l.1))
    (λ (r : (k ≡ length xs) × (y ≡ x)). inr (omega (arith, r.0), r.1))
    (at_end xs y k x e)

pub none_last : {X : Type 0} (xs : List X) → slice_get xs (length xs - 1) ≡ None → xs ≡ []
none_last [] e = refl
none_last (x ∷ xs) e = absurd (let some = slice_get-get_or (x ∷ xs) (length (x ∷ xs) - 1) x (omega arith) in (cc))

pub at_push : {X : Type 0} (xs : List X) (y : X) (n : ℕ) → n ≡ length xs → slice_get (xs ++ y ∷ []) n ≡ Some y
at_push [] y zero e = refl
at_push [] y (suc n) e = absurd (omega (arith, e))
at_push (x ∷ xs) y zero e = absurd (omega (arith, e))
at_push (x ∷ xs) y (suc n) e = at_push xs y n (omega (arith, e))

pub fold_push : {A B : Type 0} (f : B → A → B) (z : B) (xs : List A) (y : A) → fold f z (xs ++ y ∷ []) ≡ f (fold f z xs) y
fold_push f z [] y = refl
fold_push f z (x ∷ xs) y = fold_push f (f z x) xs y

pub fold_more : {A B : Type 0} (f : B → A → B) (z : B) (xs : List A) (i : ℕ) (d : A) → i < length xs → fold f z (take (i + 1) xs) ≡ f (fold f z (take i xs)) (get_or xs i d)
fold_more f z xs i d within = ap (fold f z) (take_more xs i d within) ∙ fold_push f z (take i xs) (get_or xs i d)

pub fold_all : {A B : Type 0} (f : B → A → B) (z : B) (xs : List A) (i : ℕ) → length xs ≤ i → fold f z (take i xs) ≡ fold f z xs
fold_all f z xs i end = ap (fold f z) (take_all i xs end)

pub never_none : {X : Type 0} (xs : List X) (k : ℕ) → k < length xs → slice_get xs k ≡ None → ⊥
never_none [] k within e = omega arith
never_none (x ∷ xs) zero within e = cc
never_none (x ∷ xs) (suc k) within e = never_none xs k (omega arith) e

-- what holds of each pair of two lists holds at each number
pub numbered_at : {A B : Type 0} (R : ℕ → A → B → Type 0) (k : ℕ) (xs : List A) (ys : List B) (n : ℕ) (x : A) (y : B) → AllNumbered R k xs ys → slice_get xs n ≡ Some x → slice_get ys n ≡ Some y → R (n + k) x y
numbered_at R k [] ys n x y all at there = absurd (cc)
numbered_at R k (u ∷ xs) [] n x y all at there = absurd (cc)
numbered_at R k (u ∷ xs) (v ∷ ys) zero x y all at there =
    let one : u ≡ x = cc in
    let other : v ≡ y = cc in
    subst (λ (m : ℕ). R m x y) (let e : k ≡ 0 + k = omega arith in e) (subst (λ z. R k z y) one (subst (λ z. R k u z) other all.0))
numbered_at R k (u ∷ xs) (v ∷ ys) (suc n) x y all at there =
    subst (λ (m : ℕ). R m x y) (let e : n + suc k ≡ suc n + k = omega arith in e) (numbered_at R (suc k) xs ys n x y all.1 at there)
