-- Members of lists that lose or get some, and tests of them.
use Rattle.std.proofs.Common.{if◌then◌else◌, ◌≡◌, ◌⊎◌, inl, inr, ℕ, zero, suc, Bool, true, false, ◌||◌, List, [], ◌∷◌, ◌++◌, take, drop, refl, sym, ap, ◌∙◌, Some}
use Rattle.std.specs.Prelude.{find, remove}
use Rattle.std.specs.List.{list_any}
use Rattle.go_term_core.proofs.Members.{In, in_either}

-- of a list with one more: of the list, or that one
pub in_push : {A : Type 0} (xs : List A) (y x : A) → In (xs ++ y ∷ []) x → In xs x ⊎ (y ≡ x)
in_push xs y x h = elim (in_either xs (y ∷ []) x h) [
  | inl a ↦ inl a
  | inr b ↦ elim b [ inl e ↦ inr e | inr n ↦ absurd n ]
]

-- what is left of a list
in_take : {A : Type 0} (k : ℕ) (xs : List A) (x : A) → In (take k xs) x → In xs x
in_take zero xs x h = absurd h
in_take (suc k) [] x h = absurd h
in_take (suc k) (y ∷ ys) x (inl e) = inl e
in_take (suc k) (y ∷ ys) x (inr h) = inr (in_take k ys x h)

in_drop : {A : Type 0} (k : ℕ) (xs : List A) (x : A) → In (drop k xs) x → In xs x
in_drop zero xs x h = h
in_drop (suc k) [] x h = absurd h
in_drop (suc k) (y ∷ ys) x h = inr (in_drop k ys x h)

pub in_removed : {A : Type 0} (xs : List A) (k : ℕ) (x : A) → In (remove xs k) x → In xs x
in_removed xs k x h = elim (in_either (take k xs) (drop (suc k) xs) x h) [ inl a ↦ in_take k xs x a | inr b ↦ in_drop (suc k) xs x b ]

-- what is found is among the list
pub found_in : {A : Type 0} (t : A → Bool) (xs : List A) (x : A) → find t xs ≡ Some x → In xs x
found_in t [] x h = absurd (cc)
found_in t (y ∷ ys) x h = by (t y) h (found_in t ys x)
  where
    by : (b : Bool) → (if b then Some y else find t ys) ≡ Some x → (find t ys ≡ Some x → In ys x) → In (y ∷ ys) x
    by true e rest = inl (cc (e))
    by false e rest = inr (rest e)

-- where none passes a test, each fails it
pub none_passes : {A : Type 0} (t : A → Bool) (xs : List A) (x : A) → list_any t xs ≡ false → In xs x → t x ≡ false
none_passes t [] x h i = absurd i
none_passes t (y ∷ ys) x h i = by (t y) refl h i (none_passes t ys x)
  where
    by : (b : Bool) → t y ≡ b → (b || list_any t ys) ≡ false → In (y ∷ ys) x → (list_any t ys ≡ false → In ys x → t x ≡ false) → t x ≡ false
    by true e k i rest = absurd (cc)
    by false e k (inl same) rest = ap t (sym same) ∙ e
    by false e k (inr there) rest = rest k there

-- where a test holds of some, one passes it
pub one_passes : {A : Type 0} (t : A → Bool) (xs : List A) → list_any t xs ≡ true → (x : A) × In xs x × (t x ≡ true)
one_passes t [] h = absurd (cc)
one_passes t (y ∷ ys) h = by (t y) refl h (one_passes t ys)
  where
    by : (b : Bool) → t y ≡ b → (b || list_any t ys) ≡ true → (list_any t ys ≡ true → (x : _) × In ys x × (t x ≡ true)) → (x : _) × In (y ∷ ys) x × (t x ≡ true)
    by true e k rest = (y, inl refl, e)
    by false e k rest = let r = rest k in (r.0, inr r.1, r.2)

pub or_swap : (a b : Bool) → (a || b) ≡ (b || a)
or_swap true true = refl
or_swap true false = refl
or_swap false true = refl
or_swap false false = refl
