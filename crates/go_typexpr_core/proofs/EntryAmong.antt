-- Items of lists, by recursion.
use Rattle.std.proofs.Common.{◌≡◌, ℕ, zero, suc, ◌+◌, ◌<◌, ◌⊎◌, inl, inr, Bool, true, false, List, [], ◌∷◌, ◌++◌, length, get_or, map, Some, None, cond, refl, sym, ap, ◌∙◌, subst, arith}
use Rattle.std.specs.Prelude.{slice_get, Contains}
use Rattle.std.specs.List.{filter, flat_map, enumerate_from}
use Rattle.std.proofs.lemmas.Bool.{true≢false}

abbrev pub Among : {A : Type 0} → List A → A → Type 0
Among [] x = ⊥
Among (y ∷ ys) x = (y ≡ x) ⊎ Among ys x

pub among_from : {A : Type 0} (xs : List A) (x : A) → Contains xs x → Among xs x
among_from [] x h = (let lt = h.1 in absurd (omega (arith, lt)))
among_from (y ∷ ys) x h = by h.0 h.1 h.2 (λ c. among_from ys x c)
  where
    by : (k : ℕ) → k < length (y ∷ ys) → get_or (y ∷ ys) k x ≡ x → (Contains ys x → Among ys x) → (y ≡ x) ⊎ Among ys x
    by zero lt at rest = inl at
    by (suc k) lt at rest = inr (rest (k, (let less : k < length ys = omega (arith, lt) in less), at))

pub among_to : {A : Type 0} (xs : List A) (x : A) → Among xs x → Contains xs x
among_to [] x h = absurd h
among_to (y ∷ ys) x h = elim h [
  | inl e ↦ (0, (let lt : 0 < suc (length ys) = omega arith in lt), e)
  | inr r ↦ (let c = among_to ys x r in (suc c.0, (let less = c.1 in let lt : suc c.0 < suc (length ys) = omega (arith, less) in lt), c.2))
]

pub among_left : {A : Type 0} (xs ys : List A) (x : A) → Among xs x → Among (xs ++ ys) x
among_left [] ys x h = absurd h
among_left (z ∷ xs) ys x h = elim h [ inl e ↦ inl e | inr r ↦ inr (among_left xs ys x r) ]

pub among_right : {A : Type 0} (xs ys : List A) (x : A) → Among ys x → Among (xs ++ ys) x
among_right [] ys x h = h
among_right (z ∷ xs) ys x h = inr (among_right xs ys x h)

pub among_cases : {A : Type 0} (xs ys : List A) (x : A) → Among (xs ++ ys) x → Among xs x ⊎ Among ys x
among_cases [] ys x h = inr h
among_cases (z ∷ xs) ys x h = elim h [
  | inl e ↦ inl (inl e)
  | inr r ↦ elim (among_cases xs ys x r) [ inl l ↦ inl (inr l) | inr s ↦ inr s ]
]

-- an item of one of the lists
pub among_flat : {A B : Type 0} (f : A → List B) (xs : List A) (b : B) → Among (flat_map f xs) b → (x : A) × Among xs x × Among (f x) b
among_flat f [] b h = absurd h
among_flat f (x ∷ xs) b h = elim (among_cases (f x) (flat_map f xs) b h) [
  | inl l ↦ (x, inl refl, l)
  | inr r ↦ (let s = among_flat f xs b r in (s.0, inr s.1, s.2))
]

pub flat_among : {A B : Type 0} (f : A → List B) (xs : List A) (b : B) (x : A) → Among xs x → Among (f x) b → Among (flat_map f xs) b
flat_among f [] b x h k = absurd h
flat_among f (y ∷ xs) b x h k = elim h [
  | inl e ↦ among_left (f y) (flat_map f xs) b (subst (λ z. Among (f z) b) (sym e) k)
  | inr r ↦ among_right (f y) (flat_map f xs) b (flat_among f xs b x r k)
]

-- an item with its number
pub among_numbered : {A : Type 0} (n : ℕ) (xs : List A) (p : ℕ × A) → Among (enumerate_from n xs) p → (k : ℕ) × (p.0 ≡ n + k) × (slice_get xs k ≡ Some p.1)
among_numbered n [] p h = absurd h
among_numbered n (x ∷ xs) p h = elim h [
  | inl e ↦ (0, (let at : n ≡ p.0 = ap (λ q. q.0) e in let s : p.0 ≡ n + 0 = omega (arith, at) in s), ap (λ q. Some q.1) e)
  | inr r ↦ (let s = among_numbered (n + 1) xs p r in let at = s.1 in (suc s.0, (let t : p.0 ≡ n + suc s.0 = omega (arith, at) in t), s.2))
]

pub numbered_among : {A : Type 0} (n : ℕ) (xs : List A) (k : ℕ) (x : A) → slice_get xs k ≡ Some x → Among (enumerate_from n xs) (n + k, x)
numbered_among n [] k x h = absurd (let no : None ≡ Some x = h in cc)
numbered_among n (y ∷ xs) zero x h =
    let same : y ≡ x = (let s : Some y ≡ Some x = h in cc) in
    let at : n ≡ n + 0 = omega arith in
    inl (λ i. (at i, same i))
numbered_among n (y ∷ xs) (suc k) x h =
    let at : n + 1 + k ≡ n + suc k = omega arith in
    inr (subst (λ (m : ℕ). Among (enumerate_from (n + 1) xs) (m, x)) at (numbered_among (n + 1) xs k x h))

-- an item that passes a test
pub among_filter : {A : Type 0} (p : A → Bool) (xs : List A) (x : A) → Among (filter p xs) x → Among xs x × (p x ≡ true)
among_filter p [] x h = absurd h
among_filter p (y ∷ xs) x h = by (p y) refl h (λ r. among_filter p xs x r)
  where
    by : (b : Bool) → p y ≡ b → Among (cond b (y ∷ filter p xs) (filter p xs)) x → (Among (filter p xs) x → Among xs x × (p x ≡ true)) → ((y ≡ x) ⊎ Among xs x) × (p x ≡ true)
    by true t h rest = elim h [
      | inl e ↦ (inl e, ap p (sym e) ∙ t)
      | inr r ↦ (let s = rest r in (inr s.0, s.1))
    ]
    by false t h rest = (let s = rest h in (inr s.0, s.1))

pub filter_among : {A : Type 0} (p : A → Bool) (xs : List A) (x : A) → Among xs x → p x ≡ true → Among (filter p xs) x
filter_among p [] x h k = absurd h
filter_among p (y ∷ xs) x h k = by (p y) refl (λ r. filter_among p xs x r k)
  where
    by : (b : Bool) → p y ≡ b → (Among xs x → Among (filter p xs) x) → Among (cond b (y ∷ filter p xs) (filter p xs)) x
    by true t rest = elim h [ inl e ↦ inl e | inr r ↦ inr (rest r) ]
    by false t rest = elim h [
      | inl e ↦ absurd (true≢false (sym k ∙ (ap p (sym e) ∙ t)))
      | inr r ↦ rest r
    ]

pub among_map : {A B : Type 0} (f : A → B) (xs : List A) (b : B) → Among (map f xs) b → (x : A) × Among xs x × (f x ≡ b)
among_map f [] b h = absurd h
among_map f (x ∷ xs) b h = elim h [
  | inl e ↦ (x, inl refl, e)
  | inr r ↦ (let s = among_map f xs b r in (s.0, inr s.1, s.2))
]

pub map_among : {A B : Type 0} (f : A → B) (xs : List A) (b : B) (x : A) → Among xs x → f x ≡ b → Among (map f xs) b
map_among f [] b x h k = absurd h
map_among f (y ∷ xs) b x h k = elim h [ inl e ↦ inl (ap f e ∙ k) | inr r ↦ inr (map_among f xs b x r k) ]
