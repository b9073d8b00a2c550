-- What holds of each element, by recursion, and steps with Bools.
use Rattle.std.proofs.Common.{◌≡◌, Bool, true, false, cond, ◌&&◌, ◌||◌, ◌⊎◌, inl, inr, List, [], ◌∷◌, ◌++◌, filter, Some, refl, sym, ap, ◌∙◌}
use Rattle.std.specs.Prelude.{find}
use Rattle.std.specs.List.{list_any, list_all}

abbrev pub Each : {A : Type 0} → (A → Type 0) → List A → Type 0
Each P [] = Unit {0}
Each P (x ∷ xs) = P x × Each P xs

pub each-weaker : {A : Type 0} (P Q : A → Type 0) → ((x : A) → P x → Q x) → (xs : List A) → Each P xs → Each Q xs
each-weaker P Q f [] h = tt
each-weaker P Q f (x ∷ xs) h = (f x h.0, each-weaker P Q f xs h.1)

pub each-append : {A : Type 0} (P : A → Type 0) (xs ys : List A) → Each P xs → Each P ys → Each P (xs ++ ys)
each-append P [] ys h k = k
each-append P (x ∷ xs) ys h k = (h.0, each-append P xs ys h.1 k)

pub each-filter : {A : Type 0} (P : A → Type 0) (t : A → Bool) (xs : List A) → Each P xs → Each P (filter t xs)
each-filter P t [] h = tt
each-filter P t (x ∷ xs) h = by (t x) (each-filter P t xs h.1)
  where
    by : (b : Bool) → Each P (filter t xs) → Each P (cond b (x ∷ filter t xs) (filter t xs))
    by true rest = (h.0, rest)
    by false rest = rest

pub filter-none : {A : Type 0} (t : A → Bool) (xs : List A) → Each (λ x. t x ≡ false) xs → filter t xs ≡ []
filter-none t [] h = refl
filter-none t (x ∷ xs) h = ap (λ b. cond b (x ∷ filter t xs) (filter t xs)) h.0 ∙ filter-none t xs h.1

pub any-none : {A : Type 0} (t : A → Bool) (xs : List A) → Each (λ x. t x ≡ false) xs → list_any t xs ≡ false
any-none t [] h = refl
any-none t (x ∷ xs) h = ap (λ b. b || list_any t xs) h.0 ∙ any-none t xs h.1

pub any-same : {A : Type 0} (t u : A → Bool) (xs : List A) → Each (λ x. t x ≡ u x) xs → list_any t xs ≡ list_any u xs
any-same t u [] h = refl
any-same t u (x ∷ xs) h = ap (λ b. b || list_any t xs) h.0 ∙ ap (λ b. u x || b) (any-same t u xs h.1)

pub all-each : {A : Type 0} (t : A → Bool) (xs : List A) → Each (λ x. t x ≡ true) xs → list_all t xs ≡ true
all-each t [] h = refl
all-each t (x ∷ xs) h = ap (λ b. b && list_all t xs) h.0 ∙ all-each t xs h.1

-- where none passes, each fails
pub none-each : {A : Type 0} (t : A → Bool) (xs : List A) → list_any t xs ≡ false → Each (λ x. t x ≡ false) xs
none-each t [] h = tt
none-each t (x ∷ xs) h = by (t x) h (none-each t xs)
  where
    by : (b : Bool) → (b || list_any t xs) ≡ false → (list_any t xs ≡ false → Each (λ x. t x ≡ false) xs) → (b ≡ false) × Each (λ x. t x ≡ false) xs
    by true h rest = absurd (cc)
    by false h rest = (refl, rest h)

pub find-same : {A : Type 0} (t u : A → Bool) (xs : List A) → Each (λ x. t x ≡ u x) xs → find t xs ≡ find u xs
find-same t u [] h = refl
find-same t u (x ∷ xs) h = ap (λ b. cond b (Some x) (find t xs)) h.0 ∙ ap (λ o. cond (u x) (Some x) o) (find-same t u xs h.1)

pub true_or_false : (b : Bool) → (b ≡ true) ⊎ (b ≡ false)
true_or_false true = inl refl
true_or_false false = inr refl

pub and_false : (b : Bool) → (b && false) ≡ false
and_false true = refl
and_false false = refl

pub and_true : (b : Bool) → (b && true) ≡ b
and_true true = refl
and_true false = refl

pub or_false : (b : Bool) → (b || false) ≡ b
or_false true = refl
or_false false = refl

pub each-both : {A : Type 0} (P Q : A → Type 0) (xs : List A) → Each P xs → Each Q xs → Each (λ x. P x × Q x) xs
each-both P Q [] h k = tt
each-both P Q (x ∷ xs) h k = ((h.0, k.0), each-both P Q xs h.1 k.1)

pub absorbed : (b w : Bool) → (w ≡ true → b ≡ true) → (b || (w || false)) ≡ b
absorbed true w h = refl
absorbed false true h = sym (h refl)
absorbed false false h = refl

pub and_left : (a b : Bool) → (a && b) ≡ true → a ≡ true
and_left true b h = refl
and_left false b h = h
