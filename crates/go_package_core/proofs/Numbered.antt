-- Numbered items, and lists that correspond.
use Rattle.std.proofs.Common.{◌≡◌, ℕ, zero, suc, ◌+◌, ◌<◌, ◌≤◌, List, [], ◌∷◌, ◌++◌, map, length, take, get_or, refl, sym, ap, subst, ◌∙◌, arith}
use Rattle.std.specs.Prelude.{Option, Some, None, slice_get}
use Rattle.std.specs.List.{AllZip, flat_map, enumerate_from}
use Rattle.std.proofs.lemmas.List.{length-append}

pub numbered_at : {A : Type 0} (m : ℕ) (xs : List A) (n : ℕ) (x : A) → slice_get xs n ≡ Some x → slice_get (enumerate_from m xs) n ≡ Some (m + n, x)
numbered_at m [] n x h = absurd (let no : None ≡ Some x = h in cc)
numbered_at m (y ∷ xs) zero x h =
    let same : y ≡ x = (let s : Some y ≡ Some x = h in cc) in
    let at : m ≡ m + 0 = omega arith in
    λ i. Some (at i, same i)
numbered_at m (y ∷ xs) (suc n) x h =
    let at : m + 1 + n ≡ m + suc n = omega arith in
    numbered_at (m + 1) xs n x h ∙ ap (λ (k : ℕ). Some (k, x)) at

one_more : {A : Type 0} (m : ℕ) (xs : List A) (n : ℕ) (x : A) → slice_get xs n ≡ Some x → enumerate_from m (take (suc n) xs) ≡ enumerate_from m (take n xs) ++ (m + n, x) ∷ []
one_more m [] n x h = absurd (let no : None ≡ Some x = h in cc)
one_more m (y ∷ xs) zero x h =
    let same : y ≡ x = (let s : Some y ≡ Some x = h in cc) in
    let at : m ≡ m + 0 = omega arith in
    λ i. (at i, same i) ∷ []
one_more m (y ∷ xs) (suc n) x h =
    let at : m + 1 + n ≡ m + suc n = omega arith in
    ap (λ l. (m, y) ∷ l) (one_more (m + 1) xs n x h ∙ ap (λ (k : ℕ). enumerate_from (m + 1) (take n xs) ++ (k, x) ∷ []) at)

pub numbered_more : {A : Type 0} (xs : List A) (n : ℕ) (x : A) → slice_get xs n ≡ Some x → enumerate_from 0 (take (n + 1) xs) ≡ enumerate_from 0 (take n xs) ++ (n, x) ∷ []
numbered_more xs n x h =
    let next : n + 1 ≡ suc n = omega arith in
    let at : 0 + n ≡ n = omega arith in
    ap (λ (k : ℕ). enumerate_from 0 (take k xs)) next ∙ (one_more 0 xs n x h ∙ ap (λ (k : ℕ). enumerate_from 0 (take n xs) ++ (k, x) ∷ []) at)

-- a front of a list gives no more than the list
pub front_within : {A B C : Type 0} (f : ℕ × B → List C) (g : A → B) (m : ℕ) (xs : List A) (k : ℕ) → length (flat_map f (enumerate_from m (map g (take k xs)))) ≤ length (flat_map f (enumerate_from m (map g xs)))
front_within f g m [] zero = omega arith
front_within f g m [] (suc k) = omega arith
front_within f g m (x ∷ xs) zero = omega arith
front_within f g m (x ∷ xs) (suc k) =
    let rest = front_within f g (m + 1) xs k in
    let a = length-append (f (m, g x)) (flat_map f (enumerate_from (m + 1) (map g (take k xs)))) in
    let b = length-append (f (m, g x)) (flat_map f (enumerate_from (m + 1) (map g xs))) in
    omega (arith, rest, a, b)

pub take_map : {A B : Type 0} (f : A → B) (n : ℕ) (xs : List A) → take n (map f xs) ≡ map f (take n xs)
take_map f zero xs = refl
take_map f (suc n) [] = refl
take_map f (suc n) (x ∷ xs) = ap (λ l. f x ∷ l) (take_map f n xs)

-- lists that correspond

pub zip_read : {A B V : Type 0} (R : A → B → Type 0) (show : V → B) (xs : List A) (vs : List V) (n : ℕ) (x : A) (v : V) → AllZip R xs (map show vs) → slice_get xs n ≡ Some x → v ≡ get_or vs n v → R x (show v)
zip_read R show [] vs n x v h at is = absurd (let no : None ≡ Some x = at in cc)
zip_read R show (y ∷ xs) [] n x v h at is = absurd h
zip_read R show (y ∷ xs) (w ∷ vs) zero x v h at is =
    let same : y ≡ x = (let s : Some y ≡ Some x = at in cc) in
    subst (λ a. R a (show v)) same (subst (λ b. R y (show b)) (sym is) h.0)
zip_read R show (y ∷ xs) (w ∷ vs) (suc n) x v h at is = zip_read R show xs vs n x v h.1 at is

pub zip_pair : {A B : Type 0} (R : A → B → Type 0) (xs : List A) (ys : List B) (n : ℕ) (x : A) (y : B) → AllZip R xs ys → slice_get xs n ≡ Some x → slice_get ys n ≡ Some y → R x y
zip_pair R [] ys n x y h at there = absurd (let no : None ≡ Some x = at in cc)
zip_pair R (a ∷ xs) [] n x y h at there = absurd h
zip_pair R (a ∷ xs) (b ∷ ys) zero x y h at there =
    let first : a ≡ x = (let s : Some a ≡ Some x = at in cc) in
    let second : b ≡ y = (let s : Some b ≡ Some y = there in cc) in
    subst (λ c. R c y) first (subst (λ c. R a c) second h.0)
zip_pair R (a ∷ xs) (b ∷ ys) (suc n) x y h at there = zip_pair R xs ys n x y h.1 at there

pub zip_length : {A B : Type 0} (R : A → B → Type 0) (xs : List A) (ys : List B) → AllZip R xs ys → length ys ≡ length xs
zip_length R [] [] h = refl
zip_length R [] (y ∷ ys) h = absurd h
zip_length R (x ∷ xs) [] h = absurd h
zip_length R (x ∷ xs) (y ∷ ys) h = ap suc (zip_length R xs ys h.1)

pub zip_same : {A B : Type 0} (R : A → B → Type 0) → ((x : A) (y z : B) → R x y → R x z → y ≡ z) → (xs : List A) (ys zs : List B) → AllZip R xs ys → AllZip R xs zs → ys ≡ zs
zip_same R one [] [] [] h k = refl
zip_same R one [] [] (z ∷ zs) h k = absurd k
zip_same R one [] (y ∷ ys) zs h k = absurd h
zip_same R one (x ∷ xs) [] zs h k = absurd h
zip_same R one (x ∷ xs) (y ∷ ys) [] h k = absurd k
zip_same R one (x ∷ xs) (y ∷ ys) (z ∷ zs) h k =
    let first = one x y z h.0 k.0 in
    let rest = zip_same R one xs ys zs h.1 k.1 in
    λ i. first i ∷ rest i
