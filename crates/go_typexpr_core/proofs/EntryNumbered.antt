-- Lists that are made of numbered items.
use Rattle.std.proofs.Common.{◌≡◌, ℕ, suc, ◌+◌, ◌<◌, ◌≤◌, List, [], ◌∷◌, ◌++◌, length, get_or, take, map, refl, sym, ap, ◌∙◌, append_assoc, append-nil, arith}
use Rattle.std.specs.List.{flat_map, enumerate_from}
use Rattle.std.proofs.lemmas.List.{length-map, length-take-le, map_more}

pub flat_map-append : {A B : Type 0} (f : A → List B) (xs ys : List A) → flat_map f (xs ++ ys) ≡ flat_map f xs ++ flat_map f ys
flat_map-append f [] ys = refl
flat_map-append f (x ∷ xs) ys = ap (λ l. f x ++ l) (flat_map-append f xs ys) ∙ sym (append_assoc (f x) (flat_map f xs) (flat_map f ys))

pub flat_map-push : {A B : Type 0} (f : A → List B) (xs : List A) (x : A) → flat_map f (xs ++ x ∷ []) ≡ flat_map f xs ++ f x
flat_map-push f xs x = flat_map-append f xs (x ∷ []) ∙ ap (λ l. flat_map f xs ++ l) (append-nil (f x))

pub map-flat_map : {A B C : Type 0} (g : B → C) (f : A → List B) (h : A → List C) → ((x : A) → map g (f x) ≡ h x) → (xs : List A) → map g (flat_map f xs) ≡ flat_map h xs
map-flat_map g f h each [] = refl
map-flat_map g f h each (x ∷ xs) = map_both g (f x) (flat_map f xs) ∙ (ap (λ l. l ++ map g (flat_map f xs)) (each x) ∙ ap (λ l. h x ++ l) (map-flat_map g f h each xs))
  where
    map_both : {B C : Type 0} (g : B → C) (xs ys : List B) → map g (xs ++ ys) ≡ map g xs ++ map g ys
    map_both g [] ys = refl
    map_both g (x ∷ xs) ys = ap (λ l. g x ∷ l) (map_both g xs ys)

pub enumerate_from-append : {A : Type 0} (n : ℕ) (xs ys : List A) → enumerate_from n (xs ++ ys) ≡ enumerate_from n xs ++ enumerate_from (n + length xs) ys
enumerate_from-append n [] ys = ap (λ m. enumerate_from m ys) (let e : n ≡ n + 0 = omega arith in e)
enumerate_from-append n (x ∷ xs) ys =
    ap (λ l. (n, x) ∷ l)
    (enumerate_from-append (n + 1) xs ys
    ∙ ap (λ m. enumerate_from (n + 1) xs ++ enumerate_from m ys) (let e : n + 1 + length xs ≡ n + suc (length xs) = omega arith in e))

pub flat_numbered : {A B : Type 0} (f : ℕ × A → List B) (xs : List A) (x : A) (n : ℕ) → length xs ≡ n → flat_map f (enumerate_from 0 (xs ++ x ∷ [])) ≡ flat_map f (enumerate_from 0 xs) ++ f (n, x)
flat_numbered f xs x n len =
    ap (flat_map f) (enumerate_from-append 0 xs (x ∷ []))
    ∙ (flat_map-push f (enumerate_from 0 xs) (0 + length xs, x)
    ∙ ap (λ (m : ℕ). flat_map f (enumerate_from 0 xs) ++ f (m, x)) (let e : 0 + length xs ≡ n = omega (arith, len) in e))

-- one item more of a list whose items are seen by a function
pub flat_more : {A B C : Type 0} (g : A → B) (f : ℕ × B → List C) (xs : List A) (i : ℕ) (x : A) → i < length xs → x ≡ get_or xs i x → flat_map f (enumerate_from 0 (map g (take (i + 1) xs))) ≡ flat_map f (enumerate_from 0 (map g (take i xs))) ++ f (i, g x)
flat_more g f xs i x lt is =
    ap (λ l. flat_map f (enumerate_from 0 l)) (map_more g xs i x lt ∙ ap (λ y. map g (take i xs) ++ g y ∷ []) (sym is))
    ∙ flat_numbered f (map g (take i xs)) (g x) i (length-map (take i xs) g ∙ length-take-le i xs (let le : i ≤ length xs = omega (arith, lt) in le))

pub flat_item : {A B C : Type 0} (g : A → B) (f : B → List C) (xs : List A) (i : ℕ) (x : A) → i < length xs → x ≡ get_or xs i x → flat_map f (map g (take (i + 1) xs)) ≡ flat_map f (map g (take i xs)) ++ f (g x)
flat_item g f xs i x lt is =
    ap (flat_map f) (map_more g xs i x lt ∙ ap (λ y. map g (take i xs) ++ g y ∷ []) (sym is))
    ∙ flat_map-push f (map g (take i xs)) (g x)
