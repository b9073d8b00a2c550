-- Lists with numbers.
use Rattle.std.proofs.Common.{◌≡◌, ℕ, suc, inl, inr, List, [], ◌∷◌, length, All, Some, None, refl, sym, ap, subst, ◌∙◌, arith}
use Rattle.std.specs.Prelude.{slice_get, AllPairs}
use Rattle.std.specs.List.{AllZip}
use Rattle.std.proofs.lemmas.List.Elements.{All-cons, All-nil}
use Rattle.std.proofs.lemmas.List.Kept.{AllPairs-cons}
use Rattle.go_body_core.specs.typexpr_core.EntryAmong.{Among, among_to}

-- the same items at the same places
pub same_list : {A : Type 0} (xs ys : List A) → length xs ≡ length ys → ((i : ℕ) (x y : A) → slice_get xs i ≡ Some x → slice_get ys i ≡ Some y → x ≡ y) → xs ≡ ys
same_list [] [] e h = refl
same_list [] (y ∷ ys) e h = absurd (omega (arith, e))
same_list (x ∷ xs) [] e h = absurd (omega (arith, e))
same_list (x ∷ xs) (y ∷ ys) e h = ap (λ z. z ∷ xs) (h 0 x y refl refl) ∙ ap (λ l. y ∷ l) (same_list xs ys (omega (arith, e)) (λ i a b p q. h (suc i) a b p q))

-- the item at a place is one
pub one_at : {A : Type 0} (xs : List A) (i : ℕ) (x y : A) → slice_get xs i ≡ Some x → slice_get xs i ≡ Some y → x ≡ y
one_at xs i x y p q = (let e : Some x ≡ Some y = sym p ∙ q in cc)

pub none_is_some : {A : Type 0} {x : A} → None ≡ Some x → ⊥
none_is_some e = cc

pub all_from_among : {A : Type 0} (P : A → Type 0) (xs : List A) → ((x : A) → Among xs x → P x) → All P xs
all_from_among P [] h = All-nil P
all_from_among P (x ∷ xs) h = All-cons P x xs (h x (inl refl)) (all_from_among P xs (λ y a. h y (inr a)))

pub among_all : {A : Type 0} (P : A → Type 0) (xs : List A) (x : A) → All P xs → Among xs x → P x
among_all P xs x all h = (let c = among_to xs x h in subst P c.2 (all c.0 x c.1))

-- zips

pub zip_of : {A B : Type 0} (R : A → B → Type 0) (xs : List A) (ys : List B) (y : B) → AllZip R xs ys → Among ys y → (x : A) × Among xs x × R x y
zip_of R [] [] y z h = absurd h
zip_of R [] (b ∷ ys) y z h = absurd z
zip_of R (a ∷ xs) [] y z h = absurd h
zip_of R (a ∷ xs) (b ∷ ys) y z h = elim h [
  | inl e ↦ (a, inl refl, subst (R a) e z.0)
  | inr r ↦ (let s = zip_of R xs ys y z.1 r in (s.0, inr s.1, s.2))
]

pub zip_to : {A B : Type 0} (R : A → B → Type 0) (xs : List A) (ys : List B) (x : A) → AllZip R xs ys → Among xs x → (y : B) × Among ys y × R x y
zip_to R [] [] x z h = absurd h
zip_to R [] (b ∷ ys) x z h = absurd z
zip_to R (a ∷ xs) [] x z h = absurd z
zip_to R (a ∷ xs) (b ∷ ys) x z h = elim h [
  | inl e ↦ (b, inl refl, subst (λ w. R w b) e z.0)
  | inr r ↦ (let s = zip_to R xs ys x z.1 r in (s.0, inr s.1, s.2))
]

pub zip_weaker : {A B : Type 0} (R S : A → B → Type 0) (xs : List A) (ys : List B) → ((x : A) (y : B) → Among xs x → R x y → S x y) → AllZip R xs ys → AllZip S xs ys
zip_weaker R S [] [] f h = tt
zip_weaker R S [] (y ∷ ys) f h = absurd h
zip_weaker R S (x ∷ xs) [] f h = absurd h
zip_weaker R S (x ∷ xs) (y ∷ ys) f h = (f x y (inl refl) h.0, zip_weaker R S xs ys (λ a b i r. f a b (inr i) r) h.1)

pub pairs_head : {A : Type 0} (R : A → A → Type 0) (x : A) (xs : List A) → AllPairs R (x ∷ xs) → (y : A) → Among xs y → R x y
pairs_head R x xs h y a = (let c = among_to xs y a in subst (R x) c.2 (h 0 (suc c.0) y (omega arith) (let lt = c.1 in omega (arith, lt))))

pub pairs_tail : {A : Type 0} (R : A → A → Type 0) (x : A) (xs : List A) → AllPairs R (x ∷ xs) → AllPairs R xs
pairs_tail R x xs h = λ i j d lt below. h (suc i) (suc j) d (omega (arith, lt)) (omega (arith, below))

-- partners of items that are apart are apart
pub zip_apart : {A B : Type 0} (R : A → B → Type 0) (P : A → A → Type 0) (Q : B → B → Type 0) (xs : List A) (ys : List B) → ((a b : A) (x y : B) → R a x → R b y → P a b → Q x y) → AllPairs P xs → AllZip R xs ys → AllPairs Q ys
zip_apart R P Q [] [] f apart z = λ i j d lt below. absurd (omega (arith, below))
zip_apart R P Q [] (y ∷ ys) f apart z = absurd z
zip_apart R P Q (x ∷ xs) [] f apart z = absurd z
zip_apart R P Q (x ∷ xs) (y ∷ ys) f apart z =
    AllPairs-cons Q y ys
    (all_from_among (Q y) ys (λ w at. (let s = zip_of R xs ys w z.1 at in f x s.0 y w z.0 s.2 (pairs_head P x xs apart s.0 s.1))))
    (zip_apart R P Q xs ys f (pairs_tail P x xs apart) z.1)
