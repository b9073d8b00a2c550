-- Lists of which the items at each place are partners.
use Rattle.std.proofs.Common.{◌≡◌, ◌≢◌, ℕ, ◌<◌, ◌≤◌, ◌+◌, set, List, [], ◌∷◌, ◌++◌, length, get_or, take, Some, slice_get, refl, sym, ◌∙◌, ap, subst, arith, zero, suc}
use Rattle.std.specs.List.{AllZip}
use Rattle.std.proofs.lemmas.List.{get_or_default, take_more, take_more_set, take_all, length-take, length-set, get_or-set_other}
use Rattle.go_graph_core.specs.Lists.{AllNumbered}

pub zip_append : {A B : Type 0} (R : A → B → Type 0) (xs more : List A) (ys others : List B) → AllZip R xs ys → AllZip R more others → AllZip R (xs ++ more) (ys ++ others)
zip_append R [] more [] others h k = k
zip_append R [] more (y ∷ ys) others h k = absurd h
zip_append R (x ∷ xs) more [] others h k = absurd h
zip_append R (x ∷ xs) more (y ∷ ys) others h k = (h.0, zip_append R xs more ys others h.1 k)

-- one more partner, for the item at a place
pub zip_more : {A B : Type 0} (R : A → B → Type 0) (xs : List A) (ys : List B) (i : ℕ) (x : A) (y : B) → i < length xs → x ≡ get_or xs i x → AllZip R (take i xs) ys → R x y → AllZip R (take (i + 1) xs) (ys ++ y ∷ [])
zip_more {A} {B} R xs ys i x y lt at h r =
    let e : take (i + 1) xs ≡ take i xs ++ x ∷ [] = take_more xs i x lt ∙ ap (λ (z : A). take i xs ++ z ∷ []) (sym at) in
    subst (λ (l : List A). AllZip R l (ys ++ y ∷ [])) (sym e) (zip_append R (take i xs) (x ∷ []) ys (y ∷ []) h (r, tt))

-- the same at a place where another item stands for a missing one
pub zip_more_at : {A B : Type 0} (R : A → B → Type 0) (xs : List A) (ys : List B) (i : ℕ) (d : A) (y : B) → i < length xs → AllZip R (take i xs) ys → R (get_or xs i d) y → AllZip R (take (i + 1) xs) (ys ++ y ∷ [])
zip_more_at {A} {B} R xs ys i d y lt h r = subst (λ (l : List A). AllZip R l (ys ++ y ∷ [])) (sym (take_more xs i d lt)) (zip_append R (take i xs) (get_or xs i d ∷ []) ys (y ∷ []) h (r, tt))

-- one more copy, of the item at a place
pub copied_more : {A : Type 0} (xs : List A) (i : ℕ) (x y : A) (old new : List A) → i < length xs → x ≡ get_or xs i x → old ≡ take i xs → y ≡ x → new ≡ old ++ y ∷ [] → new ≡ take (i + 1) xs
copied_more {A} xs i x y old new lt at before same e =
    e ∙ (ap (λ (l : List A). l ++ y ∷ []) before ∙ (ap (λ (z : A). take i xs ++ z ∷ []) (same ∙ at) ∙ sym (take_more xs i x lt)))

-- the partner at a place
pub zip_at : {A B : Type 0} (R : A → B → Type 0) (xs : List A) (ys : List B) (i : ℕ) (x : A) → AllZip R xs ys → slice_get xs i ≡ Some x → (y : B) × (slice_get ys i ≡ Some y) × R x y
zip_at R [] ys i x h e = cc
zip_at R (a ∷ xs) [] i x h e = absurd h
zip_at R (a ∷ xs) (b ∷ ys) zero x h e = (let same : a ≡ x = cc in (b, refl, subst (λ z. R z b) same h.0))
zip_at R (a ∷ xs) (b ∷ ys) (suc i) x h e = zip_at R xs ys i x h.1 e

pub zip_back : {A B : Type 0} (R : A → B → Type 0) (xs : List A) (ys : List B) (i : ℕ) (y : B) → AllZip R xs ys → slice_get ys i ≡ Some y → (x : A) × (slice_get xs i ≡ Some x) × R x y
zip_back R xs [] i y h e = cc
zip_back R [] (b ∷ ys) i y h e = absurd h
zip_back R (a ∷ xs) (b ∷ ys) zero y h e = (let same : b ≡ y = cc in (a, refl, subst (λ z. R a z) same h.0))
zip_back R (a ∷ xs) (b ∷ ys) (suc i) y h e = zip_back R xs ys i y h.1 e

pub zip_length : {A B : Type 0} (R : A → B → Type 0) (xs : List A) (ys : List B) → AllZip R xs ys → length xs ≡ length ys
zip_length R [] [] h = refl
zip_length R [] (y ∷ ys) h = absurd h
zip_length R (x ∷ xs) [] h = absurd h
zip_length R (x ∷ xs) (y ∷ ys) h = ap suc (zip_length R xs ys h.1)

numbered_append : {A B : Type 0} (R : ℕ → A → B → Type 0) (k : ℕ) (xs : List A) (ys : List B) (x : A) (y : B) → AllNumbered R k xs ys → R (k + length xs) x y → AllNumbered R k (xs ++ x ∷ []) (ys ++ y ∷ [])
numbered_append R k [] [] x y h r = (let e : k + 0 ≡ k = omega arith in (subst (λ n. R n x y) e r, tt))
numbered_append R k [] (b ∷ ys) x y h r = absurd h
numbered_append R k (a ∷ xs) [] x y h r = absurd h
numbered_append R k (a ∷ xs) (b ∷ ys) x y h r = (let e : k + suc (length xs) ≡ suc k + length xs = omega arith in (h.0, numbered_append R (suc k) xs ys x y h.1 (subst (λ n. R n x y) e r)))

pub numbered_more : {A B : Type 0} (R : ℕ → A → B → Type 0) (xs : List A) (ys : List B) (i : ℕ) (x : A) (y : B) → i < length xs → x ≡ get_or xs i x → AllNumbered R 0 (take i xs) ys → R i x y → AllNumbered R 0 (take (i + 1) xs) (ys ++ y ∷ [])
numbered_more {A} {B} R xs ys i x y lt at h r =
    let e : take (i + 1) xs ≡ take i xs ++ x ∷ [] = take_more xs i x lt ∙ ap (λ (z : A). take i xs ++ z ∷ []) (sym at) in
    let n : i ≡ 0 + length (take i xs) = omega (arith, length-take i xs) in
    subst (λ (l : List A). AllNumbered R 0 l (ys ++ y ∷ [])) (sym e) (numbered_append R 0 (take i xs) ys x y h (subst (λ k. R k x y) n r))

pub numbered_at : {A B : Type 0} (R : ℕ → A → B → Type 0) (k : ℕ) (xs : List A) (ys : List B) (i : ℕ) (x : A) → AllNumbered R k xs ys → slice_get xs i ≡ Some x → (y : B) × (slice_get ys i ≡ Some y) × R (k + i) x y
numbered_at R k [] ys i x h e = cc
numbered_at R k (a ∷ xs) [] i x h e = absurd h
numbered_at R k (a ∷ xs) (b ∷ ys) zero x h e = (let same : a ≡ x = cc in let n : k ≡ k + 0 = omega arith in (b, refl, subst (λ m. R m x b) n (subst (λ z. R k z b) same h.0)))
numbered_at R k (a ∷ xs) (b ∷ ys) (suc i) x h e =
    let rest = numbered_at R (suc k) xs ys i x h.1 e in
    let n : suc k + i ≡ k + suc i = omega arith in
    (rest.0, rest.1, subst (λ m. R m x rest.0) n rest.2)

-- the item at a place of which the partner is known
pub numbered_back : {A B : Type 0} (R : ℕ → A → B → Type 0) (k : ℕ) (xs : List A) (ys : List B) (i : ℕ) (y : B) → AllNumbered R k xs ys → slice_get ys i ≡ Some y → (x : A) × (slice_get xs i ≡ Some x) × R (k + i) x y
numbered_back R k xs [] i y h e = cc
numbered_back R k [] (b ∷ ys) i y h e = absurd h
numbered_back R k (a ∷ xs) (b ∷ ys) zero y h e = (let same : b ≡ y = cc in let n : k ≡ k + 0 = omega arith in (a, refl, subst (λ m. R m a y) n (subst (λ z. R k a z) same h.0)))
numbered_back R k (a ∷ xs) (b ∷ ys) (suc i) y h e =
    let rest = numbered_back R (suc k) xs ys i y h.1 e in
    let n : suc k + i ≡ k + suc i = omega arith in
    (rest.0, rest.1, subst (λ m. R m rest.0 y) n rest.2)

pub numbered_length : {A B : Type 0} (R : ℕ → A → B → Type 0) (k : ℕ) (xs : List A) (ys : List B) → AllNumbered R k xs ys → length xs ≡ length ys
numbered_length R k [] [] h = refl
numbered_length R k [] (y ∷ ys) h = absurd h
numbered_length R k (x ∷ xs) [] h = absurd h
numbered_length R k (x ∷ xs) (y ∷ ys) h = ap suc (numbered_length R (suc k) xs ys h.1)

-- the items before this number have been made to partners of the old ones, and the others are the old ones
abbrev pub ZipSoFar : {A : Type 0} → (A → A → Type 0) → List A → List A → ℕ → Type 0
ZipSoFar {A} R old new i = (length new ≡ length old) × AllZip R (take i old) (take i new) × ((k : ℕ) (d : A) → i ≤ k → get_or new k d ≡ get_or old k d)

abbrev pub NumberedSoFar : {A : Type 0} → (ℕ → A → A → Type 0) → List A → List A → ℕ → Type 0
NumberedSoFar {A} R old new i = (length new ≡ length old) × AllNumbered R 0 (take i old) (take i new) × ((k : ℕ) (d : A) → i ≤ k → get_or new k d ≡ get_or old k d)

others_stay : {A : Type 0} (old new : List A) (i : ℕ) (y : A) → ((k : ℕ) (d : A) → i ≤ k → get_or new k d ≡ get_or old k d) → (k : ℕ) (d : A) → i + 1 ≤ k → get_or (set new i y) k d ≡ get_or old k d
others_stay old new i y rest k d up =
    let other : k ≢ i = omega arith in
    let behind : i ≤ k = omega arith in
    get_or-set_other new i k y d other ∙ rest k d behind

pub one_more_so_far : {A : Type 0} (R : A → A → Type 0) (old new : List A) (i : ℕ) (d y : A) → i < length old → ZipSoFar R old new i → R (get_or old i d) y → ZipSoFar R old (set new i y) (i + 1)
one_more_so_far {A} R old new i d y lt h r =
    let here : i < length new = omega (arith, lt, h.0) in (
      length-set new i y ∙ h.0,
      subst (λ (l : List A). AllZip R (take (i + 1) old) l) (sym (take_more_set new i y here)) (zip_more_at R old (take i new) i d y lt h.1 r),
      others_stay old new i y h.2,
    )

pub one_more_numbered : {A : Type 0} (R : ℕ → A → A → Type 0) (old new : List A) (i : ℕ) (d y : A) → i < length old → NumberedSoFar R old new i → R i (get_or old i d) y → NumberedSoFar R old (set new i y) (i + 1)
one_more_numbered {A} R old new i d y lt h r =
    let here : i < length new = omega (arith, lt, h.0) in (
      length-set new i y ∙ h.0,
      subst (λ (l : List A). AllNumbered R 0 (take (i + 1) old) l) (sym (take_more_set new i y here)) (numbered_more R old (take i new) i (get_or old i d) y lt (get_or_default old i d (get_or old i d) lt) h.1 r),
      others_stay old new i y h.2,
    )

-- all of them
pub all_so_far : {A : Type 0} (R : A → A → Type 0) (old new : List A) (i : ℕ) → length old ≤ i → ZipSoFar R old new i → AllZip R old new
all_so_far {A} R old new i end h =
    let all : length new ≤ i = omega (arith, end, h.0) in
    subst (λ (l : List A). AllZip R l new) (take_all i old end) (subst (λ (l : List A). AllZip R (take i old) l) (take_all i new all) h.1)

pub all_numbered_so_far : {A : Type 0} (R : ℕ → A → A → Type 0) (old new : List A) (i : ℕ) → length old ≤ i → NumberedSoFar R old new i → AllNumbered R 0 old new
all_numbered_so_far {A} R old new i end h =
    let all : length new ≤ i = omega (arith, end, h.0) in
    subst (λ (l : List A). AllNumbered R 0 l new) (take_all i old end) (subst (λ (l : List A). AllNumbered R 0 (take i old) l) (take_all i new all) h.1)
