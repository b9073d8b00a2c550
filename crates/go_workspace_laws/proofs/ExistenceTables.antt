-- Lists that are made item by item.
use Rattle.std.proofs.Common.{◌≡◌, ℕ, zero, suc, ◌+◌, List, [], ◌∷◌, ◌++◌, Some, refl, subst, arith}
use Rattle.std.specs.List.{AllZip}
use Rattle.std.specs.Prelude.{Contains, slice_get}
use Rattle.go_graph_core.specs.Lists.{AllNumbered}
use Rattle.go_select_core.specs.type_core.mirrors.Numbers.{IsTable}
use Rattle.go_select_core.specs.type_core.Keyed.{table_more, table_none}

-- a list of the first values of a function
pub tabled : {A : Type 0} (n : ℕ) (f : ℕ → A) → (xs : List A) × IsTable xs n f
tabled zero f = ([], table_none [] f refl)
tabled (suc n) f =
    let front = tabled n f in
    let more : n + 1 ≡ suc n = omega arith in
    (front.0 ++ f n ∷ [], subst (λ m. IsTable (front.0 ++ f n ∷ []) m f) more (table_more front.0 n f (f n) front.1 refl))

-- a partner of each item
pub zipped : {A B : Type 0} (R : A → B → Type 0) (xs : List A) → ((x : A) → (y : B) × R x y) → (ys : List B) × AllZip R xs ys
zipped R [] each = ([], tt)
zipped R (x ∷ xs) each = (let one = each x in let rest = zipped R xs each in (one.0 ∷ rest.0, (one.1, rest.1)))

-- the same of items of a list
pub zipped_in : {A B : Type 0} (R : A → B → Type 0) (xs : List A) → ((x : A) → Contains xs x → (y : B) × R x y) → (ys : List B) × AllZip R xs ys
zipped_in R [] each = ([], tt)
zipped_in R (x ∷ xs) each =
    let one = each x (0, omega arith, refl) in
    let rest = zipped_in R xs (λ y at. each y (suc at.0, (let lt = at.1 in omega (arith, lt)), at.2)) in
    (one.0 ∷ rest.0, (one.1, rest.1))

-- a partner of each item by its number
pub partners : {A B : Type 0} (R : ℕ → A → B → Type 0) (k : ℕ) (xs : List A) → ((i : ℕ) (x : A) → slice_get xs i ≡ Some x → (y : B) × R (k + i) x y) → (ys : List B) × AllNumbered R k xs ys
partners R k [] each = ([], tt)
partners {A} {B} R k (x ∷ xs) each =
    let here : k + 0 ≡ k = omega arith in
    let first = each 0 x refl in
    let next : (i : ℕ) (z : A) → slice_get xs i ≡ Some z → (y : B) × R (suc k + i) z y = λ i z at. (
    let there : k + suc i ≡ suc k + i = omega arith in
    let one = each (suc i) z at in
    (one.0, subst (λ m. R m z one.0) there one.1)) in
    let rest = partners R (suc k) xs next in
    (first.0 ∷ rest.0, (subst (λ m. R m x first.0) here first.1, rest.1))
