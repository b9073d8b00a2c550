-- Items at a number of lists that are mapped, joined or in step.
use Rattle.std.proofs.Common.{◌≡◌, ℕ, zero, suc, ◌+◌, List, [], ◌∷◌, ◌++◌, map, length, refl, ap, subst, ◌∙◌, arith}
use Rattle.std.specs.Prelude.{Some, None, slice_get}
use Rattle.std.specs.List.{AllZip}

-- what stands at a number of a list, and what holds of it
pub record Item {A : Type 0} (Holds : A → Type 0) (xs : List A) (n : ℕ) : Type 0 where
  pub item : A
  pub at : slice_get xs n ≡ Some item
  pub holds : Holds item

pub get_mapped : {A B : Type 0} (f : A → B) (xs : List A) (n : ℕ) (x : A) → slice_get xs n ≡ Some x → slice_get (map f xs) n ≡ Some (f x)
get_mapped f [] n x h = absurd (let no : None ≡ Some x = h in cc)
get_mapped f (y ∷ xs) zero x h =
    let same : y ≡ x = (let s : Some y ≡ Some x = h in cc) in
    ap (λ z. Some (f z)) same
get_mapped f (y ∷ xs) (suc n) x h = get_mapped f xs n x h

pub mapped_from : {A B : Type 0} (f : A → B) (xs : List A) (n : ℕ) (y : B) → slice_get (map f xs) n ≡ Some y → Item (λ x. f x ≡ y) xs n
mapped_from f [] n y h = absurd (let no : None ≡ Some y = h in cc)
mapped_from f (x ∷ xs) zero y h =
    let same : f x ≡ y = (let s : Some (f x) ≡ Some y = h in cc) in
    record { item = x; at = refl; holds = same }
mapped_from f (x ∷ xs) (suc n) y h =
    let later = mapped_from f xs n y h in
    record { item = later.item; at = later.at; holds = later.holds }

pub get_front : {A : Type 0} (xs ys : List A) (n : ℕ) (x : A) → slice_get xs n ≡ Some x → slice_get (xs ++ ys) n ≡ Some x
get_front [] ys n x h = absurd (let no : None ≡ Some x = h in cc)
get_front (y ∷ xs) ys zero x h = h
get_front (y ∷ xs) ys (suc n) x h = get_front xs ys n x h

pub get_behind : {A : Type 0} (xs ys : List A) (n : ℕ) → slice_get (xs ++ ys) (length xs + n) ≡ slice_get ys n
get_behind {A} [] ys n =
    let none : List A = [] in
    let at : length none + n ≡ n = omega arith in
    ap (slice_get ys) at
get_behind (x ∷ xs) ys n =
    let at : length (x ∷ xs) + n ≡ suc (length xs + n) = omega arith in
    ap (slice_get (x ∷ (xs ++ ys))) at ∙ get_behind xs ys n

pub get_seam : {A : Type 0} (xs : List A) (y : A) (ys : List A) → slice_get (xs ++ y ∷ ys) (length xs) ≡ Some y
get_seam [] y ys = refl
get_seam (x ∷ xs) y ys = get_seam xs y ys

-- what corresponds to an item
pub zip_at : {A B : Type 0} (R : A → B → Type 0) (xs : List A) (ys : List B) (n : ℕ) (x : A) → AllZip R xs ys → slice_get xs n ≡ Some x → Item (R x) ys n
zip_at R [] ys n x h at = absurd (let no : None ≡ Some x = at in cc)
zip_at R (a ∷ xs) [] n x h at = absurd h
zip_at R (a ∷ xs) (b ∷ ys) zero x h at =
    let first : a ≡ x = (let s : Some a ≡ Some x = at in cc) in
    record { item = b; at = refl; holds = subst (λ c. R c b) first h.0 }
zip_at R (a ∷ xs) (b ∷ ys) (suc n) x h at =
    let later = zip_at R xs ys n x h.1 at in
    record { item = later.item; at = later.at; holds = later.holds }
