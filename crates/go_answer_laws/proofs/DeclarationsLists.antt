-- Lists with a property.
use Rattle.std.proofs.Common.{◌≡◌, ℕ, Bool, true, false, List, [], ◌∷◌, ◌++◌, if◌then◌else◌}
use Rattle.std.specs.Str.{bytes_eq}
use Rattle.std.proofs.lemmas.Slice.Eq.{bytes_eq-Decides}
use Rattle.go_stmt_core.specs.statement.Locality.{Each}

pub either : {A : Type 0} (Is : A → Type 0) (b : Bool) (x y : A) → Is x → Is y → Is (if b then x else y)
either Is true x y h k = h
either Is false x y h k = k

pub each_both : {X : Type 0} (Is : X → Type 0) (xs ys : List X) → Each Is xs → Each Is ys → Each Is (xs ++ ys)
each_both Is [] ys h k = k
each_both Is (x ∷ xs) ys h k = (h.0, each_both Is xs ys h.1 k)

-- a list with a property, in two

pub each_left : {X : Type 0} (Is : X → Type 0) (xs ys : List X) → Each Is (xs ++ ys) → Each Is xs
each_left Is [] ys h = tt
each_left Is (x ∷ xs) ys h = (h.0, each_left Is xs ys h.1)

pub each_right : {X : Type 0} (Is : X → Type 0) (xs ys : List X) → Each Is (xs ++ ys) → Each Is ys
each_right Is [] ys h = h
each_right Is (x ∷ xs) ys h = each_right Is xs ys h.1

pub same_bytes : (x y : List ℕ) → bytes_eq x y ≡ true → x ≡ y
same_bytes x y h = (bytes_eq-Decides x y).0 h

pub bytes_are : (x y : List ℕ) → x ≡ y → bytes_eq x y ≡ true
bytes_are x y h = (bytes_eq-Decides x y).1 h
