-- What is there or not.
use Rattle.std.proofs.Common.{◌≡◌, List, [], ◌∷◌, length, Option, Some, None, Result, Ok, Err, refl, sym, ◌∙◌}
use Rattle.std.specs.Prelude.{IfOk}

pub if_ok_more : {T E : Type 0} {P Q : T → Type 0} (r : Result T E) → IfOk r P → ((x : T) → P x → Q x) → IfOk r Q
if_ok_more (Ok x) p more = more x p
if_ok_more (Err e) p more = tt

pub first_of : {X : Type 0} (xs : List X) → (length xs ≡ 0 → ⊥) → (x : X) × (ys : List X) × (xs ≡ x ∷ ys)
first_of [] some = absurd (some refl)
first_of (x ∷ xs) some = (x, xs, refl)

pub none_from : {X : Type 0} (o : Option X) → ((x : X) → o ≡ Some x → ⊥) → o ≡ None
none_from None none = refl
none_from (Some x) none = absurd (none x refl)

pub some_same : {X : Type 0} (o : Option X) (x y : X) → o ≡ Some x → o ≡ Some y → x ≡ y
some_same o x y e f = (let both : Some x ≡ Some y = sym e ∙ f in cc)
