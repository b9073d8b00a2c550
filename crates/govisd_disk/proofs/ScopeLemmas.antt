-- What is made of an answer, by what the answer is.
use Rattle.std.proofs.Common.{◌≡◌, ◌∙◌, Option, Some, None, sym, ap}
use Rattle.std.specs.Prelude.{option_map}

pub none_from : {A B : Type 0} (g : A → B) (o : Option A) (x : Option B) → option_map g o ≡ x → o ≡ None → x ≡ None
none_from g o x is none = sym is ∙ ap (option_map g) none

pub some_from : {A B : Type 0} (g : A → B) (o : Option A) (x : Option B) (a : A) → option_map g o ≡ x → o ≡ Some a → x ≡ Some (g a)
some_from g o x a is some = sym is ∙ ap (option_map g) some
