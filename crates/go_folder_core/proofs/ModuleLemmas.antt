-- The words of a line.
use Rattle.std.proofs.Common.{◌≡◌, List, Option, Some, None, subst}
use Rattle.std.specs.Borrow.{Bor}
use Rattle.std.specs.Prelude.{ℕ, option_map}
use Rattle.std.specs.Str.Iter.{split_whitespace_rest, split_whitespace_steps}
use Rattle.std.specs.declared.str.SplitWhitespace.{SplitWhitespace}
use Rattle.go_folder_core.specs.Modules.{IsAlone, IsFirstWord, IsModuleWord, IsNamed, module_word}

-- the word that is met
pub first_of : (s t : SplitWhitespace) (x : Bor (List ℕ)) → split_whitespace_steps s (Some x) t → IsFirstWord (split_whitespace_rest s) x.now (split_whitespace_rest t)
first_of s t x h = record { gap = h.0; is = h.1; some = h.2; blank = h.3; solid = h.4 }

-- and the one behind it
pub second_of : (line first : List ℕ) (s t : SplitWhitespace) (r : Option (Bor (List ℕ))) → IsFirstWord line first (split_whitespace_rest s) → first ≡ module_word → split_whitespace_steps s r t → IsModuleWord line (option_map (λ w. w.now) r)
second_of line first s t None h same steps = IsAlone (split_whitespace_rest s) (subst (λ w. IsFirstWord line w (split_whitespace_rest s)) same h) steps.1
second_of line first s t (Some x) h same steps =
    IsNamed (split_whitespace_rest s) x.now (split_whitespace_rest t) (subst (λ w. IsFirstWord line w (split_whitespace_rest s)) same h) (first_of s t x steps)
