-- Words of 64 bits, and how they are printed.
--
-- The Go specification, "Integer overflow", "Integer operators", "Comparison operators", "Bootstrapping".
use Rattle.std.specs.Prelude.{ℕ, Bool, true, false, not, List, [], ◌∷◌, ◌++◌, Option, Some, None, ℤ, pos, ◌+ℤ◌, ◌-ℤ◌, ◌*ℤ◌, neg_ℤ, int_lt, int_le, int_rem, codes, if◌then◌else◌}
use Rattle.std.specs.Int.{int_wrap, int_wrapping_div, w64}
use Rattle.std.specs.Fmt.{signed_decimal}
use Rattle.std.specs.Ordering.{int_eq}
use Rattle.go_object_core.specs.declared.instructions.letters.Word.{Word}
use Rattle.go_object_core.specs.declared.instructions.letters.Word.TheVariants as words

-- a boolean is 0 or 1
abbrev pub bit : Bool → ℤ
bit false = pos 0
bit true = pos 1

-- a word is a boolean that holds
abbrev pub is_true : ℤ → Bool
is_true x = not (int_eq x (pos 0))

unfoldable pub negated : ℤ → ℤ
negated x = int_wrap w64 (neg_ℤ x)

unfoldable pub inverted : ℤ → ℤ
inverted x = bit (int_eq x (pos 0))

-- operators on two words: none where they panic

unfoldable pub sum : ℤ → ℤ → Option ℤ
sum x y = Some (int_wrap w64 (x +ℤ y))

unfoldable pub difference : ℤ → ℤ → Option ℤ
difference x y = Some (int_wrap w64 (x -ℤ y))

unfoldable pub product : ℤ → ℤ → Option ℤ
product x y = Some (int_wrap w64 (x *ℤ y))

-- truncated toward zero
unfoldable pub quotient : ℤ → ℤ → Option ℤ
quotient x y = if int_eq y (pos 0) then None else Some (int_wrapping_div w64 x y)

-- with the sign of x
unfoldable pub remainder : ℤ → ℤ → Option ℤ
remainder x y = if int_eq y (pos 0) then None else Some (int_rem x y)

unfoldable pub equal : ℤ → ℤ → Option ℤ
equal x y = Some (bit (int_eq x y))

unfoldable pub differs : ℤ → ℤ → Option ℤ
differs x y = Some (bit (not (int_eq x y)))

unfoldable pub less : ℤ → ℤ → Option ℤ
less x y = Some (bit (int_lt x y))

unfoldable pub at_most : ℤ → ℤ → Option ℤ
at_most x y = Some (bit (int_le x y))

unfoldable pub greater : ℤ → ℤ → Option ℤ
greater x y = Some (bit (int_lt y x))

unfoldable pub at_least : ℤ → ℤ → Option ℤ
at_least x y = Some (bit (int_le y x))

-- what is printed

abbrev pub truth_text : Bool → List ℕ
truth_text false = codes "false"
truth_text true = codes "true"

abbrev pub word_text : Word → ℤ → List ℕ
word_text words.Int x = signed_decimal x
word_text words.Bool x = truth_text (is_true x)

abbrev pub behind_space : List ℕ → Option (List ℕ) → Option (List ℕ)
behind_space t None = None
behind_space t (Some more) = Some (32 ∷ (t ++ more))

abbrev pub in_front : List ℕ → Option (List ℕ) → Option (List ℕ)
in_front t None = None
in_front t (Some more) = Some (t ++ more)

-- those behind the first, each behind a space, and a newline: none where there are not as many of both
abbrev pub rest_text : List Word → List ℤ → Option (List ℕ)
rest_text [] [] = Some (10 ∷ [])
rest_text [] (v ∷ vs) = None
rest_text (w ∷ ws) [] = None
rest_text (w ∷ ws) (v ∷ vs) = behind_space (word_text w v) (rest_text ws vs)

-- a line of words that hold such values
abbrev pub line_text : List Word → List ℤ → Option (List ℕ)
line_text [] [] = Some (10 ∷ [])
line_text [] (v ∷ vs) = None
line_text (w ∷ ws) [] = None
line_text (w ∷ ws) (v ∷ vs) = in_front (word_text w v) (rest_text ws vs)
