-- Values, what operators give of them, what `panic` of them panics with, and how they are printed.
--
-- The Go specification, "Numeric types", "Boolean types", "Arithmetic operators", "Integer operators", "Integer overflow", "Comparison operators",
-- "Logical operators", "Handling panics", "Bootstrapping".
use Rattle.std.specs.Prelude.{ℕ, Bool, true, false, not, List, [], ◌∷◌, ◌++◌, Option, Some, None, ℤ, codes, int_lt, int_le}
use Rattle.std.specs.Fmt.{signed_decimal}
use Rattle.std.specs.Ordering.{int_eq}
use Rattle.go_tree_nodes.specs.token_core.declared.kind.Operator.{Operator}
use Rattle.go_tree_nodes.specs.token_core.declared.kind.Operator.TheVariants as operators
use Rattle.go_object_core.specs.declared.instructions.letters.Word.{Word}
use Rattle.go_object_core.specs.declared.instructions.letters.Word.TheVariants as words
use Rattle.go_machine_core.specs.declared.state.PanicValue.{PanicValue}
use Rattle.go_machine_core.specs.declared.state.PanicValue.TheVariants as panics
use Rattle.go_machine_core.specs.Words.{negated, sum, difference, product, quotient, remainder}

-- a value of a type over `int`, or over `bool`
pub data Value : Type 0 where
  Number : (number : ℤ) → Value
  Truth : (truth : Bool) → Value

-- what an operator gives of values: a value, or it panics, or it is no operator on such values
pub data Applied : Type 0 where
  Yields : (value : Value) → Applied
  Panics : Applied
  Undefined : Applied

abbrev pub of_result : Option ℤ → Applied
of_result None = Panics
of_result (Some x) = Yields (Number x)

abbrev pub number_unary : Operator → ℤ → Applied
number_unary operators.Plus x = Yields (Number x)
number_unary operators.Minus x = Yields (Number (negated x))
number_unary _ x = Undefined

abbrev pub truth_unary : Operator → Bool → Applied
truth_unary operators.Not b = Yields (Truth (not b))
truth_unary _ b = Undefined

abbrev pub unary_applied : Operator → Value → Applied
unary_applied op (Number x) = number_unary op x
unary_applied op (Truth b) = truth_unary op b

abbrev pub number_binary : Operator → ℤ → ℤ → Applied
number_binary operators.Plus x y = of_result (sum x y)
number_binary operators.Minus x y = of_result (difference x y)
number_binary operators.Star x y = of_result (product x y)
number_binary operators.Slash x y = of_result (quotient x y)
number_binary operators.Percent x y = of_result (remainder x y)
number_binary operators.Equal x y = Yields (Truth (int_eq x y))
number_binary operators.NotEqual x y = Yields (Truth (not (int_eq x y)))
number_binary operators.Less x y = Yields (Truth (int_lt x y))
number_binary operators.LessEqual x y = Yields (Truth (int_le x y))
number_binary operators.Greater x y = Yields (Truth (int_lt y x))
number_binary operators.GreaterEqual x y = Yields (Truth (int_le y x))
number_binary _ x y = Undefined

abbrev pub same_truth : Bool → Bool → Bool
same_truth true b = b
same_truth false b = not b

abbrev pub truth_binary : Operator → Bool → Bool → Applied
truth_binary operators.Equal a b = Yields (Truth (same_truth a b))
truth_binary operators.NotEqual a b = Yields (Truth (not (same_truth a b)))
truth_binary _ a b = Undefined

-- an operator that wants both operands
abbrev pub binary_applied : Operator → Value → Value → Applied
binary_applied op (Number x) (Number y) = number_binary op x y
binary_applied op (Truth a) (Truth b) = truth_binary op a b
binary_applied op (Number x) (Truth b) = Undefined
binary_applied op (Truth a) (Number y) = Undefined

-- `x++` and `x--` are `x += 1` and `x -= 1`
abbrev pub step_binary : Operator → Option Operator
step_binary operators.Increment = Some operators.Plus
step_binary operators.Decrement = Some operators.Minus
step_binary _ = None

-- `x op= y` is `x = x op y`
abbrev pub update_binary : Operator → Option Operator
update_binary operators.PlusAssign = Some operators.Plus
update_binary operators.MinusAssign = Some operators.Minus
update_binary operators.StarAssign = Some operators.Star
update_binary operators.SlashAssign = Some operators.Slash
update_binary operators.PercentAssign = Some operators.Percent
update_binary _ = None

-- what `panic` of a value of a type over this panics with: none if it is of another
abbrev pub panic_value : Word → Value → Option PanicValue
panic_value words.Int (Number x) = Some (panics.Int x)
panic_value words.Bool (Truth b) = Some (panics.Bool b)
panic_value words.Int (Truth b) = None
panic_value words.Bool (Number x) = None

-- `panic` of one value of a type over one of these
abbrev pub panicked_with : List Word → List Value → Option PanicValue
panicked_with [] vs = None
panicked_with (w ∷ []) [] = None
panicked_with (w ∷ []) (v ∷ []) = panic_value w v
panicked_with (w ∷ []) (v ∷ u ∷ vs) = None
panicked_with (w ∷ x ∷ ws) vs = None

-- what is printed

abbrev pub truth_letters : Bool → List ℕ
truth_letters false = codes "false"
truth_letters true = codes "true"

-- a value of a type over this: none if it is of another
abbrev pub value_text : Word → Value → Option (List ℕ)
value_text words.Int (Number x) = Some (signed_decimal x)
value_text words.Bool (Truth b) = Some (truth_letters b)
value_text words.Int (Truth b) = None
value_text words.Bool (Number x) = None

-- a text in front of another, where there are both
abbrev pub in_front : Option (List ℕ) → Option (List ℕ) → Option (List ℕ)
in_front None more = None
in_front (Some t) None = None
in_front (Some t) (Some more) = Some (t ++ more)

abbrev pub behind_space : Option (List ℕ) → Option (List ℕ) → Option (List ℕ)
behind_space None more = None
behind_space (Some t) None = None
behind_space (Some t) (Some more) = Some (32 ∷ (t ++ more))

-- those behind the first, each behind a space, and a newline
abbrev pub more_printed : List Word → List Value → Option (List ℕ)
more_printed [] [] = Some (10 ∷ [])
more_printed [] (v ∷ vs) = None
more_printed (w ∷ ws) [] = None
more_printed (w ∷ ws) (v ∷ vs) = behind_space (value_text w v) (more_printed ws vs)

-- a line of values of types over these: none where there are not as many of both, or a value is of another
abbrev pub line_printed : List Word → List Value → Option (List ℕ)
line_printed [] [] = Some (10 ∷ [])
line_printed [] (v ∷ vs) = None
line_printed (w ∷ ws) [] = None
line_printed (w ∷ ws) (v ∷ vs) = in_front (value_text w v) (more_printed ws vs)
