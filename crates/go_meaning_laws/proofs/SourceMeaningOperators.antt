-- The instruction of an operator does what the operator does.
use Rattle.std.proofs.Common.{◌≡◌, ℕ, ◌+◌, Bool, true, false, List, ◌∷◌, ℤ, Option, Some, None, refl}
use Rattle.std.specs.Prelude.{not}
use Rattle.go_object_core.specs.declared.instructions.instruction.Instruction.{Instruction}
use Rattle.go_object_core.specs.declared.instructions.instruction.Instruction.TheVariants as instructions
use Rattle.go_machine_core.specs.Programs.{LinkedOf}
use Rattle.go_machine_core.specs.Words.{bit, inverted, sum, difference, product, quotient, remainder, equal, differs, less, at_most, greater, at_least}
use Rattle.go_machine_core.specs.Machine.{Frame, act, resulting}
use Rattle.go_meaning_laws.specs.source_meaning.Values.{Value, Number, Truth, Applied, Yields, Panics, Undefined, of_result, number_unary, truth_unary, unary_applied, number_binary, same_truth, truth_binary, binary_applied, step_binary, update_binary}
use Rattle.go_meaning_laws.proofs.SourceMeaningSteps.{here, word}
use Rattle.go_tree_nodes.specs.token_core.declared.kind.Operator.{Operator}
use Rattle.go_tree_nodes.specs.token_core.declared.kind.Operator.TheVariants as operators
use Rattle.go_code_core.specs.fragments.Operators.{unary_instruction, binary_instruction, step_operator, update_operator}

-- an instruction takes two words, and gives another or panics
abbrev pub TakesTwo : Instruction → ℤ → ℤ → Option ℤ → Type 0
TakesTwo i x y r = (program : List LinkedOf) (g : LinkedOf) (p : ℕ) (stack slots : List ℤ) (callers : List Frame) (out : List ℕ) → act program (Some i) (record { function = g; place = p; stack = y ∷ x ∷ stack; slots = slots }) callers out ≡ resulting r out (λ v. here g callers (p + 1) (v ∷ stack) slots out)

abbrev pub TakesOne : Instruction → ℤ → ℤ → Type 0
TakesOne i x v = (program : List LinkedOf) (g : LinkedOf) (p : ℕ) (stack slots : List ℤ) (callers : List Frame) (out : List ℕ) → act program (Some i) (record { function = g; place = p; stack = x ∷ stack; slots = slots }) callers out ≡ here g callers (p + 1) (v ∷ stack) slots out

abbrev pub TakesSomeTwo : Option Instruction → ℤ → ℤ → Option ℤ → Type 0
TakesSomeTwo None x y r = ⊥
TakesSomeTwo (Some i) x y r = TakesTwo i x y r

-- without an instruction a word stays as it is
abbrev pub TakesSomeOne : Option Instruction → ℤ → ℤ → Type 0
TakesSomeOne None x v = x ≡ v
TakesSomeOne (Some i) x v = TakesOne i x v

abbrev pub ActsOnTwo : Applied → Option Instruction → ℤ → ℤ → Type 0
ActsOnTwo (Yields v) i x y = TakesSomeTwo i x y (Some (word v))
ActsOnTwo Panics i x y = TakesSomeTwo i x y None
ActsOnTwo Undefined i x y = Unit {0}

abbrev pub ActsOnOne : Applied → Option Instruction → ℤ → Type 0
ActsOnOne (Yields v) i x = TakesSomeOne i x (word v)
ActsOnOne Panics i x = ⊥
ActsOnOne Undefined i x = Unit {0}

number_acts_alone : (op : Operator) (x : ℤ) → ActsOnOne (number_unary op x) (unary_instruction op) x
number_acts_alone operators.Plus x = refl
number_acts_alone operators.Minus x = λ program g p stack slots callers out. refl
number_acts_alone _ x = tt

inverted_is : (b : Bool) → TakesOne instructions.Not (bit b) (bit (not b))
unfolding inverted
inverted_is true program g p stack slots callers out = refl
inverted_is false program g p stack slots callers out = refl

truth_acts_alone : (op : Operator) (b : Bool) → ActsOnOne (truth_unary op b) (unary_instruction op) (bit b)
truth_acts_alone operators.Not b = inverted_is b
truth_acts_alone _ b = tt

pub unary_acts : (op : Operator) (x : Value) → ActsOnOne (unary_applied op x) (unary_instruction op) (word x)
unary_acts op (Number x) = number_acts_alone op x
unary_acts op (Truth b) = truth_acts_alone op b

result_acts : (i : Instruction) (r : Option ℤ) (x y : ℤ) → TakesTwo i x y r → ActsOnTwo (of_result r) (Some i) x y
result_acts i None x y t = t
result_acts i (Some v) x y t = t

number_acts : (op : Operator) (x y : ℤ) → ActsOnTwo (number_binary op x y) (binary_instruction op) x y
unfolding equal differs less at_most greater at_least
number_acts operators.Plus x y = result_acts instructions.Add (sum x y) x y (λ program g p stack slots callers out. refl)
number_acts operators.Minus x y = result_acts instructions.Sub (difference x y) x y (λ program g p stack slots callers out. refl)
number_acts operators.Star x y = result_acts instructions.Mul (product x y) x y (λ program g p stack slots callers out. refl)
number_acts operators.Slash x y = result_acts instructions.Div (quotient x y) x y (λ program g p stack slots callers out. refl)
number_acts operators.Percent x y = result_acts instructions.Rem (remainder x y) x y (λ program g p stack slots callers out. refl)
number_acts operators.Equal x y = λ program g p stack slots callers out. refl
number_acts operators.NotEqual x y = λ program g p stack slots callers out. refl
number_acts operators.Less x y = λ program g p stack slots callers out. refl
number_acts operators.LessEqual x y = λ program g p stack slots callers out. refl
number_acts operators.Greater x y = λ program g p stack slots callers out. refl
number_acts operators.GreaterEqual x y = λ program g p stack slots callers out. refl
number_acts _ x y = tt

same_is : (a b : Bool) → TakesTwo instructions.Eq (bit a) (bit b) (Some (bit (same_truth a b)))
unfolding equal
same_is true true program g p stack slots callers out = refl
same_is true false program g p stack slots callers out = refl
same_is false true program g p stack slots callers out = refl
same_is false false program g p stack slots callers out = refl

other_is : (a b : Bool) → TakesTwo instructions.Ne (bit a) (bit b) (Some (bit (not (same_truth a b))))
unfolding differs
other_is true true program g p stack slots callers out = refl
other_is true false program g p stack slots callers out = refl
other_is false true program g p stack slots callers out = refl
other_is false false program g p stack slots callers out = refl

truth_acts : (op : Operator) (a b : Bool) → ActsOnTwo (truth_binary op a b) (binary_instruction op) (bit a) (bit b)
truth_acts operators.Equal a b = same_is a b
truth_acts operators.NotEqual a b = other_is a b
truth_acts _ a b = tt

pub binary_acts : (op : Operator) (x y : Value) → ActsOnTwo (binary_applied op x y) (binary_instruction op) (word x) (word y)
binary_acts op (Number x) (Number y) = number_acts op x y
binary_acts op (Truth a) (Truth b) = truth_acts op a b
binary_acts op (Number x) (Truth b) = tt
binary_acts op (Truth a) (Number y) = tt

-- an instruction is that of an operator, if there is one
abbrev pub IsOf : Option Operator → Option Instruction → Type 0
IsOf None i = Unit {0}
IsOf (Some op) i = i ≡ binary_instruction op

pub step_is : (op : Operator) → IsOf (step_binary op) (step_operator op)
step_is operators.Increment = refl
step_is operators.Decrement = refl
step_is _ = tt

pub update_is : (op : Operator) → IsOf (update_binary op) (update_operator op)
update_is operators.PlusAssign = refl
update_is operators.MinusAssign = refl
update_is operators.StarAssign = refl
update_is operators.SlashAssign = refl
update_is operators.PercentAssign = refl
update_is _ = tt
