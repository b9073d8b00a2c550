-- What the machine does with objects, one instruction after another.
use Rattle.std.specs.Prelude.{ℕ, zero, suc, ◌+◌, ◌-◌, Bool, true, false, List, [], ◌∷◌, ◌++◌, length, replicate, Option, Some, None, ℤ, pos, slice_get, slice_set}
use Rattle.go_object_core.specs.declared.instructions.instruction.Distance.{Distance}
use Rattle.go_object_core.specs.declared.instructions.instruction.Distance.TheVariants as distances
use Rattle.go_object_core.specs.declared.instructions.instruction.Instruction.{Instruction}
use Rattle.go_object_core.specs.declared.instructions.instruction.Instruction.TheVariants as instructions
use Rattle.go_object_core.specs.declared.instructions.letters.Word.{Word}
use Rattle.go_object_core.specs.declared.instructions.letters.Word.TheVariants as words
use Rattle.go_machine_core.specs.declared.state.PanicValue.{PanicValue}
use Rattle.go_machine_core.specs.declared.state.PanicValue.TheVariants as panics
use Rattle.go_machine_core.specs.Programs.{LinkedOf, callee}
use Rattle.go_machine_core.specs.Words.{is_true, negated, inverted, sum, difference, product, quotient, remainder, equal, differs, less, at_most, greater, at_least, line_text}

-- a function that is running: the place of its next instruction, its operands with the uppermost first, and its slots
pub record Frame : Type 0 where
  pub function : LinkedOf
  pub place : ℕ
  pub stack : List ℤ
  pub slots : List ℤ

-- how a run ended, or that it spent its steps, and what was printed; what it panicked with; `Stuck` where an instruction lacks what it asks for
pub data Run : Type 0 where
  Ended : (output : List ℕ) → Run
  Panicked : (value : PanicValue) (output : List ℕ) → Run
  Spent : (output : List ℕ) → Run
  Stuck : (output : List ℕ) → Run

-- the machine at its next instruction, with the functions that wait for the running one, the innermost first; or over
pub data Machine : Type 0 where
  At : (frame : Frame) (callers : List Frame) (output : List ℕ) → Machine
  Over : Run → Machine

-- at a place of the running function, with these operands
abbrev pub at_place : Frame → ℕ → List ℤ → List Frame → List ℕ → Machine
at_place f place stack callers out = At (record f { place = place; stack = stack }) callers out

-- at the next instruction, with these operands
abbrev pub onward : Frame → List ℤ → List Frame → List ℕ → Machine
onward f stack callers out = at_place f (f.place + 1) stack callers out

-- the uppermost operand
abbrev pub on_one : List ℤ → List ℕ → (ℤ → List ℤ → Machine) → Machine
on_one [] out go = Over (Stuck out)
on_one (x ∷ stack) out go = go x stack

-- the result of an operator: the one that has none is a division by 0, which panics
abbrev pub resulting : Option ℤ → List ℕ → (ℤ → Machine) → Machine
resulting None out go = Over (Panicked panics.DivideByZero out)
resulting (Some v) out go = go v

abbrev pub on_two : (ℤ → ℤ → Option ℤ) → List ℤ → Frame → List Frame → List ℕ → Machine
on_two op [] f callers out = Over (Stuck out)
on_two op (y ∷ []) f callers out = Over (Stuck out)
on_two op (y ∷ x ∷ stack) f callers out = resulting (op x y) out (λ v. onward f (v ∷ stack) callers out)

-- as many operands, the lowest first, in front of some others; and the operands below them
abbrev pub popped : ℕ → List ℤ → List ℤ → Option (List ℤ × List ℤ)
popped zero values stack = Some (values, stack)
popped (suc n) values [] = None
popped (suc n) values (v ∷ stack) = popped n (v ∷ values) stack

abbrev pub stuck_unless : {A : Type 0} → Option A → List ℕ → (A → Machine) → Machine
stuck_unless None out go = Over (Stuck out)
stuck_unless (Some a) out go = go a

abbrev pub jumped : Distance → ℕ → ℕ
jumped (distances.Forward n) next = next + n
jumped (distances.Back n) next = next - n

abbrev pub chosen : Bool → ℕ → ℕ → ℕ
chosen true n next = next
chosen false n next = next + n

-- the running function is left with these results
abbrev pub left : List Frame → List ℤ → List ℕ → Machine
left [] results out = Over (Ended out)
left (f ∷ callers) [] out = At f callers out
left (f ∷ callers) (v ∷ vs) out = at_place f f.place (v ∷ f.stack) callers out

-- the arguments, and 0 in each other slot
abbrev pub first_slots : List ℤ → ℕ → List ℤ
first_slots arguments slots = arguments ++ replicate (slots - length arguments) (pos 0)

abbrev pub begun : LinkedOf → List ℤ → Frame
begun g arguments = record { function = g; place = 0; stack = []; slots = first_slots arguments g.slots }

-- the function of a number begins
abbrev pub entered : List LinkedOf → ℕ → List ℤ → List Frame → List ℕ → Machine
entered program number arguments callers out = stuck_unless (slice_get program number) out (λ g. At (begun g arguments) callers out)

-- what a panic is with whose word holds this
abbrev pub panic_value : Word → ℤ → PanicValue
panic_value words.Int x = panics.Int x
panic_value words.Bool x = panics.Bool (is_true x)

-- one instruction: none where the place is outside the code
abbrev pub act : List LinkedOf → Option Instruction → Frame → List Frame → List ℕ → Machine
act program None f callers out = Over (Stuck out)
act program (Some (instructions.Push k)) f callers out = onward f (k ∷ f.stack) callers out
act program (Some (instructions.Load s)) f callers out = stuck_unless (slice_get f.slots s) out (λ v. onward f (v ∷ f.stack) callers out)
act program (Some (instructions.Store s)) f callers out =
    on_one f.stack out (λ v stack. stuck_unless (slice_get f.slots s) out (λ old. onward (record f { slots = slice_set f.slots s v }) stack callers out))
act program (Some instructions.Drop) f callers out = on_one f.stack out (λ v stack. onward f stack callers out)
act program (Some instructions.Neg) f callers out = on_one f.stack out (λ v stack. onward f (negated v ∷ stack) callers out)
act program (Some instructions.Not) f callers out = on_one f.stack out (λ v stack. onward f (inverted v ∷ stack) callers out)
act program (Some instructions.Add) f callers out = on_two sum f.stack f callers out
act program (Some instructions.Sub) f callers out = on_two difference f.stack f callers out
act program (Some instructions.Mul) f callers out = on_two product f.stack f callers out
act program (Some instructions.Div) f callers out = on_two quotient f.stack f callers out
act program (Some instructions.Rem) f callers out = on_two remainder f.stack f callers out
act program (Some instructions.Eq) f callers out = on_two equal f.stack f callers out
act program (Some instructions.Ne) f callers out = on_two differs f.stack f callers out
act program (Some instructions.Lt) f callers out = on_two less f.stack f callers out
act program (Some instructions.Le) f callers out = on_two at_most f.stack f callers out
act program (Some instructions.Gt) f callers out = on_two greater f.stack f callers out
act program (Some instructions.Ge) f callers out = on_two at_least f.stack f callers out
act program (Some (instructions.Jump d)) f callers out = at_place f (jumped d (f.place + 1)) f.stack callers out
act program (Some (instructions.JumpFalse n)) f callers out = on_one f.stack out (λ v stack. at_place f (chosen (is_true v) n (f.place + 1)) stack callers out)
act program (Some (instructions.Call r n)) f callers out =
    stuck_unless (popped n [] f.stack) out (λ taken.
    stuck_unless (callee f.function r) out (λ number.
    entered program number taken.0 (record f { place = f.place + 1; stack = taken.1 } ∷ callers) out))
act program (Some (instructions.Return false)) f callers out = left callers [] out
act program (Some (instructions.Return true)) f callers out = on_one f.stack out (λ v stack. left callers (v ∷ []) out)
act program (Some (instructions.Println ws)) f callers out =
    stuck_unless (popped (length ws) [] f.stack) out (λ taken.
    stuck_unless (line_text ws taken.0) out (λ line. onward f taken.1 callers (out ++ line)))
act program (Some (instructions.Panic w)) f callers out = on_one f.stack out (λ v stack. Over (Panicked (panic_value w v) out))
act program (Some instructions.Outside) f callers out = Over (Stuck out)

abbrev pub step : List LinkedOf → Frame → List Frame → List ℕ → Machine
step program f callers out = act program (slice_get f.function.code f.place) f callers out

-- what so many steps come to
abbrev pub run_from : List LinkedOf → ℕ → Machine → Run
run_from program n (Over run) = run
run_from program zero (At f callers out) = Spent out
run_from program (suc n) (At f callers out) = run_from program n (step program f callers out)

abbrev pub with_first : Option LinkedOf → Option (List Frame) → Option (List Frame)
with_first None more = None
with_first (Some g) None = None
with_first (Some g) (Some more) = Some (begun g [] ∷ more)

-- the functions of some numbers, to run one after another: none where there is none of a number
abbrev pub all_begun : List LinkedOf → List ℕ → Option (List Frame)
all_begun program [] = Some []
all_begun program (n ∷ ns) = with_first (slice_get program n) (all_begun program ns)

abbrev pub starting : List Frame → Machine
starting [] = Over (Ended [])
starting (f ∷ fs) = At f fs []

-- the machine before its first step, where the functions of these numbers are to run, one after another
abbrev pub started : List LinkedOf → List ℕ → Machine
started program starts = stuck_unless (all_begun program starts) [] starting

-- what a program comes to in so many steps, one for each instruction
abbrev pub machine : List LinkedOf → List ℕ → ℕ → Run
machine program starts steps = run_from program steps (started program starts)
