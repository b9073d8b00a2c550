-- How the values of a run stand for the machine.
use Rattle.std.specs.Prelude.{ℕ, ◌+◌, ◌-◌, min, ◌^◌, List, [], map, Option, Some, None, slice_get, ℤ, string_bytes}
use Rattle.go_object_core.specs.declared.instructions.instruction.Instruction.{Instruction}
use Rattle.go_object_core.specs.declared.instructions.instruction.Instruction.TheVariants as instructions
use Rattle.go_machine_core.specs.declared.linked.Linked.{Linked}
use Rattle.go_machine_core.specs.declared.words.Operation.{Operation}
use Rattle.go_machine_core.specs.declared.words.Operation.TheVariants as operations
use Rattle.go_machine_core.specs.declared.state.End.{End}
use Rattle.go_machine_core.specs.declared.frame.Frame.{Frame}
use Rattle.go_machine_core.specs.declared.state.State.{State}
use Rattle.go_machine_core.specs.Ends.{run_of}
use Rattle.go_machine_core.specs.Programs.{LinkedOf, linked_shown}
use Rattle.go_machine_core.specs.Words.{is_true, sum, difference, product, quotient, remainder, equal, differs, less, at_most, greater, at_least}
use Rattle.go_machine_core.specs.Machine.{Frame as MachineFrame, Machine, At, Over, at_place, on_one, jumped, chosen, act}

abbrev pub operation : Operation → ℤ → ℤ → Option ℤ
operation operations.Add = sum
operation operations.Sub = difference
operation operations.Mul = product
operation operations.Div = quotient
operation operations.Rem = remainder
operation operations.Eq = equal
operation operations.Ne = differs
operation operations.Lt = less
operation operations.Le = at_most
operation operations.Gt = greater
operation operations.Ge = at_least

abbrev pub no_function : LinkedOf
no_function = record { slots = 0; callees = []; code = [] }

abbrev pub shown_or_none : Option Linked → LinkedOf
shown_or_none None = no_function
shown_or_none (Some f) = linked_shown f

-- the function of a number
abbrev pub numbered : List Linked → ℕ → LinkedOf
numbered program n = shown_or_none (slice_get program n)

abbrev pub frame_shown : List Linked → Frame → MachineFrame
frame_shown program f = record { function = numbered program f.function; place = f.place; stack = f.stack; slots = f.slots.items }

abbrev pub frames_shown : List Linked → List Frame → List MachineFrame
frames_shown program fs = map (frame_shown program) fs

-- what the machine comes to that goes on from a state
abbrev pub from_state : List Linked → State → (MachineFrame → List MachineFrame → List ℕ → Machine) → Machine
from_state program s go = go (frame_shown program s.frame) (frames_shown program s.callers) (string_bytes s.output)

abbrev pub after : List Linked → Option End → State → Machine
after program None s = from_state program s At
after program (Some end) s = Over (run_of end (string_bytes s.output))

-- a frame that waits with other operands
abbrev pub waiting : MachineFrame → List ℤ → MachineFrame
waiting f stack = record f { place = f.place + 1; stack = stack }

-- a place as far as places are numbered: no code is longer
abbrev pub within : ℕ → ℕ
within place = min place (2 ^ 64 - 1)

-- one instruction, with a jump that leads no further than places are numbered
abbrev pub acts : List LinkedOf → Instruction → MachineFrame → List MachineFrame → List ℕ → Machine
acts program (instructions.Jump d) f callers out = at_place f (within (jumped d (f.place + 1))) f.stack callers out
acts program (instructions.JumpFalse n) f callers out = on_one f.stack out (λ v stack. at_place f (within (chosen (is_true v) n (f.place + 1))) stack callers out)
acts program i f callers out = act program (Some i) f callers out

-- the same from a state
abbrev pub acted : List Linked → Instruction → State → Machine
acted program i s = from_state program s (acts (map linked_shown program) i)
