-- Programs: functions whose references are numbers of functions.
use Rattle.std.specs.Prelude.{ℕ, List, Option, Some, None, slice_get}
use Rattle.go_object_core.specs.declared.instructions.instruction.Instruction.{Instruction}
use Rattle.go_machine_core.specs.declared.linked.Linked.{Linked}

-- a function: how many slots it has, of each of its references the number of the function that it is, if it is one, and its code
pub record LinkedOf : Type 0 where
  pub slots : ℕ
  pub callees : List (Option ℕ)
  pub code : List Instruction

abbrev pub linked_shown : Linked → LinkedOf
linked_shown f = record { slots = f.slots; callees = f.callees.items; code = f.code.now }

abbrev pub callee_in : Option (Option ℕ) → Option ℕ
callee_in None = None
callee_in (Some callee) = callee

-- the number of the function that a reference is
abbrev pub callee : LinkedOf → ℕ → Option ℕ
callee g reference = callee_in (slice_get g.callees reference)
