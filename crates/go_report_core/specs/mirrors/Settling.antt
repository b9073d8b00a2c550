-- Faults against those that outcomes say.
use Rattle.std.specs.Prelude.{ℕ, Bool, false, List, [], ◌∷◌, ◌||◌, not, Contains}
use Rattle.std.specs.Ordering.{is_eq}
use Rattle.go_expr_core.specs.denote_core.declared.things.Outcome.{Outcome}
use Rattle.go_expr_core.specs.denote_core.declared.things.Outcome.TheVariants as outcomes
use Rattle.go_expr_core.specs.declared.things.Use.{Use}
use Rattle.go_expr_core.specs.local_core.declared.Fault.{Fault}
use Rattle.go_report_core.specs.Faults.{fault_order, IsSaid}

-- the fault that an outcome at an offset says, before others
abbrev pub said_before : {D P : Type 0} → ℕ → Outcome D P → List Fault → List Fault
said_before offset (outcomes.Refused r) rest = record { offset = offset; rule = r } ∷ rest
said_before offset (outcomes.Declared d) rest = rest
said_before offset (outcomes.Selected d p) rest = rest

abbrev pub said_of : {D P : Type 0} → List (Use D P) → List Fault
said_of [] = []
said_of (u ∷ us) = said_before u.offset u.outcome (said_of us)

-- one of the list is no other by the order
abbrev pub is_among : List Fault → Fault → Bool
is_among [] f = false
is_among (g ∷ gs) f = is_eq (fault_order g f) || is_among gs f

abbrev pub is_new : List Fault → Fault → Bool
is_new sorted f = not (is_among sorted f)

-- one of the faults that no outcome says
abbrev pub IsUnsaid : {D P : Type 0} → List (Use D P) → List Fault → Fault → Type 0
IsUnsaid uses faults f = Contains faults f × (¬ IsSaid uses f)
