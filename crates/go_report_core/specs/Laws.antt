-- What holds of reported faults.
use Rattle.std.specs.Prelude.{◌≡◌, ◌↔◌, List, Contains}
use Rattle.go_expr_core.specs.declared.things.Use.{Use}
use Rattle.go_expr_core.specs.local_core.declared.Fault.{Fault}
use Rattle.go_report_core.specs.Faults.{IsSaid, IsSettled}

-- the same outcomes say each fault, and the same faults are found, in whatever order and however often: they settle to one list
abbrev pub SettledFaultsAreOne : (D P : Type 0) → Type 0
SettledFaultsAreOne D P = (uses more : List (Use D P)) (faults others settled again : List Fault)
    → ((f : Fault) → IsSaid uses f ↔ IsSaid more f) → ((f : Fault) → Contains faults f ↔ Contains others f)
    → IsSettled D P uses faults settled → IsSettled D P more others again → settled ≡ again
