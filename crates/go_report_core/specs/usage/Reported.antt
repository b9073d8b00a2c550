-- What is reported of a file.
--
-- docs/RULES.md, "Reported faults".
use Rattle.std.specs.Prelude.{◌↔◌, ◌⊎◌, List, AllPairs, Contains}
use Rattle.go_expr_core.specs.local_core.declared.Fault.{Fault}
use Rattle.go_report_core.specs.Faults.{ComesBefore, IsSaid}
use Rattle.go_report_core.specs.usage.Used.{FileUse}

-- the rules that its occurrences break, and the faults beside: in order, each once
pub record IsReported (uses : List FileUse) (faults report : List Fault) : Type 0 where
  pub ordered : AllPairs ComesBefore report
  pub same : (f : Fault) → Contains report f ↔ (IsSaid uses f ⊎ Contains faults f)
