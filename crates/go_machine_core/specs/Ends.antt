-- What is handed back of a run.
use Rattle.std.specs.Prelude.{ℕ, List, string_bytes}
use Rattle.go_machine_core.specs.declared.state.End.{End}
use Rattle.go_machine_core.specs.declared.state.End.TheVariants as ends
use Rattle.go_machine_core.specs.declared.execution.Ran.{Ran}
use Rattle.go_machine_core.specs.Machine.{Run, Ended, Panicked, Spent, Stuck}

abbrev pub run_of : End → List ℕ → Run
run_of ends.Ended out = Ended out
run_of (ends.Panicked value) out = Panicked value out
run_of ends.Spent out = Spent out
run_of ends.Stuck out = Stuck out

abbrev pub ran_shown : Ran → Run
ran_shown r = run_of r.end (string_bytes r.output)
