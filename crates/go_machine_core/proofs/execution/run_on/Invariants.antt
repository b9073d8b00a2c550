use Rattle.std.proofs.Common.{◌≡◌, ◌-◌, map}
use Rattle.go_machine_core.specs.Programs.{linked_shown}
use Rattle.go_machine_core.specs.Machine.{At, run_from}
use Rattle.go_machine_core.specs.mirrors.Shown.{numbered, from_state}
use Rattle.go_machine_core.proofs.execution.run_on.Given as goal

abbrev pub invariant-loop-turn : goal.invariant-loop-turn
invariant-loop-turn l =
    (run_from (map linked_shown l.program) (l.steps - l._turn) (from_state l.program l.state At) ≡ run_from (map linked_shown l.program) l.steps (from_state l.program l.fn.state At))
    × (l.code ≡ (numbered l.program l.function).code)
    × (l.function ≡ l.state.frame.function)
