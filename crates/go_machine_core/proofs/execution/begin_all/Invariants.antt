use Rattle.std.proofs.Common.{◌≡◌, drop, map, Some}
use Rattle.go_machine_core.specs.Programs.{linked_shown}
use Rattle.go_machine_core.specs.Machine.{all_begun}
use Rattle.go_machine_core.specs.mirrors.Shown.{frames_shown}
use Rattle.go_machine_core.proofs.execution.begin_all.Given as goal

abbrev pub invariant-loop-number : goal.invariant-loop-number
invariant-loop-number l = all_begun (map linked_shown l.program) (drop l.number l.starts) ≡ Some (frames_shown l.program l.frames)
