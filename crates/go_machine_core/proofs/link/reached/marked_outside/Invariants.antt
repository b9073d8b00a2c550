use Rattle.std.proofs.Common.{◌≡◌, drop, map}
use Rattle.go_machine_core.specs.Programs.{linked_shown}
use Rattle.go_machine_core.specs.link.Reaching.{is_outside}
use Rattle.go_machine_core.specs.link.mirrors.Numbering.{first_marked}
use Rattle.go_machine_core.proofs.link.reached.marked_outside.Given as goal

abbrev pub invariant-loop-number : goal.invariant-loop-number
invariant-loop-number l =
    first_marked (λ f. is_outside f.code) 0 (map linked_shown l.functions) l.marks ≡ first_marked (λ f. is_outside f.code) l.number (map linked_shown (drop l.number l.functions)) (drop l.number l.marks)
