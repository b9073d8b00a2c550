use Rattle.std.proofs.Common.{◌≡◌, ◌++◌, drop, map}
use Rattle.go_machine_core.specs.Programs.{linked_shown}
use Rattle.go_machine_core.specs.link.Reaching.{edges_from}
use Rattle.go_machine_core.proofs.link.edges.call_edges.Given as goal

abbrev pub invariant-loop-number : goal.invariant-loop-number
invariant-loop-number l =
    edges_from 0 (map (λ f. f.callees) (map linked_shown l.functions)) ≡ l.edges.items ++ edges_from l.number (map (λ f. f.callees) (map linked_shown (drop l.number l.functions)))
