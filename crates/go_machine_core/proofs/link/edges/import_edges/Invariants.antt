use Rattle.std.proofs.Common.{◌≡◌, ◌++◌, drop, map}
use Rattle.go_machine_core.specs.link.Packages.{package_shown}
use Rattle.go_machine_core.specs.link.Reaching.{edges_from}
use Rattle.go_machine_core.proofs.link.edges.import_edges.Given as goal

abbrev pub invariant-loop-number : goal.invariant-loop-number
invariant-loop-number l =
    edges_from 0 (map (λ p. p.imports) (map package_shown l.packages)) ≡ l.edges.items ++ edges_from l.number (map (λ p. p.imports) (map package_shown (drop l.number l.packages)))
