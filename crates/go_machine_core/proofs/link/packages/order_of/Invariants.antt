use Rattle.std.proofs.Common.{◌≡◌, drop, map}
use Rattle.go_machine_core.specs.link.Packages.{order_from}
use Rattle.go_machine_core.proofs.link.packages.order_of.Given as goal

abbrev pub invariant-loop-number : goal.invariant-loop-number
invariant-loop-number l = l.order.items ≡ order_from (map (λ p. p.now) l.paths) l.number (map (λ p. p.now) (drop l.number l.paths))
