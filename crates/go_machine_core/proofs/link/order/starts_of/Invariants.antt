use Rattle.std.proofs.Common.{◌≡◌, ◌++◌, drop, map}
use Rattle.std.specs.Prelude.{slice_get}
use Rattle.std.specs.List.{flat_map}
use Rattle.go_machine_core.specs.link.Packages.{package_shown}
use Rattle.go_machine_core.specs.link.Order.{initialised, inits_in}
use Rattle.go_machine_core.proofs.link.order.starts_of.Given as goal

abbrev pub invariant-loop-number : goal.invariant-loop-number
invariant-loop-number l =
    flat_map (λ n. inits_in (slice_get (map package_shown l.packages) n)) (initialised (map package_shown l.packages) l.order l.marks)
    ≡ l.starts.items ++ flat_map (λ n. inits_in (slice_get (map package_shown l.packages) n)) (drop l.number-index (initialised (map package_shown l.packages) l.order l.marks))
