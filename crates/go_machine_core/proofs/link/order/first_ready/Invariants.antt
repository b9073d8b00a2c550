use Rattle.std.proofs.Common.{◌≡◌, drop, map}
use Rattle.std.specs.List.{position_from}
use Rattle.go_machine_core.specs.link.Packages.{package_shown}
use Rattle.go_machine_core.specs.link.Order.{is_ready}
use Rattle.go_machine_core.proofs.link.order.first_ready.Given as goal

abbrev pub invariant-loop-place : goal.invariant-loop-place
invariant-loop-place l =
    position_from (is_ready (map package_shown l.packages) l.done) 0 l.waiting ≡ position_from (is_ready (map package_shown l.packages) l.done) l.place (drop l.place l.waiting)
