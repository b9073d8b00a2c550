use Rattle.std.proofs.Common.{◌≡◌, ◌-◌, ◌++◌, length, map}
use Rattle.go_machine_core.specs.link.Packages.{package_shown}
use Rattle.go_machine_core.specs.link.Order.{in_turn, initialised, marked_in}
use Rattle.go_machine_core.specs.link.mirrors.Numbering.{AreBelow}
use Rattle.go_machine_core.proofs.link.order.initialised.Given as goal

abbrev pub invariant-loop-turn : goal.invariant-loop-turn
invariant-loop-turn l = record {
  turns : initialised (map package_shown l.packages) l.order l.marks ≡ l.numbers.items ++ in_turn (map package_shown l.packages) (length (marked_in l.order l.marks) - l._turn) l.done.items l.waiting.items;
  below : AreBelow (length l.packages) l.waiting.items;
  many : length l.done.items ≡ length l.packages;
}
