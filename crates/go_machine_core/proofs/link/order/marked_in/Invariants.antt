use Rattle.std.proofs.Common.{◌≡◌, ◌++◌, drop}
use Rattle.std.specs.List.{flat_map}
use Rattle.go_machine_core.specs.link.Functions.{number_if}
use Rattle.go_machine_core.specs.link.Order.{is_marked}
use Rattle.go_machine_core.proofs.link.order.marked_in.Given as goal

abbrev pub invariant-loop-number : goal.invariant-loop-number
invariant-loop-number l =
    flat_map (λ n. number_if (is_marked l.marks n) n) l.numbers ≡ l.marked.items ++ flat_map (λ n. number_if (is_marked l.marks n) n) (drop l.number-index l.numbers)
