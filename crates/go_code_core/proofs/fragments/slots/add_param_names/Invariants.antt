use Rattle.std.proofs.Common.{◌≡◌, ◌++◌, drop}
use Rattle.go_code_core.specs.fragments.mirrors.Listing.{param_names_more}
use Rattle.go_code_core.proofs.fragments.slots.add_param_names.Given as goal

abbrev pub invariant-loop-next : goal.invariant-loop-next
invariant-loop-next l = l.initial.slots.items ++ param_names_more l.next-items ≡ l.slots.items ++ param_names_more (drop l.next-index l.next-items)
