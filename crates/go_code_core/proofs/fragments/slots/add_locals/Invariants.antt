use Rattle.std.proofs.Common.{◌≡◌, ◌++◌, drop}
use Rattle.go_code_core.specs.fragments.mirrors.Listing.{locals_more}
use Rattle.go_code_core.proofs.fragments.slots.add_locals.Given as goal

abbrev pub invariant-loop-next : goal.invariant-loop-next
invariant-loop-next l = l.initial.slots.items ++ locals_more l.next-items ≡ l.slots.items ++ locals_more (drop l.next-index l.next-items)
