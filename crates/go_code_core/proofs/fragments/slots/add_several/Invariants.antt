use Rattle.std.proofs.Common.{◌≡◌, ◌++◌, drop}
use Rattle.go_code_core.specs.fragments.mirrors.Listing.{new_more}
use Rattle.go_code_core.proofs.fragments.slots.add_several.Given as goal

abbrev pub invariant-loop-next : goal.invariant-loop-next
invariant-loop-next g l =
    l.initial.slots.items ++ new_more (g.N.CodeNames.looks l.names) l.next-items ≡ l.slots.items ++ new_more (g.N.CodeNames.looks l.names) (drop l.next-index l.next-items)
