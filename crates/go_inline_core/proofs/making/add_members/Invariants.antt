use Rattle.std.proofs.Common.{◌≡◌, ◌++◌, map, take}
use Rattle.go_inline_core.specs.Inline.{located_fault}
use Rattle.go_inline_core.proofs.making.add_members.Given as goal

abbrev pub invariant-loop-member : goal.invariant-loop-member
invariant-loop-member l = l.faults.items ≡ l.fn.faults.items ++ map (located_fault l.places) (take l.member-index l.members)
