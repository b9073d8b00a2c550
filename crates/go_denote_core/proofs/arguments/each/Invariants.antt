use Rattle.std.proofs.Common.{◌≡◌, ◌++◌, map}
use Rattle.std.specs.Vec.Iter.{into_iter_items}
use Rattle.go_denote_core.specs.Arguments.{argument_of}
use Rattle.go_denote_core.proofs.arguments.each.Given as goal

abbrev pub invariant-loop-member : goal.invariant-loop-member
invariant-loop-member g l = l.all.items ++ map argument_of (into_iter_items l.member-iterator) ≡ map argument_of l.fn.members.items
