use Rattle.std.proofs.Common.{◌≡◌, map, take}
use Rattle.go_tree_core.specs.copies.Respelled.{spelled}
use Rattle.go_tree_core.proofs.CopiesSameTrees.{other_next}
use Rattle.go_tree_core.proofs.copies.copies.copy_idents.Given as goal

abbrev pub invariant-loop-next : goal.invariant-loop-next
invariant-loop-next l = l.more.items ≡ map (other_next (spelled l.copier)) (take l.next-index l.next-items)
