use Rattle.std.proofs.Common.{◌≡◌, ◌<◌, ◌++◌, All, length}
use Rattle.std.specs.Vec.Iter.{into_iter_items}
use Rattle.go_collections_core.specs.persistent_list.Pieces.{in_pieces}
use Rattle.go_collections_core.proofs.PersistentListCutting.{IsFull}
use Rattle.go_collections_core.proofs.persistent_list.list.Pieces.over.Given as goal

abbrev pub invariant-loop-item : goal.invariant-loop-item
invariant-loop-item g l =
    (goal.iterator-loop-item g).can_next l.item-iterator ×
    (goal.iterator-loop-item g).is_finite l.item-iterator ×
    All IsFull l.full.items ×
    (length l.last.items < 64) ×
    (in_pieces l.full.items (l.last.items ++ into_iter_items l.item-iterator) ≡ l.fn.items.items)
