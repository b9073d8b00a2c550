use Rattle.std.proofs.Common.{◌≡◌, ◌++◌}
use Rattle.std.specs.List.{flat_map}
use Rattle.std.specs.Vec.Iter.{into_iter_items}
use Rattle.go_package_core.proofs.split.joined.Given as goal

abbrev pub invariant-loop-piece : goal.invariant-loop-piece
invariant-loop-piece l = l.files.items ++ flat_map (λ piece. piece.items) (into_iter_items l.piece-iterator) ≡ flat_map (λ piece. piece.items) l.fn.pieces.items
