use Rattle.std.proofs.Common.{◌≡◌, ◌++◌, take}
use Rattle.go_constant_core.proofs.joints.add_pieces.Given as goal

abbrev pub invariant-loop-piece : goal.invariant-loop-piece
invariant-loop-piece l = l.front.items ≡ l.initial.front.items ++ take l.piece-index l.back
