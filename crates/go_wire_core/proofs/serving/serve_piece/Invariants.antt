use Rattle.std.proofs.Common.{◌≡◌, length}
use Rattle.go_wire_core.specs.mirrors.Serving.{IsLine}
use Rattle.go_wire_core.proofs.Pieces.{InPiece}
use Rattle.go_wire_core.proofs.serving.serve_piece.Given as goal

abbrev pub invariant-pieces : goal.invariant-pieces
invariant-pieces g l = record {
  inside : InPiece l.numbered g.D.Desk.answers l.fn.begun.items l.piece l.rest l.begun.items l.fn.desk l.desk (g.W.Write.contents l.fn.writer) (g.W.Write.contents l.writer);
  line : IsLine l.begun.items;
  same : g.D.Desk.is_numbered l.desk ≡ g.D.Desk.is_numbered l.fn.desk;
}

abbrev pub decreases-pieces : goal.decreases-pieces
decreases-pieces g l = length l.rest
