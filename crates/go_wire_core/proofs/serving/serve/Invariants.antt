use Rattle.std.proofs.Common.{◌≡◌, ◌*◌, false, vec_len}
use Rattle.go_wire_core.specs.Ends.{ReadsUpTo}
use Rattle.go_wire_core.specs.mirrors.Serving.{IsLine}
use Rattle.go_wire_core.proofs.Taking.{InTurns}
use Rattle.go_wire_core.proofs.serving.serve.Given as goal

abbrev pub invariant-loop-turn : goal.invariant-loop-turn
invariant-loop-turn g l = record {
  inside : InTurns l.numbered g.D.Desk.answers (g.R.Read.remaining l.fn.reader.reader) (g.R.Read.remaining l.reader.reader) l.begun.items l.fn.desk l.desk (g.W.Write.contents l.fn.writer) (g.W.Write.contents l.writer);
  line : IsLine l.begun.items;
  room : vec_len l.buffer ≡ 65536;
  same : g.D.Desk.is_numbered l.desk ≡ l.numbered;
  few : ReadsUpTo (l._turn * 65536) (g.R.Read.remaining l.fn.reader.reader) (g.R.Read.remaining l.reader.reader);
  reads : l.reader.reads ≡ l._turn;
  sound : l.reader.failed ≡ false;
}
