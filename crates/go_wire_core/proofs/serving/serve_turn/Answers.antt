use Rattle.std.proofs.Common.{◌≡◌, ◌∙◌, [], ◌∷◌, ◌++◌, take, ap, subst, arith}
use Rattle.std.specs.Io.KnownBytes.{Consumes}
use Rattle.go_wire_core.specs.Lines.{lines}
use Rattle.go_wire_core.specs.mirrors.Serving.{IsEndOfLines}
use Rattle.std.proofs.lemmas.Result.{IfErr-weaker}
use Rattle.std.proofs.KnownBytes.{Consumes-nil, Consumes-kept}
use Rattle.go_wire_core.proofs.InOrder.{going_none}
use Rattle.go_wire_core.proofs.Taking.{turn_ends, last_ends, lines_are_other, no_read_fault}
use Rattle.go_wire_core.proofs.serving.serve_turn.Goals as goal

pub returns-in-Err-clause-ok : goal.returns-in-Err-clause-ok
returns-in-Err-clause-ok g c = (
  [],
  Consumes-kept _ (g.R.Read.remaining c.args.reader.now.reader) _ [] (Consumes-nil (g.R.Read.remaining c.args.reader.now.reader)) c.in-Err.ensures.bytes,
  going_none g.D.Desk.answers c.args.numbered c.args.begun.now.items c.args.desk.now (g.W.Write.contents c.args.writer.now) c.requires.line,
)

pub returns-then-count-eq0-clause-err : goal.returns-then-count-eq0-clause-err
returns-then-count-eq0-clause-err g c =
    let none : take c.in-Ok.count c.read.new.buf ≡ [] = ap (λ n. take n c.read.new.buf) c.if-count-eq0.true in
    let taken = subst (Consumes (g.R.Read.remaining c.args.reader.now.reader) (g.R.Read.remaining c.read.new.self.reader)) none c.in-Ok.ensures.bytes.0 in
    let over = c.in-Ok.ensures.bytes.1 c.if-count-eq0.true (omega (arith, c.requires.some)) in
    last_ends c.args.numbered g.D.Desk.answers c.serve_last.result c.args.begun.now.items (g.R.Read.remaining c.args.reader.now.reader) (g.R.Read.remaining c.read.new.self.reader) c.args.desk.now c.serve_last.new.desk
    (g.W.Write.contents c.args.writer.now) (g.W.Write.contents c.serve_last.new.writer) c.requires.line taken over
    (subst (λ l. IsEndOfLines c.serve_last.result c.args.numbered g.D.Desk.answers (l ∷ []) c.args.desk.now c.serve_last.new.desk (g.W.Write.contents c.args.writer.now) (g.W.Write.contents c.serve_last.new.writer)) c.as_slice.ensures.value c.serve_last.ensures.end)

pub returns-else-count-eq0-clause-err : goal.returns-else-count-eq0-clause-err
returns-else-count-eq0-clause-err g c =
    IfErr-weaker c.serve_piece.result _ _
    (λ end h. turn_ends c.args.numbered g.D.Desk.answers end c.args.begun.now.items (take c.in-Ok.count c.read.new.buf) (g.R.Read.remaining c.args.reader.now.reader) (g.R.Read.remaining c.read.new.self.reader) c.args.desk.now c.serve_piece.new.desk
    (g.W.Write.contents c.args.writer.now) (g.W.Write.contents c.serve_piece.new.writer) c.in-Ok.ensures.bytes.0 h) c.serve_piece.ensures.err

pub returns-then-count-eq0-clause-fault : goal.returns-then-count-eq0-clause-fault
returns-then-count-eq0-clause-fault g c =
    no_read_fault c.serve_last.result c.read.new.self.failed (c.in-Ok.ensures.sound ∙ c.requires.sound)
    (lines_are_other c.args.numbered g.D.Desk.answers c.serve_last.result (c.as_slice.result.now ∷ []) c.args.desk.now c.serve_last.new.desk (g.W.Write.contents c.args.writer.now) (g.W.Write.contents c.serve_last.new.writer)
    c.serve_last.ensures.end)

pub returns-else-count-eq0-clause-fault : goal.returns-else-count-eq0-clause-fault
returns-else-count-eq0-clause-fault g c =
    IfErr-weaker c.serve_piece.result _ _
    (λ end h. no_read_fault end c.read.new.self.failed (c.in-Ok.ensures.sound ∙ c.requires.sound)
    (lines_are_other c.args.numbered g.D.Desk.answers end (lines (c.args.begun.now.items ++ (take c.in-Ok.count c.read.new.buf ++ []))) c.args.desk.now c.serve_piece.new.desk (g.W.Write.contents c.args.writer.now)
    (g.W.Write.contents c.serve_piece.new.writer) (h []))) c.serve_piece.ensures.err
