use Rattle.std.proofs.Common.{◌+◌, ◌*◌, sym, ap, subst, ◌∙◌, arith}
use Rattle.std.specs.Prelude.{IfSome}
use Rattle.go_wire_core.specs.declared.serving.ServeEnd.TheVariants as ends
use Rattle.go_wire_core.specs.Ends.{IsEnd}
use Rattle.go_wire_core.specs.mirrors.Serving.{IsLine}
use Rattle.go_wire_core.proofs.InOrder.{no_line}
use Rattle.go_wire_core.proofs.Taking.{InTurns, memory_is_other, no_memory, no_read_fault, reads_by_end, reads_more, reads_none, turn_is_unspent, turns_are_other, turns_begin, turns_go_on, turns_end, turns_spent}
use Rattle.go_wire_core.proofs.serving.serve.Goals as goal

pub returns-in_default-clause-end : goal.returns-in_default-clause-end
returns-in_default-clause-end g c = no_memory (g.D.Desk.is_numbered c.args.desk.now) g.D.Desk.answers (g.R.Read.remaining c.args.reader.now.reader) (g.R.Read.remaining c.args.reader.now.reader) c.args.desk.now (g.W.Write.contents c.args.writer.now)

pub returns-in_default-clause-fault : goal.returns-in_default-clause-fault
returns-in_default-clause-fault g c = no_read_fault ends.Memory c.args.reader.now.failed c.requires.sound memory_is_other

pub loop-turn-init : goal.loop-turn-init
loop-turn-init g c =
    let begins = turns_begin c.numbered-numbered.result g.D.Desk.answers (g.R.Read.remaining c.args.reader.now.reader) c.args.desk.now (g.W.Write.contents c.args.writer.now) in
    record {
      inside = subst (λ l. InTurns c.numbered-numbered.result g.D.Desk.answers (g.R.Read.remaining c.args.reader.now.reader) (g.R.Read.remaining c.args.reader.now.reader) l c.args.desk.now c.args.desk.now
          (g.W.Write.contents c.args.writer.now) (g.W.Write.contents c.args.writer.now)) (sym c.new-begun.ensures.items) begins;
      line = subst IsLine (sym c.new-begun.ensures.items) no_line;
      room = c.in-Ok.ensures;
      same = sym c.numbered-numbered.ensures;
      few = reads_none (g.R.Read.remaining c.args.reader.now.reader) 0;
      reads = c.requires.unread;
      sound = c.requires.sound;
    }

pub serve_turn-requires-clause-line : goal.serve_turn-requires-clause-line
serve_turn-requires-clause-line g c = c.loop-turn.invariant.line

pub serve_turn-requires-clause-some : goal.serve_turn-requires-clause-some
serve_turn-requires-clause-some g c = let len = c.deref_mut.ensures.len in let room = c.loop-turn.invariant.room in omega (arith, len, room)

pub serve_turn-requires-clause-small : goal.serve_turn-requires-clause-small
serve_turn-requires-clause-small g c = let len = c.deref_mut.ensures.len in let room = c.loop-turn.invariant.room in omega (arith, len, room)

pub serve_turn-requires-clause-numbered : goal.serve_turn-requires-clause-numbered
serve_turn-requires-clause-numbered g c = c.loop-turn.invariant.same

pub serve_turn-requires-clause-more : goal.serve_turn-requires-clause-more
serve_turn-requires-clause-more g c = let reads = c.loop-turn.invariant.reads in let more = c.loop-turn-test.true in omega (arith, reads, more)

pub serve_turn-requires-clause-sound : goal.serve_turn-requires-clause-sound
serve_turn-requires-clause-sound g c = c.loop-turn.invariant.sound

pub returns-in-Err-clause-end : goal.returns-in-Err-clause-end
returns-in-Err-clause-end g c =
    subst (λ b. IfSome (g.R.Read.remaining c.args.reader.now.reader) (λ bytes. IsEnd c.in-Err.end b g.D.Desk.answers bytes (g.R.Read.remaining c.serve_turn.new.reader.reader) c.args.desk.now c.serve_turn.new.desk
    (g.W.Write.contents c.args.writer.now) (g.W.Write.contents c.serve_turn.new.writer))) c.numbered-numbered.ensures
    (turns_end c.numbered-numbered.result g.D.Desk.answers c.in-Err.end (g.R.Read.remaining c.args.reader.now.reader) (g.R.Read.remaining c.loop-turn.reader.reader) (g.R.Read.remaining c.serve_turn.new.reader.reader) c.loop-turn.begun.items
    c.args.desk.now c.loop-turn.desk c.serve_turn.new.desk (g.W.Write.contents c.args.writer.now) (g.W.Write.contents c.loop-turn.writer) (g.W.Write.contents c.serve_turn.new.writer)
    c.loop-turn.invariant.inside c.in-Err.ensures.err)

pub returns-in-Err-clause-few : goal.returns-in-Err-clause-few
returns-in-Err-clause-few g c =
    reads_by_end c.in-Err.end c.numbered-numbered.result g.D.Desk.answers c.loop-turn.begun.items c.loop-turn.desk c.serve_turn.new.desk (g.R.Read.remaining c.args.reader.now.reader) (g.R.Read.remaining c.loop-turn.reader.reader)
    (g.R.Read.remaining c.serve_turn.new.reader.reader) (g.W.Write.contents c.loop-turn.writer) (g.W.Write.contents c.serve_turn.new.writer) c.loop-turn._turn c.args.turns c.loop-turn-test.true
    c.loop-turn.invariant.few c.serve_turn.ensures.few c.in-Err.ensures.err

pub returns-in-Err-clause-reads : goal.returns-in-Err-clause-reads
returns-in-Err-clause-reads g c =
    let reads = c.loop-turn.invariant.reads in let more = c.loop-turn-test.true in let counted = c.serve_turn.ensures.counted in omega (arith, reads, more, counted)

pub returns-in-Err-clause-spent : goal.returns-in-Err-clause-spent
returns-in-Err-clause-spent g c =
    λ spent. absurd (turn_is_unspent c.numbered-numbered.result g.D.Desk.answers c.in-Err.end c.loop-turn.begun.items (g.R.Read.remaining c.loop-turn.reader.reader) (g.R.Read.remaining c.serve_turn.new.reader.reader)
    c.loop-turn.desk c.serve_turn.new.desk (g.W.Write.contents c.loop-turn.writer) (g.W.Write.contents c.serve_turn.new.writer) c.in-Err.ensures.err spent)

pub returns-in-Err-clause-fault : goal.returns-in-Err-clause-fault
returns-in-Err-clause-fault g c = c.in-Err.ensures.fault

pub loop-turn-preserved : goal.loop-turn-preserved
loop-turn-preserved g c = record {
  inside = turns_go_on c.numbered-numbered.result g.D.Desk.answers (g.R.Read.remaining c.args.reader.now.reader) (g.R.Read.remaining c.loop-turn.reader.reader) (g.R.Read.remaining c.serve_turn.new.reader.reader) c.loop-turn.begun.items c.serve_turn.new.begun.items
      c.args.desk.now c.loop-turn.desk c.serve_turn.new.desk (g.W.Write.contents c.args.writer.now) (g.W.Write.contents c.loop-turn.writer) (g.W.Write.contents c.serve_turn.new.writer)
      c.loop-turn.invariant.inside c.in-Ok-serve_turn.ensures.ok;
  line = c.in-Ok-serve_turn.ensures.ok.2.rest;
  room = c.loop-turn.invariant.room;
  same = c.serve_turn.ensures.same ∙ c.loop-turn.invariant.same;
  few = reads_more (g.R.Read.remaining c.args.reader.now.reader) (g.R.Read.remaining c.loop-turn.reader.reader) (g.R.Read.remaining c.serve_turn.new.reader.reader) (c.loop-turn._turn * 65536) 65536 ((c.loop-turn._turn + 1) * 65536)
      c.loop-turn.invariant.few c.serve_turn.ensures.few (omega arith);
  reads = c.serve_turn.ensures.counted ∙ ap (λ n. n + 1) c.loop-turn.invariant.reads;
  sound = c.in-Ok-serve_turn.ensures.sound;
}

pub returns-clause-end : goal.returns-clause-end
returns-clause-end g c =
    subst (λ b. IfSome (g.R.Read.remaining c.args.reader.now.reader) (λ bytes. IsEnd ends.Turns b g.D.Desk.answers bytes (g.R.Read.remaining c.loop-turn.reader.reader) c.args.desk.now c.loop-turn.desk
    (g.W.Write.contents c.args.writer.now) (g.W.Write.contents c.loop-turn.writer))) c.numbered-numbered.ensures
    (turns_spent c.numbered-numbered.result g.D.Desk.answers (g.R.Read.remaining c.args.reader.now.reader) (g.R.Read.remaining c.loop-turn.reader.reader) c.loop-turn.begun.items c.args.desk.now c.loop-turn.desk
    (g.W.Write.contents c.args.writer.now) (g.W.Write.contents c.loop-turn.writer) c.loop-turn.invariant.inside)

pub returns-clause-few : goal.returns-clause-few
returns-clause-few g c =
    reads_more (g.R.Read.remaining c.args.reader.now.reader) (g.R.Read.remaining c.loop-turn.reader.reader) (g.R.Read.remaining c.loop-turn.reader.reader) (c.loop-turn._turn * 65536) 0 (c.args.turns * 65536)
    c.loop-turn.invariant.few (reads_none (g.R.Read.remaining c.loop-turn.reader.reader) 0) (let le = c.loop-turn.auto._turn-end in omega (arith, le))

pub returns-clause-reads : goal.returns-clause-reads
returns-clause-reads g c = let reads = c.loop-turn.invariant.reads in let le = c.loop-turn.auto._turn-end in omega (arith, reads, le)

pub returns-clause-fault : goal.returns-clause-fault
returns-clause-fault g c = no_read_fault ends.Turns c.loop-turn.reader.failed c.loop-turn.invariant.sound turns_are_other
