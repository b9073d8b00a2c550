use Rattle.std.proofs.Common.{length, arith, ap, sym, subst}
use Rattle.std.proofs.lemmas.List.{length-append}
use Rattle.std.specs.Io.KnownBytes.{Consumes}
use Rattle.govisd_resolve.proofs.InputLemmas.{consumes_more, first_given, all_given, reads_more}
use Rattle.govisd_resolve.proofs.input.read_input.Goals as goal

pub returns-then-room-eq0-clause-ok : goal.returns-then-room-eq0-clause-ok
returns-then-room-eq0-clause-ok g c = first_given _ _ c.loop-turn.bytes.items 1048577 c.loop-turn.invariant.given (omega arith)

pub loop-turn-preserved : goal.loop-turn-preserved
loop-turn-preserved g c =
    let ok = c.in_ok-read_part.ensures.ok in
    let room = c.min-room.ensures in
    record {
      given = subst (λ l. Consumes (g.R.Read.remaining c.args.reader.now) (g.R.Read.remaining c.read_part.new.reader) l) (sym ok.2) (consumes_more _ _ _ _ _ c.loop-turn.invariant.given ok.1);
      within = omega (arith, ap length ok.2, length-append c.loop-turn.bytes.items ok.0, ok.3, c.loop-turn.invariant.within);
    }

pub returns-then-not-branch-clause-ok : goal.returns-then-not-branch-clause-ok
returns-then-not-branch-clause-ok g c =
    let ok = c.in_ok-read_part.ensures.ok in
    let room = c.min-room.ensures in
    all_given _ (g.R.Read.remaining c.read_part.new.reader) c.read_part.new.bytes.items 1048577
    (subst (λ l. Consumes (g.R.Read.remaining c.args.reader.now) (g.R.Read.remaining c.read_part.new.reader) l) (sym ok.2) (consumes_more _ _ _ _ _ c.loop-turn.invariant.given ok.1))
    (ok.4 c.if-not-branch.true).1
    (omega (arith, ap length ok.2, length-append c.loop-turn.bytes.items ok.0, ok.3, c.loop-turn.invariant.within))

pub returns-in_err-read_part-clause-few : goal.returns-in_err-read_part-clause-few
returns-in_err-read_part-clause-few g c =
    let room = c.min-room.ensures in
    reads_more _ _ _ c.loop-turn.bytes.items c.min-room.result 1048577 c.loop-turn.invariant.given c.read_part.ensures.few (omega (arith, c.loop-turn.invariant.within))
