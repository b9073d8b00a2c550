use Rattle.std.proofs.Common.{◌≡◌, ◌<◌, length, arith}
use Rattle.std.proofs.lemmas.Bool.Decides.{nat_tests}
use Rattle.go_wire_core.proofs.OutputsOutputLemmas.{sent_none, sent_more, sent_all, sent_part, sent_last}
use Rattle.go_wire_core.proofs.outputs.output.write_out.Goals as goal

pub loop-turn-init : goal.loop-turn-init
loop-turn-init g c = sent_none (g.W.Write.contents c.args.writer.now) c.args.bytes.now

pub returns-then-is_empty : goal.returns-then-is_empty
returns-then-is_empty g c =
    let none : length c.loop-turn.rest.now ≡ 0 = grind (arith, nat_tests) in
    sent_all _ _ c.args.bytes.now c.loop-turn.rest.now c.loop-turn.invariant none

pub returns-in-Err : goal.returns-in-Err
returns-in-Err g c =
    let some : 0 < length c.loop-turn.rest.now = grind (arith, nat_tests) in (
      c.in-Err.ensures.0,
      sent_part _ (g.W.Write.contents c.loop-turn.writer) _ c.args.bytes.now c.loop-turn.rest.now c.loop-turn.invariant some c.in-Err.ensures.1,
    )

pub loop-turn-preserved : goal.loop-turn-preserved
loop-turn-preserved g c = sent_more _ (g.W.Write.contents c.loop-turn.writer) _ c.args.bytes.now c.loop-turn.rest.now c.in-Ok.count c.loop-turn.invariant c.in-Ok.ensures.1

pub returns : goal.returns
returns g c =
    let some : 0 < length c.loop-turn.rest.now = grind (arith, nat_tests) in (
      λ e. cc,
      sent_last _ _ c.args.bytes.now c.loop-turn.rest.now c.loop-turn.invariant some,
    )
