use Rattle.std.proofs.Common.{◌≡◌, ◌<◌, length, get_or, take, Some, refl, sym, arith}
use Rattle.std.specs.List.{slice_get}
use Rattle.std.proofs.lemmas.List.{take_all}
use Rattle.std.proofs.lemmas.List.Elements.{All-same}
use Rattle.go_digraph_core.proofs.ChainLists.{given_more, kept_more}
use Rattle.go_digraph_core.proofs.chain.follow.give_end.Goals as goal

pub loop-number-preserved : goal.loop-number-preserved
loop-number-preserved c =
    let way = c.args.way.now in
    let k = c.loop-number.number-index in
    let within = c.requires k 0 c.loop-number-test.true in
    let inside : get_or way k 0 < length c.loop-number.ends = omega (arith, within) in
    record {
      given = given_more c.loop-number.ends way k (get_or way k 0) c.args.end c.loop-number-test.true refl inside c.loop-number.invariant.given;
      kept = kept_more c.args.ends.now c.loop-number.ends way k (get_or way k 0) c.args.end c.loop-number-test.true refl inside c.loop-number.invariant.kept;
    }

pub returns-clause-given : goal.returns-clause-given
returns-clause-given c =
    All-same (λ i. slice_get c.loop-number.ends i ≡ Some (Some c.args.end)) c.args.way.now (take c.loop-number.number-index c.args.way.now)
    (sym (take_all c.loop-number.number-index c.args.way.now c.loop-number-test.false)) c.loop-number.invariant.given
