use Rattle.std.proofs.Common.{map, rules}
use Rattle.go_candidate_core.proofs.AtPlaceOtherKeys.{but_turn, but_end}
use Rattle.go_candidate_core.proofs.at_place.keyed.other_keys.Goals as goal

pub loop-number-preserved : goal.loop-number-preserved
loop-number-preserved c =
    but_turn c.args.at c.loop-number.number c.args.items.now c.index-items-number.result (map (λ n. n.now) c.loop-number.names.items) (map (λ n. n.now) c.add_key.new.names.items) _ _ c.loop-number-test.true c.index-items-number.is (search rules) c.in_ok-add_key.ensures c.loop-number.invariant

pub returns : goal.returns
returns c = but_end c.args.at c.loop-number.number c.args.items.now (map (λ n. n.now) c.loop-number.names.items) c.loop-number-test.false c.loop-number.invariant
