use Rattle.std.proofs.Common.{map}
use Rattle.go_candidate_core.proofs.AtPlaceOtherKeys.{all_turn, all_end}
use Rattle.go_candidate_core.proofs.at_place.keyed.all_keys.Goals as goal

pub loop-item-preserved : goal.loop-item-preserved
loop-item-preserved c =
    all_turn c.loop-item.item-index c.args.items.now c.item-item.result (map (λ n. n.now) c.loop-item.names.items) (map (λ n. n.now) c.add_key.new.names.items) _ c.loop-item-test.true c.item-item.is c.in_ok-add_key.ensures c.loop-item.invariant

pub returns : goal.returns
returns c = all_end c.loop-item.item-index c.args.items.now (map (λ n. n.now) c.loop-item.names.items) c.loop-item-test.false c.loop-item.invariant
