use Rattle.std.proofs.Common.{◌≡◌, ◌∙◌, ◌+◌, ◌-◌, drop, ap, arith}
use Rattle.std.specs.List.{position_from}
use Rattle.go_emit_core.specs.lookup.mirrors.Spotting.{same_key}
use Rattle.go_emit_core.proofs.LookupFilling.{filled_back}
use Rattle.go_emit_core.proofs.LookupSpots.{key_back}
use Rattle.go_emit_core.proofs.lookup.decl_table.numbers_of.Goals as goal

pub loop-number-preserved : goal.loop-number-preserved
loop-number-preserved c k =
    let next : c.loop-number.number ≡ (c.loop-number.number - 1) + 1 = omega (arith, c.loop-number-test.true) in
    filled_back (λ i. same_key k i.spot) (λ i. same_key i.spot k) (λ i. key_back i.spot k) c.args.items.now (c.loop-number.number - 1) _ _ _ (omega (arith, c.loop-number-test.true, c.loop-number.auto.number)) (c.in_ok-insert.ensures.updates.0 k)
    (c.loop-number.invariant k ∙ ap (λ n. position_from (λ i. same_key k i.spot) n (drop n c.args.items.now)) next)
