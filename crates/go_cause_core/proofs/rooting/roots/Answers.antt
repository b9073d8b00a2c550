use Rattle.std.proofs.Common.{arith}
use Rattle.go_cause_core.proofs.Growing.{longer}
use Rattle.go_cause_core.proofs.Rooted.{are_roots, have_roots, more}
use Rattle.go_cause_core.proofs.rooting.roots.Goals as goal

pub returns-clause-exact : goal.returns-clause-exact
returns-clause-exact c =
    let len = c.loop-number.invariant.len in
    are_roots c.ends_are_counted.ensures c.args.direct.now _ c.loop-number.causes.items c.in_ok-ends.ensures (omega (arith, len)) (λ i lt. c.loop-number.invariant.each i (omega (arith, lt, len)))

pub returns-clause-roots : goal.returns-clause-roots
returns-clause-roots c =
    let len = c.loop-number.invariant.len in
    have_roots c.ends_are_counted.ensures c.args.direct.now c.loop-number.causes.items
    (are_roots c.ends_are_counted.ensures c.args.direct.now _ c.loop-number.causes.items c.in_ok-ends.ensures (omega (arith, len)) (λ i lt. c.loop-number.invariant.each i (omega (arith, lt, len))))
