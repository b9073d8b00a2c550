use Rattle.std.proofs.Common.{arith}
use Rattle.go_edit_core.proofs.Differing.{differ_here, same_more}
use Rattle.go_edit_core.proofs.comparing.next_other.Goals as goal

pub loop-number-init : goal.loop-number-init
loop-number-init c = record { begin = omega arith; within = c.requires.from; same = λ n le lt. absurd (omega (arith, le, lt)) }

pub loop-number-preserved : goal.loop-number-preserved
loop-number-preserved c =
    same_more c.args.packages.now c.args.others.now c.loop-number.number c.index-packages-number.result c.index-others-number.result c.is_same.result c.requires.many c.loop-number-test.true
    c.index-packages-number.is c.index-others-number.is c.is_same.ensures c.args.from c.if-not-is_same.false c.loop-number.invariant

pub returns-then-not-is_same-clause-other : goal.returns-then-not-is_same-clause-other
returns-then-not-is_same-clause-other c = λ lt.
    differ_here c.args.packages.now c.args.others.now c.loop-number.number c.index-packages-number.result c.index-others-number.result c.is_same.result c.requires.many c.loop-number-test.true
    c.index-packages-number.is c.index-others-number.is c.is_same.ensures c.if-not-is_same.true
