use Rattle.std.proofs.Common.{arith}
use Rattle.go_cause_core.proofs.Directly.{again_more}
use Rattle.go_cause_core.proofs.Growing.{longer}
use Rattle.go_cause_core.proofs.repeating.again_of.Goals as goal

pub loop-number-preserved : goal.loop-number-preserved
loop-number-preserved c = record {
  len = longer c.loop-number.again.items c.push.new.self.items c.loop-number.number c.judged.result c.loop-number.invariant.len c.in_ok-push.ensures.items;
  each = λ i j h. again_more c.args.faults.now c.loop-number.again.items c.push.new.self.items c.loop-number.number c.judged.result c.loop-number.invariant.len c.in_ok-push.ensures.items c.judged.ensures c.loop-number.invariant.each i j h;
}

pub returns : goal.returns
returns c =
    let len = c.loop-number.invariant.len in
    record {
      as_many = omega (arith, len);
      each = λ i j h. c.loop-number.invariant.each i j h;
    }
