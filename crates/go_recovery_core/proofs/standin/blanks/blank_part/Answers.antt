use Rattle.std.proofs.Common.{◌≡◌, ◌≤◌, ◌<◌, ◌∙◌, length, min, refl, arith}
use Rattle.std.proofs.lemmas.List.{length-set}
use Rattle.go_recovery_core.proofs.StandinAlike.{blank_begins, blank_ends, blank_step}
use Rattle.go_recovery_core.proofs.standin.blanks.blank_part.Goals as goal

pub loop-at-init : goal.loop-at-init
loop-at-init c = record { long = refl; few = omega arith; done = blank_begins c.args.part.start c.args.bytes.now }

pub loop-at-preserved : goal.loop-at-preserved
loop-at-preserved c = record {
  long = length-set c.loop-at.bytes c.loop-at.at c.blank.result ∙ c.loop-at.invariant.long;
  few = omega (arith, c.min-at-end.ensures, c.loop-at-test.true);
  done =
      (let lt : c.loop-at.at < length c.loop-at.bytes = omega (arith, c.min-at-end.ensures, c.loop-at-test.true, c.loop-at.invariant.long) in
      blank_step c.args.part.start c.loop-at.at c.blank.result c.args.bytes.now c.loop-at.bytes c.loop-at.auto.at lt c.blank.ensures c.loop-at.invariant.done);
}

pub returns : goal.returns
returns c =
    let size : c.min-at-end.result ≡ min c.args.part.end (length c.args.bytes.now) = c.min-at-end.ensures in
    let within : c.args.part.start ≤ min c.args.part.end (length c.args.bytes.now) → c.loop-at.at ≤ min c.args.part.end (length c.args.bytes.now) = λ le. omega (arith, le, c.loop-at.invariant.few) in
    let none : min c.args.part.end (length c.args.bytes.now) < c.args.part.start → c.loop-at.at ≡ c.args.part.start = λ lt. omega (arith, lt, c.loop-at.invariant.few, c.loop-at.auto.at) in
    blank_ends c.args.part c.loop-at.at c.args.bytes.now c.loop-at.bytes c.loop-at.invariant.long c.loop-at.invariant.done (omega (arith, size, c.loop-at-test.false)) within none
