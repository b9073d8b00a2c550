use Rattle.std.proofs.Common.{◌<◌, ap, subst, arith}
use mathlib.Core.List.{IsPrefix}
use Rattle.go_hall_core.proofs.StampingBeginnings.{beside}
use Rattle.go_hall_core.proofs.stamping.stamp.Stamper.has_given.Goals as goal

pub returns : goal.returns
returns g c is =
    let both = c.learn.new.self.log in
    let own : IsPrefix c.self.inside.seen.log both = subst (λ l. IsPrefix l both) (ap (λ s. s.log) c.again-both.ensures) c.learn.ensures.2 in
    let less : c.stamp.inside.number < c.self.inside.count = grind (arith, is) in
    (c.stamp.inside.number, rw (← c.self.view_is, ← c.stamp.view_is) (beside c.self.inside.seen.log c.stamp.inside.seen.log both c.self.inside.count c.stamp.inside.number c.stamp.inside.value.value own c.learn.ensures.3 c.stamp.invariant.0 c.self.invariant.2 less))
