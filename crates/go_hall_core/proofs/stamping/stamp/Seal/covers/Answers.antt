use Rattle.std.proofs.Common.{◌≤◌, ap, subst, arith}
use mathlib.Core.List.{IsPrefix}
use Rattle.go_hall_core.proofs.StampingBeginnings.{covered}
use Rattle.go_hall_core.proofs.stamping.stamp.Seal.covers.Goals as goal

pub returns : goal.returns
returns g c is k x at =
    let both = c.learn.new.self.log in
    let own : IsPrefix c.self.inside.seen.log both = subst (λ l. IsPrefix l both) (ap (λ s. s.log) c.again-both.ensures) c.learn.ensures.2 in
    let less : c.other.inside.count ≤ c.self.inside.count = grind (arith, is) in
    rw (← c.self.view_is) (covered c.self.inside.seen.log c.other.inside.seen.log both c.self.inside.count c.other.inside.count k x own c.learn.ensures.3 c.self.invariant.1 less (rw c.other.view_is at))
