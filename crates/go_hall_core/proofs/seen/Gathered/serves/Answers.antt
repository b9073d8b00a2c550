use Rattle.std.proofs.Common.{◌≡◌, true, false, arith, subst}
use Rattle.go_sched_core.specs.Sights.{Serves}
use Rattle.go_hall_core.specs.mirrors.Known.{GatheredModel}
use Rattle.go_hall_core.proofs.Seeing.{serves_known}
use Rattle.go_hall_core.proofs.seen.Gathered.serves.Goals as goal

pub returns-then-covers : goal.returns-then-covers
returns-then-covers g c is =
    let s = c.self.inside in
    let known = c.args.known.now in
    subst (λ (m : GatheredModel). Serves known.log known.action m.sight) c.self.view_is
    (serves_known known.log s.seal known.action s.generation s.sight c.covers.ensures.known c.self.invariant (c.covers.ensures.covered c.if-covers.true) (grind (arith, is, c.requires)))

pub returns-else-covers : goal.returns-else-covers
returns-else-covers g c is = absurd (let yes : c.covers.result ≡ true = is in let no : c.covers.result ≡ false = c.if-covers.false in cc)
