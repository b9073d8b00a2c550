use Rattle.std.proofs.Common.{◌+◌, sym, ap, ◌∙◌}
use Rattle.go_hall_core.proofs.Pushes.{kept_counts}
use Rattle.go_hall_core.proofs.Stamps.{kept_stamped}
use Rattle.go_hall_core.proofs.counted.Counted.finish_kept.Goals as goal

pub invariant_of-self : goal.invariant_of-self
invariant_of-self g c =
    let same = kept_counts c.self.inside.state c.finish_kept.new.self c.args.number c.finish_kept.result c.finish_kept.ensures in
    (c.self.invariant.0 ∙ sym same.1, c.self.invariant.1, ap (λ n. c.self.inside.rest.parts + n) same.0 ∙ c.self.invariant.2, c.self.invariant.3, kept_stamped c.self.inside.stamper c.self.inside.state c.finish_kept.new.self c.args.number c.finish_kept.result c.finish_kept.ensures c.self.invariant.4)
