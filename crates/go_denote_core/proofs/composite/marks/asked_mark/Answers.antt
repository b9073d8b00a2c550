use Rattle.std.proofs.Common.{map, ap, ◌∙◌}
use Rattle.go_denote_core.specs.composite.mirrors.Numbers.{mark_with}
use Rattle.go_denote_core.proofs.composite.marks.asked_mark.Goals as goal

pub returns : goal.returns
returns g c = c.mark_with.ensures ∙ ap (λ k. mark_with (map (λ n. n.now) c.args.again.now.keys) k c.args.name.now) c.in_ok-field.ensures
