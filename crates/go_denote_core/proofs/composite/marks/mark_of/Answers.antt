use Rattle.std.proofs.Common.{◌∙◌}
use Rattle.go_denote_core.proofs.CompositeNames.{any_named}
use Rattle.go_denote_core.proofs.composite.marks.mark_of.Goals as goal

pub returns : goal.returns
returns c = λ i. record { is_repeated = (c.contains.ensures ∙ any_named c.args.name.now c.args.again.now.keys) i; field = c.number.ensures i }
