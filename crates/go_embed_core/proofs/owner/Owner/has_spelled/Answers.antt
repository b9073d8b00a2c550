use Rattle.std.proofs.Common.{sym, ◌∙◌}
use Rattle.go_embed_core.specs.OwnersShown.{owner_shown}
use Rattle.go_embed_core.proofs.Keeping.{has_own_spelled, has_none_spelled}
use Rattle.go_embed_core.proofs.owner.Owner.has_spelled.Goals as goal

pub returns-then-is_own_spelled : goal.returns-then-is_own_spelled
returns-then-is_own_spelled c = sym (has_own_spelled (owner_shown c.args.self.now) c.args.name.now (sym c.is_own_spelled.ensures ∙ c.if-is_own_spelled.true))

pub returns : goal.returns
returns c = c.is_underlying_spelled.ensures ∙ sym (has_none_spelled (owner_shown c.args.self.now) c.args.name.now (sym c.is_own_spelled.ensures ∙ c.if-is_own_spelled.false))
