use Rattle.std.proofs.Common.{◌∙◌}
use Rattle.go_typexpr_core.proofs.AliasesMaking.{has_shown}
use Rattle.go_typexpr_core.proofs.aliases.targets.Aliases.has.Goals as goal

pub returns : goal.returns
returns c = c.is_some.ensures ∙ has_shown c.args.self.now c.self.inside.written.items c.deref.result.now c.self.inside.ends.items c.args.decl c.self.view_is c.deref.ensures.value c.number.result c.number.ensures
