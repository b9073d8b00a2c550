use Rattle.go_type_core.proofs.Keyed.{at_some, at_none}
use Rattle.go_typexpr_core.proofs.AliasesMaking.{refs}
use Rattle.go_typexpr_core.proofs.aliases.written.is_at.Goals as goal

pub returns-in-Some : goal.returns-in-Some
returns-in-Some c = at_some (refs c.args.aliases.now) c.args.place c.in-Some.other c.args.decl c.is_same_decl.result c.in-Some.ensures c.is_same_decl.ensures

pub returns-in-None : goal.returns-in-None
returns-in-None c = at_none (refs c.args.aliases.now) c.args.place c.args.decl c.in-None.ensures
