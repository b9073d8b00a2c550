use Rattle.std.proofs.Common.{ap, sym, ◌∙◌, Some}
use Rattle.std.proofs.lemmas.Option.{slice_get-get_or, slice_get_past}
use Rattle.go_typexpr_core.proofs.AliasesMaking.{none_ref, some_ref}
use Rattle.go_typexpr_core.proofs.aliases.written.decl_at.Goals as goal

pub returns-in-Some : goal.returns-in-Some
returns-in-Some c =
    let h = c.in-Some.ensures.lookup in
    some_ref c.args.aliases.now c.args.place c.in-Some.alias.now (slice_get-get_or c.args.aliases.now c.args.place c.in-Some.alias.now h.3.0 ∙ ap Some (sym h.1))

pub returns-in-None : goal.returns-in-None
returns-in-None c = none_ref c.args.aliases.now c.args.place (slice_get_past c.args.aliases.now c.args.place c.in-None.ensures.lookup.3)
