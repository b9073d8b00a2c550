use Rattle.std.proofs.Common.{sym, ap, ◌∙◌}
use Rattle.go_table_core.specs.mirrors.Spots.{found_before}
use Rattle.go_table_core.proofs.Spelled.{in_names, none_before}
use Rattle.go_table_core.proofs.fields.earliest_is_before.Goals as goal

pub returns-in-Some : goal.returns-in-Some
returns-in-Some c = c.is_before.ensures ∙ ap (λ o. found_before o c.args.place) (c.in-Some.ensures.value ∙ in_names c.args.name.now c.args.places.now.entries)

pub returns-in-None : goal.returns-in-None
returns-in-None c = sym (none_before c.args.place) ∙ ap (λ o. found_before o c.args.place) (c.in-None.ensures.value ∙ in_names c.args.name.now c.args.places.now.entries)
