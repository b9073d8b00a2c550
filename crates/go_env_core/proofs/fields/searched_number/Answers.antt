use Rattle.std.proofs.Common.{ap, ◌∙◌}
use Rattle.go_expr_core.specs.denote_core.CompositeMarks.{name_number_from}
use Rattle.go_env_core.proofs.fields.searched_number.Goals as goal

pub returns : goal.returns
returns c s = c.first_named.ensures ∙ ap (λ names. name_number_from 0 names c.args.name.now) (c.in_ok-names.ensures s)
