use Rattle.std.proofs.Common.{sym, ap, ◌∙◌}
use Rattle.std.specs.Option.{option_map}
use Rattle.go_term_core.specs.Shapes.{shape}
use Rattle.go_candidate_core.specs.at_place.Types.{noted_type}
use Rattle.go_candidate_core.proofs.at_place.types.noted_type.Goals as goal

pub returns-in-Some : goal.returns-in-Some
returns-in-Some c = c.typed.ensures ∙ ap (noted_type c.args.table.now) (sym (ap (option_map (λ t. shape t.now)) c.in-Some.is) ∙ c.noted_at.ensures)

pub returns-in-None : goal.returns-in-None
returns-in-None c = ap (noted_type c.args.table.now) (sym (ap (option_map (λ t. shape t.now)) c.in-None.is) ∙ c.noted_at.ensures)
