use Rattle.std.specs.Option.{option_map}
use Rattle.go_embed_core.specs.OwnersShown.{owner_shown}
use Rattle.go_select_core.specs.surveys.SoleShown.{sole_shown}
use Rattle.go_select_core.proofs.SurveysSoles.{SoleTo}
use Rattle.go_select_core.proofs.surveys.sole.sole_field.Given as goal

abbrev pub invariant-fields : goal.invariant-fields
invariant-fields l = SoleTo (owner_shown l.owner) l.i (option_map sole_shown l.sole)
