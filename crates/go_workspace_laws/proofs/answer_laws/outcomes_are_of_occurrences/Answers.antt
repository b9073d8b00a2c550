use Rattle.go_workspace_laws.proofs.Answering.{outcomes_are_of_occurrences}
use Rattle.go_workspace_laws.proofs.AnswerStanding.{places_are_of_occurrences}
use Rattle.go_workspace_laws.proofs.answer_laws.outcomes_are_of_occurrences.Goals as goal

pub returns : goal.returns
returns c = record { places = places_are_of_occurrences c.part_has_occurrences.ensures; answers = outcomes_are_of_occurrences c.part_has_occurrences.ensures }
