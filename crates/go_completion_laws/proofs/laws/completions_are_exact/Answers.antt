use Rattle.go_completion_laws.proofs.Fitted.{blanks, completions}
use Rattle.go_completion_laws.proofs.laws.completions_are_exact.Goals as goal

pub returns-clause-exact : goal.returns-clause-exact
returns-clause-exact c = completions c.identifiers_can_be_respelled.ensures c.names_fit.ensures c.one_part.ensures c.outcomes_stay.ensures c.workspaces_have_snapshots.ensures.snapshots

pub returns-clause-blanks : goal.returns-clause-blanks
returns-clause-blanks c = blanks c.blank_never_fits.ensures
