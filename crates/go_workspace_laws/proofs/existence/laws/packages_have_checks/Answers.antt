use Rattle.go_workspace_laws.proofs.ExistenceChecks.{packages_have_checks}
use Rattle.go_workspace_laws.proofs.existence.laws.packages_have_checks.Goals as goal

pub returns : goal.returns
returns c = packages_have_checks c.values_are_as_written.ensures
