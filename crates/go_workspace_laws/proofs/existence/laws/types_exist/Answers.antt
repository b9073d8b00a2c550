use Rattle.go_workspace_laws.proofs.ExistenceTypes.{packages_have_types, types_exist}
use Rattle.go_workspace_laws.proofs.existence.laws.types_exist.Goals as goal

pub returns-clause-written : goal.returns-clause-written
returns-clause-written c = types_exist

pub returns-clause-packages : goal.returns-clause-packages
returns-clause-packages c = packages_have_types
