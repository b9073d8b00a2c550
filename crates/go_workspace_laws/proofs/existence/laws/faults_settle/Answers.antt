use Rattle.go_workspace_laws.proofs.ExistenceSettling.{faults_settle, files_are_reported}
use Rattle.go_workspace_laws.proofs.existence.laws.faults_settle.Goals as goal

pub returns-clause-settle : goal.returns-clause-settle
returns-clause-settle c = faults_settle

pub returns-clause-report : goal.returns-clause-report
returns-clause-report c = files_are_reported
