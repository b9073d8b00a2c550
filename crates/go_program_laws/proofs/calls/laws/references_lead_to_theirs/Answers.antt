use Rattle.go_program_laws.proofs.CallsPlacing.{references_lead}
use Rattle.go_program_laws.proofs.calls.laws.references_lead_to_theirs.Goals as goal

pub returns : goal.returns
returns c = references_lead
