use Rattle.go_program_laws.proofs.ReferencesShown.{names_lead}
use Rattle.go_program_laws.proofs.references.laws.names_lead_to_no_methods.Goals as goal

pub returns : goal.returns
returns c = names_lead
