use Rattle.go_lsp_core.proofs.PositionsSteps.{boundaries_lead_back}
use Rattle.go_lsp_core.proofs.positions.laws.boundaries_lead_back.Goals as goal

pub returns : goal.returns
returns c = boundaries_lead_back
