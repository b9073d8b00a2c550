use Rattle.go_lsp_core.proofs.PositionsSteps.{lead_to_boundaries}
use Rattle.go_lsp_core.proofs.positions.laws.positions_lead_to_boundaries.Goals as goal

pub returns : goal.returns
returns c = lead_to_boundaries
