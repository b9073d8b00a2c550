use Rattle.go_lsp_core.proofs.PositionsSteps.{positions_grow}
use Rattle.go_lsp_core.proofs.positions.laws.positions_grow.Goals as goal

pub returns : goal.returns
returns c = positions_grow
