use Rattle.std.proofs.Common.{◌≤◌, length, arith}
use Rattle.go_lsp_core.specs.positions.Positions.{units}
use Rattle.go_lsp_core.specs.positions.mirrors.Walks.{total}
use Rattle.go_lsp_core.proofs.PositionsWalks.{text_fits}
use Rattle.go_lsp_core.proofs.positions.offsets.position_of.Goals as goal

pub position_in-requires : goal.position_in-requires
position_in-requires c =
    let fits : total (units c.args.encoding) c.as_bytes.result.now ≤ length c.as_bytes.result.now = text_fits c.args.encoding c.as_bytes.result.now c.as_bytes.ensures.utf8 in
    omega (arith, fits, c.as_bytes.type_inv.0)
