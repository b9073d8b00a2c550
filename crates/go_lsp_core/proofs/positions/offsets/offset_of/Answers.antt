use Rattle.std.proofs.Common.{◌≡◌, ◌+◌, IsCharBoundary, sym, subst}
use Rattle.go_lsp_core.specs.positions.Positions.{offset_at, units}
use Rattle.go_lsp_core.proofs.PositionsSteps.{no_cut}
use Rattle.go_lsp_core.proofs.PositionsWalks.{from_parts}
use Rattle.go_lsp_core.proofs.positions.offsets.offset_of.Goals as goal

pub returns-clause-offset : goal.returns-clause-offset
returns-clause-offset c =
    from_parts (units c.args.encoding) c.args.text.now c.as_bytes-bytes.result.now _ c.args.position.line c.args.position.character c.line_start-start.result c.reach.result c.as_bytes-bytes.ensures.value c.line_start-start.ensures.start
    c.split_at.ensures.back c.reach.ensures.reach

pub returns-clause-boundary : goal.returns-clause-boundary
returns-clause-boundary c =
    let e : c.line_start-start.result + c.reach.result ≡ offset_at (units c.args.encoding) c.args.text.now c.args.position.line c.args.position.character =
    from_parts (units c.args.encoding) c.args.text.now c.as_bytes-bytes.result.now _ c.args.position.line c.args.position.character c.line_start-start.result c.reach.result c.as_bytes-bytes.ensures.value c.line_start-start.ensures.start
    c.split_at.ensures.back c.reach.ensures.reach in
    subst (IsCharBoundary c.args.text.now) (sym e) (no_cut c.args.encoding c.args.text.now c.args.position.line c.args.position.character)
