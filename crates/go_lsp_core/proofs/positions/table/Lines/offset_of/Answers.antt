use Rattle.std.proofs.Common.{◌≡◌, rules, sym, subst, IsCharBoundary}
use Rattle.go_lsp_core.specs.positions.Positions.{offset_at, units}
use Rattle.go_lsp_core.proofs.PositionsSteps.{no_cut}
use Rattle.go_lsp_core.proofs.positions.table.Lines.offset_of.Goals as goal

pub returns-clause-boundary : goal.returns-clause-boundary
returns-clause-boundary c =
    let e : c.offset_by.result ≡ offset_at (units c.args.encoding) c.args.self.now c.args.position.line c.args.position.character = search rules in
    subst (IsCharBoundary c.args.self.now) (sym e) (no_cut c.args.encoding c.args.self.now c.args.position.line c.args.position.character)
