use Rattle.std.proofs.Common.{subst, sym}
use Rattle.go_graph_core.specs.declared.imports.ImportOutcome.{ImportOutcome}
use Rattle.go_import_core.specs.list.mirrors.Standings.{ComesTo}
use Rattle.go_import_core.proofs.ListStandings.{comes_to}
use Rattle.go_import_core.proofs.list.judging.outcome_of.Goals as goal

pub returns : goal.returns
returns c =
    let ps = c.args.packages.now in
    subst (λ (o : ImportOutcome). ComesTo ps c.args.number o) (sym c.outcome.ensures) (comes_to ps c.args.number c.index-packages-number.result c.in_ok-standing.standing c.requires c.index-packages-number.is c.in_ok-standing.ensures)
