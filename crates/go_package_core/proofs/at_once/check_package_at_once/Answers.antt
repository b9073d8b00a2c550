use denote.Ref.{NamedLft}
use denote.Param.{param}
use denote.Param.Send.{sendable}
use Rattle.go_package_core.specs.prepare.Packages.{package_in_shown}
use Rattle.go_body_core.proofs.CrossingCrossing.{types_here_row_sync}
use Rattle.go_package_core.proofs.Stages.{names_are}
use Rattle.go_package_core.proofs.at_once.check_package_at_once.Goals as goal

pub package_types-requires-clause-names : goal.package_types-requires-clause-names
package_types-requires-clause-names g c =
    let p = package_in_shown g.P.ImportedNames.shows c.args.at.now in
    names_are p c.path.result.now c.in_ok-aliases.aliases c.path.ensures c.in_ok-aliases.ensures

pub check_typed_at_once-requires-sync-N : goal.check_typed_at_once-requires-sync-N
check_typed_at_once-requires-sync-N g c κs =
    let names = λ (κ : NamedLft). types_here_row_sync κ (param 1 g.row.P) c.type_bounds.sync-P in
    search (names, sendable) depth 30

pub check_typed_at_once-requires-clause-names : goal.check_typed_at_once-requires-clause-names
check_typed_at_once-requires-clause-names g c κs within =
    let p = package_in_shown g.P.ImportedNames.shows c.args.at.now in
    names_are p c.path.result.now c.in_ok-aliases.aliases c.path.ensures c.in_ok-aliases.ensures
