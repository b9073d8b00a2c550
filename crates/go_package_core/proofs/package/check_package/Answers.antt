use Rattle.go_package_core.specs.prepare.Packages.{package_in_shown}
use Rattle.go_package_core.proofs.Stages.{names_are}
use Rattle.go_package_core.proofs.package.check_package.Goals as goal

pub package_types-requires-clause-names : goal.package_types-requires-clause-names
package_types-requires-clause-names g c =
    let p = package_in_shown g.P.ImportedNames.shows c.args.at.now in
    names_are p c.path.result.now c.in_ok-aliases.aliases c.path.ensures c.in_ok-aliases.ensures

pub check_typed-requires-clause-names : goal.check_typed-requires-clause-names
check_typed-requires-clause-names g c =
    let p = package_in_shown g.P.ImportedNames.shows c.args.at.now in
    names_are p c.path.result.now c.in_ok-aliases.aliases c.path.ensures c.in_ok-aliases.ensures
