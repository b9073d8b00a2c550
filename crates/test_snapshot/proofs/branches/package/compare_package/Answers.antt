use Rattle.go_package_core.specs.prepare.Packages.{package_in_shown}
use Rattle.test_snapshot.proofs.NamesSeen.{names_are}
use Rattle.test_snapshot.proofs.branches.package.compare_package.Goals as goal

pub compare_outlined-requires-clause-names : goal.compare_outlined-requires-clause-names
compare_outlined-requires-clause-names g c κs within =
    let p = package_in_shown g.P.ImportedNames.shows c.args.at.now in
    names_are p c.path.result.now c.in_ok-aliases.aliases c.path.ensures c.in_ok-aliases.ensures
