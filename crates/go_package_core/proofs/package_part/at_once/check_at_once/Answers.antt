use Rattle.std.proofs.Common.{map, ap, ◌∙◌}
use denote.Param.Send.{sendable}
use Rattle.go_body_core.proofs.CrossingCrossing.{shown_packages_row_sync}
use Rattle.go_block_core.specs.Naming.{imported_in}
use Rattle.go_block_core.specs.graph_core.Workspaces.{PackageModel}
use Rattle.go_package_core.specs.Checked.{checked_shown}
use Rattle.go_package_core.proofs.PackagePartChecks.{others_are, seen_is}
use Rattle.go_package_core.proofs.package_part.at_once.check_at_once.Goals as goal

pub check_package_at_once-requires-sync-P : goal.check_package_at_once-requires-sync-P
check_package_at_once-requires-sync-P g c κs = search (shown_packages_row_sync, sendable)

pub check_package_at_once-requires-clause-others : goal.check_package_at_once-requires-clause-others
check_package_at_once-requires-clause-others g c κs within = others_are c.args.input.now c.package.result.now c.args.seen.now.types c.package.ensures c.requires.others

pub returns-clause-path : goal.returns-clause-path
returns-clause-path g c = c.in_ok-checked.ensures.path ∙ ap (λ (p : PackageModel). p.0) c.package.ensures

pub returns-clause-checked : goal.returns-clause-checked
returns-clause-checked g c =
    let seen = c.args.seen.now in
    seen_is c.args.input.now c.package.result.now (map imported_in c.imports.result.now) c.args.blocks.now seen.types seen.shown seen.faces (checked_shown c.in_ok-checked.checked) c.package.ensures c.imports.ensures.value
    c.in_ok-checked.ensures.checked
