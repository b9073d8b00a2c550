use Rattle.std.proofs.Common.{map, ap, ◌∙◌}
use Rattle.go_block_core.specs.Naming.{imported_in}
use Rattle.go_block_core.specs.graph_core.Workspaces.{PackageModel}
use Rattle.go_package_core.specs.Checked.{checked_shown}
use Rattle.go_package_core.proofs.PackagePartChecks.{others_are, seen_is}
use Rattle.go_package_core.proofs.package_part.content.check.Goals as goal

pub check_package-requires : goal.check_package-requires
check_package-requires c = others_are c.args.input.now c.package.result.now c.args.seen.now.types c.package.ensures c.requires

pub returns-clause-path : goal.returns-clause-path
returns-clause-path c = c.in_ok-checked.ensures.path ∙ ap (λ (p : PackageModel). p.0) c.package.ensures

pub returns-clause-checked : goal.returns-clause-checked
returns-clause-checked c =
    let seen = c.args.seen.now in
    seen_is c.args.input.now c.package.result.now (map imported_in c.imports.result.now) c.args.blocks.now seen.types seen.shown seen.faces (checked_shown c.in_ok-checked.checked) c.package.ensures c.imports.ensures.value
    c.in_ok-checked.ensures.checked
