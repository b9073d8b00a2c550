use Rattle.std.proofs.Common.{map}
use Rattle.go_block_core.specs.Blocks.{imports_of}
use Rattle.go_block_core.specs.Naming.{imported_in}
use Rattle.go_package_core.proofs.PackagePartChecks.{blocks_are, one_each}
use Rattle.go_package_core.proofs.package_part.content.blocks_of.Goals as goal

pub import_names-requires : goal.import_names-requires
import_names-requires c = one_each c.args.input.now c.package-package.result.now (map imported_in c.imports.result.now) c.package-package.ensures c.imports.ensures.value c.imports.ensures.well.imports

pub returns : goal.returns
returns c =
    blocks_are c.args.input.now c.package-package.result.now (map imported_in c.imports.result.now) (imports_of c.in_ok-names.names) c.in_ok-made.made c.package-package.ensures c.imports.ensures.value c.in_ok-names.ensures
    c.in_ok-made.ensures.blocks
