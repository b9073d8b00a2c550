use Rattle.std.proofs.Common.{◌≡◌, take, map}
use Rattle.go_block_core.specs.Naming.{specs_named}
use Rattle.go_block_core.specs.mirrors.Shown.{spec_shown}
use Rattle.go_block_core.proofs.naming.specs_named.Given as goal

abbrev pub invariant-loop-import : goal.invariant-loop-import
invariant-loop-import l = l.imports.items ≡ specs_named (take l.import (map spec_shown l.specs)) (take l.import l.imported)
