use Rattle.std.proofs.Common.{◌≡◌, take, map}
use Rattle.std.specs.List.{flat_map}
use Rattle.go_block_core.specs.Bindings.{import_bound}
use Rattle.go_block_core.specs.mirrors.Shown.{bound_shown}
use Rattle.go_block_core.proofs.binding.bindings.Given as goal

abbrev pub invariant-loop-import : goal.invariant-loop-import
invariant-loop-import l = map bound_shown l.bound.items ≡ flat_map import_bound (take l.import-index l.import-items)
