use Rattle.std.proofs.Common.{◌≡◌, ◌++◌, drop, map}
use Rattle.go_emit_core.specs.meaning.Scenes.{methods_spotted}
use Rattle.go_emit_core.specs.lookup.mirrors.Spotting.{item_shown}
use Rattle.go_emit_core.proofs.meaning.tables.add_all.Given as goal

abbrev pub invariant-loop-defined : goal.invariant-loop-defined
invariant-loop-defined l =
    map item_shown l.fn.items.items ++ methods_spotted l.types l.defined-items ≡ map item_shown l.items.items ++ methods_spotted l.types (drop l.defined-index l.defined-items)
