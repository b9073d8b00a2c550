use Rattle.std.proofs.Common.{◌≡◌, ◌++◌, drop, map}
use Rattle.go_package_core.specs.summary_core.Views.{types_told}
use Rattle.go_emit_core.specs.meaning.Scenes.{methods_spotted}
use Rattle.go_emit_core.specs.lookup.mirrors.Spotting.{item_shown}
use Rattle.go_emit_core.proofs.meaning.tables.method_items.Given as goal

abbrev pub invariant-loop-summary : goal.invariant-loop-summary
invariant-loop-summary l =
    map item_shown l.items.items ++ methods_spotted l.types (types_told (drop l.summary-index l.told)) ≡ methods_spotted l.types (types_told l.told)
