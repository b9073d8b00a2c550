use Rattle.std.proofs.Common.{◌≡◌, ◌++◌, drop, map}
use Rattle.go_table_core.specs.Shown.{member_shown}
use Rattle.go_emit_core.specs.meaning.Scenes.{method_spotted}
use Rattle.go_emit_core.specs.lookup.mirrors.Spotting.{item_shown}
use Rattle.go_emit_core.proofs.meaning.tables.add_methods.Given as goal

abbrev pub invariant-loop-method : goal.invariant-loop-method
invariant-loop-method l =
    map item_shown l.fn.items.items ++ method_spotted l.types l.path (map member_shown l.method-items) ≡ map item_shown l.items.items ++ method_spotted l.types l.path (map member_shown (drop l.method-index l.method-items))
