use Rattle.std.proofs.Common.{◌≡◌, ◌++◌, drop, map}
use Rattle.go_package_core.specs.Checked.{local_shown}
use Rattle.go_emit_core.specs.meaning.Looking.{locals_meant}
use Rattle.go_emit_core.proofs.meaning.names.local_items.Given as goal

abbrev pub invariant-loop-local : goal.invariant-loop-local
invariant-loop-local l = l.items.items ++ locals_meant l.types (map local_shown (drop l.local-index l.locals)) ≡ locals_meant l.types (map local_shown l.locals)
