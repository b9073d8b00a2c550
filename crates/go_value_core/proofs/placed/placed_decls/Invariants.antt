use Rattle.std.proofs.Common.{◌≡◌, map, take}
use Rattle.go_typexpr_core.specs.entry.Outlines.{outline_shown}
use Rattle.go_value_core.specs.Package.{placed_shown, placed_decls}
use Rattle.go_value_core.proofs.placed.placed_decls.Given as goal

abbrev pub invariant-loop-file : goal.invariant-loop-file
invariant-loop-file l = map placed_shown l.all.items ≡ placed_decls l.fn.inlines (map outline_shown (take l.file l.outlines))
