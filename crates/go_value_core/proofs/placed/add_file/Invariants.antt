use Rattle.std.proofs.Common.{◌≡◌, ◌++◌, map, drop}
use Rattle.go_term_core.specs.decl_core.Shown.{decl_shown}
use Rattle.go_value_core.specs.Package.{placed, placed_shown}
use Rattle.go_value_core.proofs.placed.add_file.Given as goal

abbrev pub invariant-loop-decl : goal.invariant-loop-decl
invariant-loop-decl l = map placed_shown l.all.items ++ map (placed l.file l.types) (map decl_shown (drop l.decl-index l.decls)) ≡ map placed_shown l.fn.all.items ++ map (placed l.file l.types) (map decl_shown l.decls)
