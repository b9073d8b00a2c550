use Rattle.std.proofs.Common.{◌≡◌, map, take}
use Rattle.go_typexpr_core.specs.entry.Entries.{package_meanings}
use Rattle.go_typexpr_core.specs.entry.Outlines.{outline_shown}
use Rattle.go_declared_core.specs.Held.{written_shown}
use Rattle.go_declared_core.specs.Written.{written_with}
use Rattle.go_declared_core.proofs.making.write_decls.Given as goal

abbrev pub invariant-loop-file : goal.invariant-loop-file
invariant-loop-file g l = map written_shown l.written.items ≡ written_with (package_meanings (g.P.ImportedNames.shows l.fn.imported) l.fn.path l.fn.blocks) l.fn.path l.fn.types (map outline_shown (take l.file l.outlines))
