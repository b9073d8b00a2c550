use Rattle.std.proofs.Common.{◌≡◌, ◌++◌, map, take}
use Rattle.go_term_core.specs.decl_core.Shown.{decl_shown}
use Rattle.go_typexpr_core.specs.written.Written.{in_file}
use Rattle.go_declared_core.specs.Held.{written_shown}
use Rattle.go_declared_core.specs.Written.{file_written}
use Rattle.go_declared_core.proofs.making.add_decls.Given as goal

abbrev pub invariant-loop-decl : goal.invariant-loop-decl
invariant-loop-decl g l = map written_shown l.written.items ≡ map written_shown l.fn.written.items ++ file_written (g.N.TypeNames.meaning l.fn.names) (in_file l.fn.at) l.fn.types (map decl_shown (take l.decl-index l.decls))
