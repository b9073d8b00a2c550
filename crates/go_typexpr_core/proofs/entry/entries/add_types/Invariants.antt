use Rattle.std.proofs.Common.{◌≡◌, ◌++◌, [], map, take}
use Rattle.go_term_core.specs.decl_core.Shown.{decl_shown}
use Rattle.go_type_core.specs.table_core.Shown.{entry_shown}
use Rattle.go_typexpr_core.specs.written.Written.{in_file}
use Rattle.go_typexpr_core.specs.entry.Entries.{file_entries_by}
use Rattle.go_typexpr_core.proofs.entry.entries.add_types.Given as goal

abbrev pub invariant-loop-decl : goal.invariant-loop-decl
invariant-loop-decl g l = map entry_shown l.entries.items ≡ map entry_shown l.fn.entries.items ++ file_entries_by l.fn.also (g.N.TypeNames.meaning l.fn.names) (in_file l.fn.at) [] (map decl_shown (take l.decl-index l.decls))
