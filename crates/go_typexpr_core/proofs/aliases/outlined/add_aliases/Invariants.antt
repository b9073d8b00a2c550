use Rattle.std.proofs.Common.{◌≡◌, ◌++◌, map, take}
use Rattle.go_term_core.specs.decl_core.Shown.{decl_shown}
use Rattle.go_typexpr_core.specs.written.Written.{in_file}
use Rattle.go_typexpr_core.specs.aliases.Outlined.{file_aliases}
use Rattle.go_typexpr_core.specs.aliases.Shown.{alias_shown}
use Rattle.go_typexpr_core.proofs.aliases.outlined.add_aliases.Given as goal

abbrev pub invariant-loop-decl : goal.invariant-loop-decl
invariant-loop-decl g l = map alias_shown l.aliases.items ≡ map alias_shown l.fn.aliases.items ++ file_aliases (g.N.TypeNames.meaning l.fn.names) (in_file l.fn.at) (map decl_shown (take l.decl-index l.decls))
