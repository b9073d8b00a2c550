use Rattle.std.proofs.Common.{◌≡◌, ◌++◌, map, take}
use Rattle.go_term_core.specs.decl_core.Shown.{decl_shown}
use Rattle.go_report_core.specs.type_faults.TypeFaults.{file_receivers}
use Rattle.go_report_core.proofs.type_faults.receivers.add_file.Given as goal

abbrev pub invariant-loop-decl : goal.invariant-loop-decl
invariant-loop-decl g l =
    l.faults.items
    ≡ l.fn.faults.items ++ file_receivers l.at.types.now (g.D.TypeNames.meaning l.at.declared.now) (g.N.TypeNames.meaning l.at.names.now) l.at.path.now l.at.file (map decl_shown (take l.decl-index l.decls))
