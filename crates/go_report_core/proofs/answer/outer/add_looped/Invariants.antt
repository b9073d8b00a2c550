use Rattle.std.proofs.Common.{◌≡◌, ◌++◌, map, take}
use Rattle.go_term_core.specs.decl_core.Shown.{decl_shown}
use Rattle.go_report_core.specs.answer.Outer.{looped_decl_faults}
use Rattle.go_report_core.proofs.answer.outer.add_looped.Given as goal

abbrev pub invariant-loop-at : goal.invariant-loop-at
invariant-loop-at l = l.faults.items ≡ l.fn.faults.items ++ looped_decl_faults (take l.at (map decl_shown l.decls)) l.looped
