use Rattle.std.proofs.Common.{◌≡◌, map, take}
use Rattle.go_summary_core.specs.declared_core.Held.{declared_shown}
use Rattle.go_summary_core.specs.declared_core.Written.{decls_of}
use Rattle.go_report_core.specs.answer.Shown.{shown_among}
use Rattle.go_report_core.proofs.answer.faces.faces_among.Given as goal

abbrev pub invariant-loop-at : goal.invariant-loop-at
invariant-loop-at l = map declared_shown l.faces.items ≡ shown_among l.sorted (take l.at (decls_of l.written)) l.known
