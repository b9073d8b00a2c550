use Rattle.std.proofs.Common.{take}
use Rattle.std.specs.List.{flat_map}
use Rattle.go_import_core.specs.list.mirrors.Visits.{IsTargetOf, Visits, line_texts}
use Rattle.go_import_core.proofs.list.reaching.visit_lines.Given as goal

abbrev pub invariant-loop-line : goal.invariant-loop-line
invariant-loop-line l = Visits (IsTargetOf l.packages l.from (flat_map line_texts (take l.line-index l.lines))) l.initial.marks l.marks l.initial.stack.items l.stack.items
