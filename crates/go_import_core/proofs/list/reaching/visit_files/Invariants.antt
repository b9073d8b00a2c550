use Rattle.std.proofs.Common.{take}
use Rattle.std.specs.List.{flat_map}
use Rattle.go_graph_core.specs.Imports.{import_texts}
use Rattle.go_import_core.specs.list.mirrors.Visits.{IsTargetOf, Visits}
use Rattle.go_import_core.proofs.list.reaching.visit_files.Given as goal

abbrev pub invariant-loop-file : goal.invariant-loop-file
invariant-loop-file l = Visits (IsTargetOf l.packages l.from (flat_map import_texts (take l.file-index l.files))) l.initial.marks l.marks l.initial.stack.items l.stack.items
