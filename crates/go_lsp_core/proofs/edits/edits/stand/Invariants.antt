use Rattle.std.proofs.Common.{drop, map}
use Rattle.std.specs.Prelude.{◌↔◌}
use Rattle.go_lsp_core.specs.edits.Edits.{Stand, part_of}
use Rattle.go_lsp_core.proofs.edits.edits.stand.Given as goal

abbrev pub invariant-loop-edit : goal.invariant-loop-edit
invariant-loop-edit l = Stand l.text l.from (drop l.edit-index (map part_of l.edits)) ↔ Stand l.text 0 (map part_of l.edits)
