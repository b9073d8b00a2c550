use Rattle.std.proofs.Common.{◌≡◌, ◌+◌, drop, map}
use Rattle.go_lsp_core.specs.edits.Edits.{gained, lost, part_of}
use Rattle.go_lsp_core.proofs.edits.moving.moved.Given as goal

abbrev pub invariant-loop-edit : goal.invariant-loop-edit
invariant-loop-edit l = record {
  losses : l.lost + lost (drop l.edit-index (map part_of l.edits)) l.offset ≡ lost (map part_of l.edits) l.offset;
  gains : l.gained + gained (drop l.edit-index (map part_of l.edits)) l.offset ≡ gained (map part_of l.edits) l.offset;
}
