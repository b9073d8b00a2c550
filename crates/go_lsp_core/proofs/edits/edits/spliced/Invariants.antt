use Rattle.std.proofs.Common.{◌≡◌, ◌++◌, drop, map, IsCharBoundary}
use Rattle.std.specs.Prelude.{string_bytes}
use Rattle.go_lsp_core.specs.edits.Edits.{Stand, edited, part_of}
use Rattle.go_lsp_core.proofs.edits.edits.spliced.Given as goal

abbrev pub invariant-loop-edit : goal.invariant-loop-edit
invariant-loop-edit l = record {
  stands : Stand l.text l.from (drop l.edit-index (map part_of l.edits));
  boundary : IsCharBoundary l.text l.from;
  is : string_bytes l.all ++ drop l.from (edited l.text (drop l.edit-index (map part_of l.edits))) ≡ edited l.text (map part_of l.edits);
}
