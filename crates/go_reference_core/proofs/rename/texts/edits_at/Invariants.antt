use Rattle.std.proofs.Common.{◌≡◌, map, take}
use Rattle.go_lsp_core.specs.edits.Edits.{part_of}
use Rattle.go_reference_core.specs.rename.Renaming.{name_parts}
use Rattle.go_reference_core.proofs.rename.texts.edits_at.Given as goal

abbrev pub invariant-loop-at : goal.invariant-loop-at
invariant-loop-at l = map part_of l.edits.items ≡ name_parts l.len l.new (take l.at-index l.offsets)
