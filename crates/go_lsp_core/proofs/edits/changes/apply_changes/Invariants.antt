use Rattle.std.proofs.Common.{◌≡◌, drop}
use Rattle.std.specs.Prelude.{string_bytes}
use Rattle.go_lsp_core.specs.edits.Changes.{changed}
use Rattle.go_lsp_core.proofs.edits.changes.apply_changes.Given as goal

abbrev pub invariant-loop-change : goal.invariant-loop-change
invariant-loop-change l = changed l.encoding (string_bytes l.current) (drop l.change-index l.changes) ≡ changed l.encoding l.text l.changes
