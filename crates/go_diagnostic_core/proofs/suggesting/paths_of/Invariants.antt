use Rattle.std.proofs.Common.{◌≡◌, map, take}
use Rattle.std.specs.Prelude.{string_bytes}
use Rattle.go_diagnostic_core.specs.Suggestions.{entry_path}
use Rattle.go_diagnostic_core.proofs.suggesting.paths_of.Given as goal

abbrev pub invariant-loop-entry : goal.invariant-loop-entry
invariant-loop-entry l = map string_bytes l.paths.items ≡ map entry_path (take l.entry-index l.entries)
