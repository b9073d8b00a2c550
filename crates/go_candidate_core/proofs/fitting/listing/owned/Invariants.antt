use Rattle.std.proofs.Common.{◌≡◌, ◌++◌, drop, map}
use Rattle.std.specs.Prelude.{string_bytes}
use Rattle.go_summary_core.specs.shown.Shown.{texts}
use Rattle.go_candidate_core.proofs.fitting.listing.owned.Given as goal

abbrev pub invariant-loop-name : goal.invariant-loop-name
invariant-loop-name l = map string_bytes l.all.items ++ texts (drop l.name-index l.fn.names) ≡ texts l.fn.names
