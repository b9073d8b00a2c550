use Rattle.std.proofs.Common.{◌+◌, length, not}
use Rattle.std.specs.List.{count_by}
use Rattle.go_import_core.proofs.ListSearches.{Searches}
use Rattle.go_import_core.proofs.list.reaching.mark_until.Given as goal

abbrev pub invariant-loop-marks : goal.invariant-loop-marks
invariant-loop-marks l = Searches l.packages l.start l.marks l.stack.items

abbrev pub decreases-loop-marks : goal.decreases-loop-marks
decreases-loop-marks l = count_by (λ m. not m) l.marks + length l.stack.items
