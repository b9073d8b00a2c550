use Rattle.std.proofs.Common.{◌≡◌, ◌≤◌, length}
use Rattle.go_doc_core.specs.DocComments.{begins_line}
use Rattle.go_doc_core.proofs.lines.begins_line.Given as goal

abbrev pub invariant-loop-at : goal.invariant-loop-at
invariant-loop-at l = record { within : l.at ≤ length l.bytes; same : begins_line l.bytes l.place ≡ begins_line l.bytes l.at }

abbrev pub decreases-loop-at : goal.decreases-loop-at
decreases-loop-at l = l.at
