use Rattle.go_doc_core.specs.mirrors.Climbing.{IsClimb}
use Rattle.go_doc_core.proofs.runs.run_above.Given as goal

abbrev pub invariant-comments : goal.invariant-comments
invariant-comments l = IsClimb l.bytes l.comments l.at l.behind l.count l.state

abbrev pub decreases-comments : goal.decreases-comments
decreases-comments l = l.count
