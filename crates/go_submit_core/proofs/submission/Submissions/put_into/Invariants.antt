use Rattle.std.proofs.Common.{◌≡◌, take}
use Rattle.go_submit_core.specs.Submitted.{submitted}
use Rattle.go_submit_core.proofs.submission.Submissions.put_into.Given as goal

abbrev pub invariant-loop-submission : goal.invariant-loop-submission
invariant-loop-submission l = l.sources ≡ submitted l.fn.sources (take l.submission-index l.self)
