use Rattle.std.proofs.Common.{take}
use Rattle.go_submit_core.specs.Submitted.{AreWorkspaces}
use Rattle.go_submit_core.proofs.submission.are_workspaces.Given as goal

abbrev pub invariant-loop-submission : goal.invariant-loop-submission
invariant-loop-submission l = AreWorkspaces (take l.submission-index l.submissions)
