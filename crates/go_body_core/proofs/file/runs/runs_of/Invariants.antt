use Rattle.std.proofs.Common.{length}
use Rattle.go_body_core.proofs.FileRunning.{AreLeft}
use Rattle.go_body_core.proofs.file.runs.runs_of.Given as goal

abbrev pub invariant-turns : goal.invariant-turns
invariant-turns l = AreLeft l.decls l.functions l.runs.items l.left

abbrev pub decreases-turns : goal.decreases-turns
decreases-turns l = length l.left.decls.now
