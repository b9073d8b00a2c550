use Rattle.std.proofs.Common.{length}
use Rattle.go_recovery_core.proofs.mend.finding.+first_fit.Given as goal

abbrev pub decreases-first_fit : goal.decreases-first_fit
decreases-first_fit l = length l.candidates.now
