use Rattle.std.proofs.Common.{length}
use Rattle.go_machine_core.proofs.text.+write_rest.Given as goal

abbrev pub decreases-write_rest : goal.decreases-write_rest
decreases-write_rest l = length l.letters.now
