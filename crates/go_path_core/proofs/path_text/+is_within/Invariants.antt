use Rattle.std.proofs.Common.{length}
use Rattle.go_path_core.proofs.path_text.+is_within.Given as goal

abbrev pub decreases-is_within : goal.decreases-is_within
decreases-is_within l = length l.outer.now
