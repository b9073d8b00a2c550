use Rattle.std.proofs.Common.{length}
use Rattle.go_path_core.proofs.path_text.+has_internal.Given as goal

abbrev pub decreases-has_internal : goal.decreases-has_internal
decreases-has_internal l = length l.path.now
