use Rattle.std.proofs.Common.{length}
use Rattle.go_path_core.proofs.path_text.+can_import.Given as goal

abbrev pub decreases-can_import : goal.decreases-can_import
decreases-can_import l = length l.path.now
