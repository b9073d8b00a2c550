use Rattle.std.proofs.Common.{length}
use Rattle.go_path_core.proofs.path_text.+has_elements.Given as goal

abbrev pub decreases-has_elements : goal.decreases-has_elements
decreases-has_elements l = length l.text.now
