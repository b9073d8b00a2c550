use Rattle.std.proofs.Common.{◌+◌, ◌*◌}
use Rattle.go_branch_core.proofs.branches.+branches.Given as goal

abbrev pub decreases-check_lines : goal.decreases-check_lines
decreases-check_lines g l = 8 * l.levels + 3

abbrev pub decreases-check_halves : goal.decreases-check_halves
decreases-check_halves g l = 8 * l.levels + 2

abbrev pub decreases-check_halves-one : goal.decreases-check_halves-one
decreases-check_halves-one g l = 8 * l.less + 8

abbrev pub decreases-check_halves-other : goal.decreases-check_halves-other
decreases-check_halves-other g l = 8 * l.less + 8

abbrev pub decreases-check_apart : goal.decreases-check_apart
decreases-check_apart g l = 8 * l.levels + 6

abbrev pub decreases-check_rest : goal.decreases-check_rest
decreases-check_rest g l = 8 * l.levels + 5
