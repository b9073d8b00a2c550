use Rattle.std.proofs.Common.{arith}
use Rattle.go_scan_core.proofs.SpaceLemmas.{spaces_fit, spaces_within}
use Rattle.go_scan_core.proofs.scanner.behind_spaces.Goals as goal

pub split_at-requires : goal.split_at-requires
split_at-requires c = omega (arith, c.space_len-count.ensures, spaces_within c.args.text.now)

pub overflow_cast-result : goal.overflow_cast-result
overflow_cast-result c = omega (arith, c.space_len-count.ensures, spaces_fit c.args.text.now c.args.start c.requires)

pub overflow_add-result : goal.overflow_add-result
overflow_add-result c = omega (arith, c.space_len-count.ensures, spaces_fit c.args.text.now c.args.start c.requires)
