use Rattle.std.proofs.Common.{arith}
use Rattle.std.specs.Char.{len_utf8}
use Rattle.std.proofs.lemmas.List.Sums.{sum_by-take-drop}
use Rattle.go_scan_core.proofs.scanner.fault_behind.Goals as goal

pub overflow_add-result : goal.overflow_add-result
overflow_add-result c = let all = sum_by-take-drop len_utf8 c.args.text.now c.args.len in rw (c.width.ensures, c.split_at.ensures.front) (omega arith)
