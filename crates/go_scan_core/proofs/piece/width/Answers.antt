use Rattle.std.proofs.Common.{sym, ◌∙◌, arith}
use Rattle.go_scan_core.proofs.WidthLemmas.{ascii_width}
use Rattle.go_scan_core.proofs.piece.width.Goals as goal

pub overflow_cast-result : goal.overflow_cast-result
overflow_cast-result c = omega (arith, ascii_width c.args.text.now (sym c.are_ascii.ensures ∙ c.if-are_ascii.true), c.requires)

pub returns-then-are_ascii : goal.returns-then-are_ascii
returns-then-are_ascii c = ascii_width c.args.text.now (sym c.are_ascii.ensures ∙ c.if-are_ascii.true)
