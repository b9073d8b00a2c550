use Rattle.std.proofs.Common.{◌+◌, ◌^◌, ℕ, ap}
use Rattle.go_lsp_core.specs.edits.Edits.{part}
use Rattle.go_lsp_core.proofs.EditsKeeping.{at_least}
use Rattle.go_reference_core.proofs.rename.texts.edit_at.Goals as goal

pub returns-in_err-end : goal.returns-in_err-end
returns-in_err-end c = rw c.from_residual.ensures (at_least (2 ^ 64) (c.args.at + c.args.len) c.in_err-end.ensures)

pub returns : goal.returns
returns c = ap (λ (n : ℕ). part c.args.at n c.args.new.now) c.in_ok-end.ensures.1
