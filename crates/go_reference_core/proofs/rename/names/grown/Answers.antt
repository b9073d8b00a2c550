use Rattle.std.proofs.Common.{◌+◌, ◌*◌, ◌^◌, ℕ, ap, arith}
use Rattle.go_lsp_core.proofs.EditsKeeping.{at_least, sum_known}
use Rattle.go_reference_core.proofs.rename.names.grown.Goals as goal

pub returns-in_err-more : goal.returns-in_err-more
returns-in_err-more c = (let far = at_least (2 ^ 64) (c.args.count * c.args.each) c.in_err-more.ensures in rw c.from_residual.ensures (omega (arith, far)))

pub returns : goal.returns
returns c =
    sum_known (2 ^ 64) c.checked_add.result (c.args.offset + c.in_ok-more.more) (c.args.offset + c.args.count * c.args.each) (ap (λ (k : ℕ). c.args.offset + k) c.in_ok-more.ensures.1) c.checked_add.ensures
