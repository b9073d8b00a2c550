use Rattle.std.proofs.Common.{length, ap, sym, arith}
use Rattle.go_stmt_core.proofs.PieceListing.{not_alone}
use Rattle.go_stmt_core.proofs.piece.starts.is_lone_call.Goals as goal

pub returns-in_default : goal.returns-in_default
returns-in_default c = sym (not_alone c.args.exprs.now.first c.args.exprs.now.more.items (omega (arith, c.in_default.len_at_least, ap length c.as_slice.ensures.value)))
