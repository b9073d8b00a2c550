use Rattle.std.proofs.Common.{length, ap, sym, arith}
use Rattle.go_expr_core.proofs.Steps.{not_lone}
use Rattle.go_expr_core.proofs.elements.is_lone_call.Goals as goal

pub returns-in_default-2 : goal.returns-in_default-2
returns-in_default-2 c = sym (not_lone c.args.items.now.items (omega (arith, c.in_default.len_at_least, ap length c.as_slice.ensures.value)))
