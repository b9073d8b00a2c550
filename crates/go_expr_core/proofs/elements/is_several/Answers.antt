use Rattle.std.proofs.Common.{length, ap, sym, arith}
use Rattle.go_expr_core.proofs.Steps.{not_several, several}
use Rattle.go_expr_core.proofs.elements.is_several.Goals as goal

pub returns-in-len1 : goal.returns-in-len1
returns-in-len1 c = sym (not_several c.args.items.now.items (omega (arith, c.in-len1.len_below, ap length c.as_slice.ensures.value)))

pub returns-in_default : goal.returns-in_default
returns-in_default c = sym (several c.args.items.now.items (omega (arith, c.in_default.len_at_least, ap length c.as_slice.ensures.value)))
