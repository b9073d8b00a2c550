use Rattle.std.proofs.Common.{arith, rules}
use Rattle.go_type_core.proofs.Keyed.{table_none}
use Rattle.go_type_core.proofs.Steps.{table_all, table_push}
use Rattle.go_type_core.proofs.roots.kinds_of.Goals as goal

pub loop-number-preserved : goal.loop-number-preserved
loop-number-preserved c = table_push _ _ _ _ c.kind_at.result c.loop-number.invariant c.kind_at.ensures c.in_ok-push.ensures.items

pub loop-number-init : goal.loop-number-init
loop-number-init c = table_none _ _ (search rules)

pub returns : goal.returns
returns c = table_all _ _ _ _ (omega arith) c.loop-number.invariant
