use Rattle.std.proofs.Common.{arith, rules}
use Rattle.go_term_core.specs.Shapes.{shape}
use Rattle.go_type_core.proofs.Keyed.{table_none}
use Rattle.go_type_core.proofs.Steps.{bare_step, table_all}
use Rattle.go_type_core.proofs.nothing.next_bare.Goals as goal

pub loop-number-preserved : goal.loop-number-preserved
loop-number-preserved c = bare_step c.args.keys.now c.args.looped.now c.args.entries.now c.loop-number.next.items _ c.loop-number.number c.index-entries-number.result (shape c.base_of.result.now) c.is_marked.result c.named_number-named.result c.next_unless.result c.loop-number-test.true c.index-entries-number.is c.loop-number.invariant c.base_of.ensures c.named_number-named.ensures c.is_marked.ensures c.next_unless.ensures c.in_ok-push.ensures.items

pub loop-number-init : goal.loop-number-init
loop-number-init c = table_none _ _ (search rules)

pub returns : goal.returns
returns c = table_all _ _ _ _ (omega arith) c.loop-number.invariant
