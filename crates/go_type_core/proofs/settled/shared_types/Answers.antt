use Rattle.std.proofs.Common.{arith, rules}
use Rattle.std.specs.Arc.{arc_value}
use Rattle.go_type_core.proofs.Keyed.{table_none}
use Rattle.go_type_core.specs.mirrors.Making.{plan_kind, terms_of_arcs}
use Rattle.go_type_core.proofs.Steps.{shared_step, table_all}
use Rattle.go_type_core.proofs.settled.shared_types.Goals as goal

pub loop-number-preserved : goal.loop-number-preserved
loop-number-preserved c = shared_step (plan_kind c.args.plan.now) c.args.plan.now.nothing.now c.args.plan.now.ends.now (terms_of_arcs c.args.terms.now) c.args.entries.now c.loop-number.types.items c.add.new.all.items c.loop-number.number c.index-entries-number.result (arc_value c.in_ok-underlying.underlying) c.in_ok-defined.defined c.loop-number-test.true c.index-entries-number.is c.loop-number.invariant c.in_ok-underlying.ensures c.in_ok-defined.ensures c.in_ok-add.ensures

pub loop-number-init : goal.loop-number-init
loop-number-init c = table_none _ _ (search rules)

pub returns : goal.returns
returns c = table_all _ _ _ _ (omega arith) c.loop-number.invariant
