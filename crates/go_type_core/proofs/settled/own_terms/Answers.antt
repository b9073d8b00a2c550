use Rattle.std.proofs.Common.{◌≡◌, [], arith, rules, ap}
use Rattle.go_type_core.proofs.Keyed.{table_none}
use Rattle.go_type_core.specs.mirrors.Making.{plan_far, plan_kind, terms_of_arcs}
use Rattle.go_type_core.proofs.Steps.{own_step, table_all}
use Rattle.go_type_core.proofs.settled.own_terms.Goals as goal

pub loop-number-preserved : goal.loop-number-preserved
loop-number-preserved c = own_step (plan_far c.args.plan.now) (plan_kind c.args.plan.now) c.args.plan.now.nothing.now c.args.plan.now.ends.now c.args.entries.now c.loop-number.terms.items c.add.new.all.items c.loop-number.number c.index-entries-number.result c.in_ok-term.term c.loop-number-test.true c.index-entries-number.is c.loop-number.invariant c.in_ok-term.ensures c.in_ok-add.ensures

pub loop-number-init : goal.loop-number-init
loop-number-init c = (let e : c.in_ok-terms.terms.items ≡ [] = search rules in table_none _ _ (ap terms_of_arcs e))

pub returns : goal.returns
returns c = table_all _ _ _ _ (omega arith) c.loop-number.invariant
