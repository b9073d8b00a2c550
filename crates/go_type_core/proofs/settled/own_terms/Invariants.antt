use Rattle.std.proofs.Common.{map}
use Rattle.go_table_core.specs.Shown.{entry_shown}
use Rattle.go_type_core.specs.mirrors.Making.{own_term_at, plan_far, plan_kind, terms_of_arcs}
use Rattle.go_type_core.specs.mirrors.Numbers.{IsTable}
use Rattle.go_type_core.proofs.settled.own_terms.Given as goal

abbrev pub invariant-loop-number : goal.invariant-loop-number
invariant-loop-number l = IsTable (terms_of_arcs l.terms.items) l.number (own_term_at (plan_far l.plan) (plan_kind l.plan) l.plan.nothing.now (map entry_shown l.entries) l.plan.ends.now)
