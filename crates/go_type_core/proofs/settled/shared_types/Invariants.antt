use Rattle.std.proofs.Common.{map}
use Rattle.go_table_core.specs.Shown.{entry_shown}
use Rattle.go_type_core.specs.mirrors.Making.{plan_kind, shared_entry_at, terms_of_arcs}
use Rattle.go_type_core.specs.mirrors.Numbers.{IsTable}
use Rattle.go_type_core.proofs.settled.shared_types.Given as goal

abbrev pub invariant-loop-number : goal.invariant-loop-number
invariant-loop-number l = IsTable l.types.items l.number (shared_entry_at (plan_kind l.plan) l.plan.nothing.now (map entry_shown l.entries) l.plan.ends.now (terms_of_arcs l.terms))
