use Rattle.std.proofs.Common.{rules, of_calls}
use Rattle.std.specs.Ordering.{is_lt}
use Rattle.std.proofs.lemmas.Fn.{always_returns_same}
use Rattle.go_expr_core.specs.local_core.declared.Fault.{Fault}
use Rattle.go_report_core.specs.Faults.{fault_order}
use Rattle.go_report_core.proofs.Order.{order_weak}
use Rattle.go_report_core.proofs.settling.sort.Goals as goal

pub returns-clause-sorted : goal.returns-clause-sorted
returns-clause-sorted c = c.sort_unstable_by.ensures.sorted (λ (x y : Fault). is_lt (fault_order x y)) order_weak (always_returns_same _ _ _ (λ a r f k. search (rules, of_calls)))
