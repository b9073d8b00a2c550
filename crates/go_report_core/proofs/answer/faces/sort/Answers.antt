use Rattle.std.proofs.Common.{rules, of_calls}
use Rattle.std.specs.Ordering.{is_lt}
use Rattle.std.proofs.lemmas.Fn.{always_returns_same}
use Rattle.go_term_core.specs.decl_core.declared.keys.DeclRef.{DeclRef}
use Rattle.go_term_core.specs.decl_core.Order.{place_cmp}
use Rattle.go_report_core.proofs.AnswerListed.{order_weak}
use Rattle.go_report_core.proofs.answer.faces.sort.Goals as goal

pub returns-clause-sorted : goal.returns-clause-sorted
returns-clause-sorted c = c.sort_unstable_by.ensures.sorted (λ (x y : DeclRef). is_lt (place_cmp x y)) order_weak (always_returns_same _ _ _ (λ a r f k. search (rules, of_calls)))
