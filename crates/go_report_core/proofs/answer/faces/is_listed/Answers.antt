use Rattle.std.proofs.Common.{rules, of_calls, ◌∙◌}
use Rattle.std.proofs.lemmas.Fn.{always_returns_same}
use Rattle.go_term_core.specs.decl_core.declared.keys.DeclRef.{DeclRef}
use Rattle.go_term_core.specs.decl_core.Order.{place_cmp}
use Rattle.go_report_core.proofs.AnswerListed.{searched}
use Rattle.go_report_core.proofs.answer.faces.is_listed.Goals as goal

pub returns : goal.returns
returns c =
    c.is_ok.ensures.value
    ∙ searched c.args.sorted.now c.args.decl c.binary_search_by.result c.requires c.binary_search_by.ensures.bound
    (c.binary_search_by.ensures.position (λ (e : DeclRef). place_cmp e c.args.decl) (always_returns_same _ _ _ (λ a r f k. search (rules, of_calls))))
