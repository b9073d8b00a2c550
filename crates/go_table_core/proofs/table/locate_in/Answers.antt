use Rattle.std.proofs.Common.{◌≡◌, sym, ap, ◌∙◌, rules}
use Rattle.std.proofs.lemmas.Fn.{always_returns_same}
use Rattle.go_term_core.specs.decl_core.Order.{place_cmp}
use Rattle.go_table_core.proofs.Searching.{answer_none, answer_some, answer_other, same_decl-is, same_decl-apart}
use Rattle.go_table_core.proofs.table.locate_in.Goals as goal

pub returns-then-eq-clause-entry : goal.returns-then-eq-clause-entry
returns-then-eq-clause-entry c =
    let decl : c.key.result.now.decl ≡ c.args.key.now.decl = same_decl-is c.key.result.now.decl c.args.key.now.decl (sym c.eq.ensures ∙ c.if-eq.true) in
    (answer_some c.args.types.now c.args.key.now c.in-Ok.number c.index-types-number.result c.requires c.in-Ok.ensures.bound c.index-types-number.is (ap (λ k. k.decl) (sym c.key.ensures) ∙ decl)).0

pub returns-then-eq-clause-number : goal.returns-then-eq-clause-number
returns-then-eq-clause-number c =
    let decl : c.key.result.now.decl ≡ c.args.key.now.decl = same_decl-is c.key.result.now.decl c.args.key.now.decl (sym c.eq.ensures ∙ c.if-eq.true) in
    (answer_some c.args.types.now c.args.key.now c.in-Ok.number c.index-types-number.result c.requires c.in-Ok.ensures.bound c.index-types-number.is (ap (λ k. k.decl) (sym c.key.ensures) ∙ decl)).1

pub returns-else-eq-clause-entry : goal.returns-else-eq-clause-entry
returns-else-eq-clause-entry c =
    let equal = c.in-Ok.ensures.position (λ e. place_cmp e.key.decl c.args.key.now.decl) (always_returns_same _ _ _ (λ a r f' k. search rules)) in
    sym (answer_other c.args.types.now c.args.key.now c.in-Ok.number c.index-types-number.result c.requires c.in-Ok.ensures.bound c.index-types-number.is (equal c.index-types-number.result)
    (λ same. same_decl-apart c.key.result.now.decl c.args.key.now.decl (sym c.eq.ensures ∙ c.if-eq.false) (ap (λ k. k.decl) c.key.ensures ∙ same)))

pub returns-in-Err-clause-entry : goal.returns-in-Err-clause-entry
returns-in-Err-clause-entry c =
    sym (answer_none c.args.types.now c.args.key.now c.in-Err.field-0 c.requires
    (c.in-Err.ensures.position (λ e. place_cmp e.key.decl c.args.key.now.decl) (always_returns_same _ _ _ (λ a r f' k. search rules))))
