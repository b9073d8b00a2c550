use Rattle.std.proofs.Common.{List, ℕ, [], sym, subst, ◌∙◌}
use Rattle.go_candidate_core.proofs.AfterDotChosen.{Behind, typed_names, untyped_names}
use Rattle.go_candidate_core.proofs.after_dot.members.names_behind.Goals as goal

pub returns-in_ok-names-in-Some : goal.returns-in_ok-names-in-Some
returns-in_ok-names-in-Some c = λ looks offset sees.
    typed_names looks offset c.args.table.now c.args.home.now sees c.args.usage c.args.operand.now c.in-Some.t c.in_ok-names-in-Some.names.items (sym (c.type_of_value.ensures c.args.table.now) ∙ c.in-Some.is) c.in_ok-names-in-Some.ensures

pub returns-in-None : goal.returns-in-None
returns-in-None c = λ looks offset sees.
    subst (λ (l : List (List ℕ)). Behind looks offset c.args.table.now c.args.home.now sees c.args.usage c.args.operand.now l) (sym c.new.ensures.items)
    (untyped_names looks offset c.args.table.now c.args.home.now sees c.args.usage c.args.operand.now (sym (c.type_of_value.ensures c.args.table.now) ∙ c.in-None.is))
