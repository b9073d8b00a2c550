use Rattle.std.proofs.Common.{is_some, refl, inr, sym, ap, ◌∙◌}
use Rattle.go_scope_stack.proofs.declare_in.Goals as goal

pub returns-then-is_some-clause-err : goal.returns-then-is_some-clause-err
returns-then-is_some-clause-err c = (refl, inr (refl, sym (c.is_some.ensures ∙ ap is_some c.find_in.ensures) ∙ c.if-is_some.true))
