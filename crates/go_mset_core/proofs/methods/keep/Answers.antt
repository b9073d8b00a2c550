use Rattle.std.proofs.Common.{◌∷◌, [], ◌++◌, sym, ap, ◌∙◌, append_assoc}
use Rattle.go_mset_core.proofs.MethodSorts.{kept_step}
use Rattle.go_mset_core.proofs.methods.keep.Goals as goal

pub selections-preserved : goal.selections-preserved
selections-preserved c =
    let at = c.selections in (
      kept_step at.methods.items c.add_callable.new.methods.items at.yielded c.in-Some.selected at.invariant.0 c.in_ok-add_callable.ensures,
      append_assoc at.yielded (c.in-Some.selected ∷ []) _ ∙ (ap (λ l. at.yielded ++ l) (sym c.in-Some.ensures.steps.0) ∙ at.invariant.1),
    )
