use Rattle.std.proofs.Common.{◌∷◌, [], ◌++◌, sym, ap, ◌∙◌, append_assoc}
use Rattle.go_declared_core.proofs.Seeing.{seen_step}
use Rattle.go_declared_core.proofs.seen.SeenNames.of.Goals as goal

pub loop-named-preserved : goal.loop-named-preserved
loop-named-preserved c =
    let at = c.loop-named in (
      seen_step at.yielded c.in-Some.named at.names _ at.invariant.0 c.in_ok-add.ensures,
      append_assoc at.yielded (c.in-Some.named ∷ []) _ ∙ (ap (λ l. at.yielded ++ l) (sym c.in-Some.ensures.steps.0) ∙ at.invariant.1),
    )
