use Rattle.std.proofs.Common.{refl}
use Rattle.std.proofs.lemmas.Result.{on_ok_weaker}
use Rattle.go_typexpr_core.proofs.WrittenCollected.{method_added}
use Rattle.go_typexpr_core.proofs.written.terms.add_method.Goals as goal

pub returns : goal.returns
returns c = on_ok_weaker c.add.result (λ pushed. method_added _ _ _ _ _ _ pushed c.in_ok-name.ensures.same c.place-place.ensures refl) c.add.ensures
