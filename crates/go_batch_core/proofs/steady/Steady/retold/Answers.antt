use Rattle.std.proofs.Common.{◌≡◌, Some, sym, ap, ◌∙◌, subst}
use Rattle.std.specs.Prelude.{slice_get}
use Rattle.go_package_core.specs.package_part.Parts.{PartModel}
use Rattle.go_batch_core.specs.Steadiness.{IsRetoldOf, WasAt}
use Rattle.go_batch_core.proofs.Steadied.{retold_at}
use Rattle.go_batch_core.proofs.steady.Steady.retold.Goals as goal

pub returns-in-Some : goal.returns-in-Some
returns-in-Some c =
    let s = c.args.snapshot.now in
    let earlier = c.in-Some.earlier.now in
    let was : WasAt s.parts c.args.place earlier = ap (λ l. slice_get l c.args.place) (sym c.parts.ensures) ∙ c.in-Some.ensures in
    let is = subst (λ (p : PartModel). IsRetoldOf c.retold_by.result earlier.content.summary p.content.summary) c.get.ensures.value c.retold_by.ensures in
    retold_at c.retold_by.result s.parts c.args.place earlier c.args.part.now was is
