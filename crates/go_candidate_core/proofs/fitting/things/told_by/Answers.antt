use Rattle.std.proofs.Common.{sym, ap, ◌∙◌, arith}
use Rattle.std.proofs.lemmas.Bool.{true≢false}
use Rattle.go_summary_core.specs.declared_core.Packages.{PackageFacesModel}
use Rattle.go_candidate_core.proofs.FittingFits.{path_met, path_missed, path_passed}
use Rattle.go_candidate_core.proofs.fitting.things.told_by.Goals as goal

pub loop-number-preserved : goal.loop-number-preserved
loop-number-preserved c =
    path_passed c.args.path.now c.args.reached.now c.loop-number.number c.in-Some.summary.now (sym c.in-Some.ensures)
    (λ e. absurd (true≢false (sym (c.is_same.ensures.1 (c.path.ensures ∙ (ap (λ (q : PackageFacesModel). q.path) c.faces.ensures ∙ e))) ∙ c.if-is_same.false))) c.loop-number.invariant

pub returns-then-is_same : goal.returns-then-is_same
returns-then-is_same c =
    path_met c.args.path.now c.args.reached.now c.loop-number.number c.in-Some.summary.now (sym c.in-Some.ensures)
    (ap (λ (q : PackageFacesModel). q.path) (sym c.faces.ensures) ∙ (sym c.path.ensures ∙ c.is_same.ensures.0 c.if-is_same.true)) c.loop-number.invariant

pub returns : goal.returns
returns c = path_missed c.args.path.now c.args.reached.now c.loop-number.number (omega (arith, c.loop-number-test.false, c.len-number-end.ensures.value)) c.loop-number.invariant
