use Rattle.std.proofs.Common.{rules, Bool, List, replicate, ◌≡◌, ◌<◌, true, false, Some, length, sym, ap, ◌∙◌, subst, arith}
use Rattle.std.specs.Prelude.{◌↔◌, IsTrue}
use lib.Dec.{eqb}
use Rattle.std.proofs.lemmas.Bool.{eqb-true}
use Rattle.std.proofs.lemmas.Option.{slice_get-get_or}
use Rattle.go_import_core.proofs.HeadMarking.{AreMarkedTo, all_marked, eqb_itself, none_yet, one_more}
use Rattle.go_import_core.proofs.HeadReplacing.{same_two}
use Rattle.go_import_core.proofs.HeadTexts.{heads_alike}
use Rattle.go_import_core.proofs.head.marks.compare_all.Goals.{then-heads, else-heads}
use Rattle.go_import_core.proofs.head.marks.compare_all.Goals as goal

pub compare_at-mark-requires-clause-outside : goal.compare_at-mark-requires-clause-outside
compare_at-mark-requires-clause-outside c =
    let qs = c.args.others.now in
    let k = c.loop-number.number in
    let q = c.index-others-number.result in
    let below : k < length qs = omega (arith, c.loop-number-test.true, c.loop-number.invariant.within) in
    same_two c.args.modules.now c.args.packages.now qs k q c.requires.own c.requires.other c.requires.outside (slice_get-get_or qs k q below ∙ ap Some (sym c.index-others-number.is))

pub loop-number-preserved : goal.loop-number-preserved
loop-number-preserved c =
    let ps = c.args.packages.now in
    let qs = c.args.others.now in
    let k = c.loop-number.number in
    let below : k < length qs = omega (arith, c.loop-number-test.true, c.loop-number.invariant.within) in
    let both : IsTrue c.if-heads.heads ↔ (IsTrue c.loop-number.heads × IsTrue c.compare_at-mark.result.1) = elim c.if-heads.branch [
      | then-heads w ↦ ((λ t. (w.if-heads.true, subst IsTrue w.heads-is t)), (λ t. w.heads-is ∙ t.1))
      | else-heads w ↦ ((λ t. absurd (let no : true ≡ false = sym t ∙ w.heads-is ∙ w.if-heads.false in cc)), (λ t. absurd (let no : true ≡ false = sym t.0 ∙ w.if-heads.false in cc)))
    ] in
    one_more ps qs c.in_ok-span.span.end k c.index-others-number.result c.loop-number.same.items c.loop-number.heads c.compare_at-mark.result.0 c.compare_at-mark.result.1 c.if-heads.heads below c.loop-number-test.true c.index-others-number.is c.loop-number.invariant c.compare_at-mark.ensures.same c.compare_at-mark.ensures.head both

pub returns-clause-spelled : goal.returns-clause-spelled
returns-clause-spelled c = (all_marked c.args.packages.now c.args.others.now c.in_ok-span.span.end c.loop-number.number c.loop-number.same.items c.loop-number.heads c.loop-number-test.false c.loop-number.invariant).1

pub returns-clause-heads : goal.returns-clause-heads
returns-clause-heads c said =
    let marked = all_marked c.args.packages.now c.args.others.now c.in_ok-span.span.end c.loop-number.number c.loop-number.same.items c.loop-number.heads c.loop-number-test.false c.loop-number.invariant in
    heads_alike c.args.packages.now c.args.others.now (marked.1.0 said)

pub loop-number-init : goal.loop-number-init
loop-number-init c =
    let ps = c.args.packages.now in
    let qs = c.args.others.now in
    let span = c.in_ok-span.span in
    let items : c.in_ok-same.same.items ≡ replicate (length qs) true = search rules in
    subst (λ (l : List Bool). AreMarkedTo ps qs span.end span.start l (eqb (length ps) (length qs))) (sym items)
    (none_yet ps qs span.start span.end (eqb (length ps) (length qs)) c.in_ok-span.ensures.same c.in_ok-span.ensures.within ((λ said. eqb-true (length ps) (length qs) said), (λ long. ap (λ n. eqb n (length qs)) long ∙ eqb_itself (length qs))))
