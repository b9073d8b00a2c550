use Rattle.std.proofs.Common.{◌≡◌, ◌+◌, Bool, List, length, sym, ap, ◌∙◌, subst}
use Rattle.std.proofs.lemmas.List.{length_push}
use Rattle.go_block_core.specs.graph_core.Workspaces.{PackageModel}
use Rattle.go_batch_core.specs.Steadiness.{AreSameAt}
use Rattle.go_batch_core.specs.mirrors.Rows.{Stays}
use Rattle.go_batch_core.proofs.Samely.{marks_push, stays_same}
use Rattle.go_batch_core.proofs.over.stays.Goals as goal

pub loop-number-preserved : goal.loop-number-preserved
loop-number-preserved c =
    let qs = c.args.earlier.now in
    let ps = c.args.current.now in
    let old = c.args.old.now in
    let new = c.args.new.now in
    let k = c.loop-number.number in
    let marks = c.loop-number.marks.items in
    let is = c.in_ok-stays.stays in
    subst (λ (l : List Bool). (length l ≡ k + 1) × AreSameAt qs ps l) (sym c.in_ok-push.ensures.items)
    (length_push marks is ∙ ap (λ n. n + 1) c.loop-number.invariant.0, marks_push qs ps marks is k c.loop-number.invariant.0 c.loop-number.invariant.1 (λ t. stays_same qs ps old.plan new.plan old.reached new.reached c.args.same.now k c.requires.old c.requires.new c.requires.same (subst (λ (l : List PackageModel). Stays old.plan new.plan old.reached new.reached l c.args.same.now k) c.packages-packages.ensures.packages (c.in_ok-stays.ensures t))))
