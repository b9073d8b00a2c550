use Rattle.std.proofs.Common.{◌≡◌, ◌+◌, [], ◌∷◌, ◌++◌, Some, take, slice_get, sym, ap, ◌∙◌}
use Rattle.std.specs.List.{cons_option}
use Rattle.go_summary_core.proofs.Growing.{take_next}
use Rattle.go_summary_core.proofs.reached.ReachedSummaries.list.Goals as goal

pub loop-number-preserved : goal.loop-number-preserved
loop-number-preserved c =
    let xs = c.args.self.now in
    let i = c.loop-number.number in
    let is : Some c.in_ok-share-in-Some.field-0 ≡ slice_get xs i = ap (λ s. Some s) c.in_ok-share-in-Some.ensures ∙ c.in-Some.ensures in
    c.in_ok-add-in-Some.ensures ∙ (ap (λ l. l ++ c.in_ok-share-in-Some.field-0 ∷ []) c.loop-number.invariant ∙ (ap (λ o. take i xs ++ cons_option o []) is ∙ sym (take_next xs i)))
