use Rattle.std.proofs.Common.{◌≡◌, ◌+◌, [], ◌++◌, take, slice_get, sym, ap, ap₂, ◌∙◌}
use Rattle.std.specs.List.{cons_option}
use Rattle.go_summary_core.proofs.Growing.{take_next}
use Rattle.go_summary_core.proofs.reached.ReachedSummaries.is_same.Goals as goal

pub loop-number-preserved : goal.loop-number-preserved
loop-number-preserved c =
    let xs = c.args.self.now in
    let ys = c.args.other.now in
    let i = c.loop-number.number in
    let same : slice_get xs i ≡ slice_get ys i = c.is_same_at.ensures.0 c.if-not-is_same_at.false in
    take_next xs i ∙ (ap₂ (λ front o. front ++ cons_option o []) c.loop-number.invariant same ∙ sym (take_next ys i))
