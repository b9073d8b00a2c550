use Rattle.std.proofs.Common.{◌∙◌, ap}
use Rattle.std.specs.List.{count_by}
use Rattle.std.proofs.lemmas.List.{take_at}
use Rattle.go_digraph_core.proofs.cycle.reach.reached_count.Goals as goal

pub returns : goal.returns
returns c =
    let marked = c.mark_reached.auto.marks ∙ c.deref_mut.ensures.len in
    let counted = c.deref.ensures.value ∙ take_at c.mark_reached.new.marks _ _ marked in
    (c.mark_reached.new.marks, marked ∙ c.in_ok-marks.ensures.len, c.in_ok-mark_reached.ensures, c.count_marks.ensures ∙ ap (λ l. count_by (λ m. m) l) counted)
