use Rattle.std.proofs.Common.{List, Bool, subst, sym, ◌∙◌}
use Rattle.std.proofs.lemmas.List.{take_at}
use Rattle.go_digraph_core.specs.cycle.mirrors.Search.{IsReach}
use Rattle.go_digraph_core.proofs.cycle.reach.marks_back.Goals as goal

pub returns-clause-marks : goal.returns-clause-marks
returns-clause-marks c =
    let marked = c.mark_reached.auto.marks ∙ c.deref_mut.ensures.len in
    let P : List Bool → Type 0 = λ l. IsReach c.args.back_edges.now c.args.to l in
    subst P (sym (take_at c.mark_reached.new.marks _ _ marked)) c.in_ok-mark_reached.ensures
