use Rattle.std.proofs.Common.{length, ap, ◌∙◌}
use Rattle.std.proofs.lemmas.List.{take_at}
use Rattle.go_digraph_core.proofs.cycle.guess.guess_components.Goals as goal

pub returns-clause-ranks : goal.returns-clause-ranks
returns-clause-ranks c =
    let kept = c.search_out.auto.ranks ∙ c.deref_mut.ensures.len in
    ap length (take_at c.search_out.new.ranks _ _ kept) ∙ (kept ∙ c.in_ok-ranks.ensures.len)

pub returns-clause-roots : goal.returns-clause-roots
returns-clause-roots c =
    let kept = c.search_out.auto.roots ∙ c.deref_mut-2.ensures.len in
    ap length (take_at c.search_out.new.roots _ _ kept) ∙ (kept ∙ c.in_ok-roots.ensures.len)
