use Rattle.std.proofs.Common.{◌++◌, ◌∷◌, ℕ, List, [], ap, ◌∙◌}
use Rattle.std.proofs.lemmas.List.{replicate_more}
use Rattle.go_judge_core.proofs.writing.stars_text.Goals as goal

pub loop-star-preserved : goal.loop-star-preserved
loop-star-preserved c = c.in_ok-push_str.ensures.bytes ∙ (ap (λ (l : List ℕ). l ++ 42 ∷ []) c.loop-star.invariant ∙ replicate_more c.loop-star._star 42)
