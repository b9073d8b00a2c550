use Rattle.std.proofs.lemmas.List.Filters.{dedup_is}
use Rattle.std.proofs.lemmas.List.Kept.{IsStrictlySortedBy-dedup}
use Rattle.std.specs.Cmp.Lexicographic.{on_texts, texts_ties}
use Rattle.go_summary_core.proofs.ShownOrdering.{same_texts, texts_sorted}
use Rattle.go_candidate_core.proofs.fitting.listing.in_order.Goals as goal

pub returns-clause-order : goal.returns-clause-order
returns-clause-order c = texts_sorted _ (rw (dedup_is _ _ _ c.dedup.ensures.filtered) (IsStrictlySortedBy-dedup (on_texts (λ x. x.now)) (λ x y. texts_ties x.now y.now) _ c.sort_unstable.ensures.sorted))

pub returns-clause-same : goal.returns-clause-same
returns-clause-same c = same_texts c.args.names.now.items _ _ c.sort_unstable.ensures.permutation (dedup_is _ _ _ c.dedup.ensures.filtered)
