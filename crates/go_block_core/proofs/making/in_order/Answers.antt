use Rattle.std.proofs.lemmas.List.Filters.{dedup_is}
use Rattle.std.proofs.lemmas.List.Kept.{IsStrictlySortedBy-dedup, Contains-dedup, Contains-from_dedup}
use Rattle.std.proofs.lemmas.List.Sorted.{Contains-permutation, IsPermutation-sym}
use Rattle.go_block_core.proofs.FaultLemmas.{fault_total, sorted_by_fault_cmp, same, same_eq, same_equiv, same_means}
use Rattle.go_block_core.proofs.making.in_order.Goals as goal

pub returns : goal.returns
returns c =
    let moved = c.in_ok-sort.ensures.permutation in
    let is = dedup_is same _ _ c.dedup.ensures.filtered in
    record {
      order = rw is (IsStrictlySortedBy-dedup fault_total same_eq _ (sorted_by_fault_cmp _ c.in_ok-sort.ensures.sorted));
      same = λ f. (
        λ h. Contains-permutation _ _ f (IsPermutation-sym _ _ moved) (Contains-from_dedup same _ f (rw is at h)),
        λ h. rw is (Contains-dedup same_equiv same_means _ f (Contains-permutation _ _ f moved h)),
      );
    }
