-- A table of values is filled in the order of the nodes.
use Rattle.std.proofs.Common.{◌≡◌, ℕ, zero, suc, ◌+◌, ◌<◌, ◌≤◌, ◌⊎◌, inl, inr, List, [], ◌∷◌, length, get_or, All, refl, subst, arith, Option, Some, None}
use Rattle.std.specs.Prelude.{Contains, replicate, slice_set}
use Rattle.std.specs.List.{range_with_len}
use Rattle.std.specs.List.Sorted.{IsPermutation}
use Rattle.std.proofs.lemmas.Bool.{cases_eq}
use Rattle.std.proofs.lemmas.List.{length-replicate}
use Rattle.std.proofs.lemmas.List.Elements.{All-cons, All-nil}
use Rattle.go_digraph_core.specs.cycle.Cycle.{InRange, IsAfter, IsRanking}
use Rattle.go_digraph_core.specs.needs.Needs.{AreValues, LooksAtNeeds, NeedsAreInside, edges_from, known_in, needed}
use Rattle.go_digraph_core.specs.needs.mirrors.Filling.{IsFilled, IsMissing, IsStep, IsThere}
use Rattle.go_digraph_core.proofs.NeedsEdges.{edges_inside, order_inside}
use Rattle.go_digraph_core.proofs.NeedsFilled.{all_filled, filled_more, filled_none}
use Rattle.go_graph_core.proofs.Orders.{has_order}
use Rattle.go_workspace_laws.proofs.ExistenceOrders.{ranks_of, ranks_rank}

none_there : (V : Type 0) (n a : ℕ) → known_in {V = V} (replicate n None) a ≡ None
none_there V zero a = refl
none_there V (suc n) zero = refl
none_there V (suc n) (suc a) = none_there V n a

module _ (V : Type 0) (rows : List (List ℕ)) (value : (ℕ → Option V) → ℕ → V) where
  -- what is needed is there, or some of it is missing
  abbrev Known : List ℕ → List (Option V) → ℕ → List ℕ → Type 0
  Known ranks table a row = All (IsThere ranks table a) row ⊎ ((b : ℕ) × Contains row b × IsMissing ranks table a b)

  one_more : (ranks : List ℕ) (table : List (Option V)) (a b : ℕ) (row : List ℕ) → (get_or ranks b 0 ≡ get_or ranks a 0 → ⊥) → (o : Option V) → known_in table b ≡ o → Known ranks table a row → Known ranks table a (b ∷ row)
  one_more ranks table a b row apart None e rest = inr (b, (0, omega arith, refl), inr e)
  one_more ranks table a b row apart (Some v) e (inl all) = inl (All-cons (IsThere ranks table a) b row (apart, (v, e)) all)
  one_more ranks table a b row apart (Some v) e (inr m) = inr (m.0, (suc m.1.0, (let lt = m.1.1 in omega (arith, lt)), m.1.2), m.2)

  there_or_missing : (ranks : List ℕ) (table : List (Option V)) (a : ℕ) (row : List ℕ) → Known ranks table a row
  there_or_missing ranks table a [] = inl (All-nil (IsThere ranks table a))
  there_or_missing ranks table a (b ∷ row) = elim (cases_eq (get_or ranks b 0) (get_or ranks a 0)) [
    | inl same ↦ inr (b, (0, omega arith, refl), inl same)
    | inr apart ↦ one_more ranks table a b row apart (known_in table b) refl (there_or_missing ranks table a row)
  ]

  -- a step can be made at each node
  step_at : (ranks : List ℕ) (a : ℕ) (old : List (Option V)) → (new : List (Option V)) × IsStep ranks (needed rows a) a value old new
  step_at ranks a old = elim (there_or_missing ranks old a (needed rows a)) [
    | inl all ↦ (slice_set old a (Some (value (known_in old) a)), inl (all, refl))
    | inr missing ↦ (old, inr (missing, refl))
  ]

  module _ (local : LooksAtNeeds rows value) (inside : NeedsAreInside rows) where
    abbrev count : ℕ
    count = length rows

    abbrev ranks : List ℕ
    ranks = ranks_of (edges_from 0 rows) count

    within : InRange count (edges_from 0 rows)
    within = edges_inside rows inside

    ranking : IsRanking (edges_from 0 rows) ranks
    ranking = ranks_rank (edges_from 0 rows) count within

    module _ (order : List ℕ) (perm : IsPermutation (range_with_len 0 count) order) (after : IsAfter (edges_from 0 rows) order) where
      filled_to : (k : ℕ) → k ≤ length order → (table : List (Option V)) × IsFilled V rows value order k table
      filled_to zero le = (replicate count None, filled_none V rows value order (replicate count None) (length-replicate {A = Option V} count None) (λ a. none_there V count a))
      filled_to (suc k) le =
          let lt : k < length order = omega (arith, le) in
          let old = filled_to k (omega (arith, le)) in
          let new = step_at ranks (get_or order k 0) old.0 in
          let more : k + 1 ≡ suc k = omega arith in
          (new.0, subst (λ n. IsFilled V rows value order n new.0) more (filled_more V rows value local inside order ranks ranking after perm k lt (order_inside count order perm k lt) old.0 new.0 new.1 old.1))

      filled : (table : List (Option V)) × AreValues V rows value table
      filled = (let all = filled_to (length order) (omega arith) in (all.0, all_filled V rows value order all.0 perm all.1))

    pub has_values : (table : List (Option V)) × AreValues V rows value table
    has_values = (let o = has_order (edges_from 0 rows) count within in filled o.0 o.1 o.2)
