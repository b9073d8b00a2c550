-- How a table of values is filled, node by node.
use Rattle.std.proofs.Common.{◌≡◌, ℕ, suc, ◌+◌, ◌<◌, inl, inr, List, Option, Some, None, is_some, length, get_or, All, set, length-set, refl, sym, ◌∙◌, ap, subst, arith}
use Rattle.std.specs.List.{Contains, range_with_len}
use Rattle.std.specs.List.Sorted.{IsPermutation}
use Rattle.std.proofs.lemmas.Bool as bool
use Rattle.std.proofs.lemmas.Bool.{cases_lt, cases_eq}
use Rattle.std.proofs.lemmas.List.{get_or-set_same, get_or-set_other, get_or_default}
use Rattle.std.proofs.lemmas.List.FromFn.{length-range_with_len}
use Rattle.std.proofs.lemmas.List.Elements.{All-contains}
use Rattle.std.proofs.lemmas.List.Sorted.{Contains-permutation, length_permutation}
use Rattle.go_digraph_core.specs.cycle.Cycle.{IsRanked, IsRanking, IsAfter}
use Rattle.go_digraph_core.specs.needs.Needs.{NeedsAreInside, needed, EndsWithin, IsEndless, known_in, LooksAtNeeds, AreValues, edges_from}
use Rattle.go_digraph_core.specs.needs.mirrors.Filling.{IsMissing, IsThere, IsStep, IsFilled}
use Rattle.go_digraph_core.proofs.NeedsNeeded.{within_more}
use Rattle.go_digraph_core.proofs.NeedsEdges.{edge, need_edge, needed_inside, cycle_back, back_before, in_all}

module _ (V : Type 0) (rows : List (List ℕ)) (value : (ℕ → Option V) → ℕ → V) where
  not_both : {x : Option V} (v : V) → x ≡ Some v → x ≡ None → ⊥
  not_both v h k = bool.both_ways (is_some {T = V} None) refl (ap is_some (sym k ∙ h))

  pub filled_none : (order : List ℕ) (table : List (Option V)) → length table ≡ length rows → ((a : ℕ) → known_in table a ≡ None) → IsFilled V rows value order 0 table
  filled_none order table len none = record {
    as_many = len;
    ends = λ a v h. absurd (not_both v h (none a));
    values = λ a v h. absurd (not_both v h (none a));
    needs = λ a v h. absurd (not_both v h (none a));
    endless = λ j lt h. absurd (omega (arith, lt));
  }

  module _ (local : LooksAtNeeds rows value) (order ranks : List ℕ) (i : ℕ) (table : List (Option V)) (filled : IsFilled V rows value order i table) where
    -- the node of this step
    abbrev node : ℕ
    node = get_or order i 0

    module _ (v : V) (inside : node < length rows) (all : All (IsThere ranks table node) (needed rows node)) (is : v ≡ value (known_in table) node) where
      abbrev new : List (Option V)
      new = set table node (Some v)

      here : known_in new node ≡ Some v
      here = (let lt : node < length table = omega (arith, inside, filled.as_many) in get_or-set_same table node (Some v) None lt)

      other : (b : ℕ) → (b ≡ node → ⊥) → known_in new b ≡ known_in table b
      other b ne = get_or-set_other table node b (Some v) None ne

      -- what is known stays
      kept : (b : ℕ) (w : V) → known_in table b ≡ Some w → known_in new b ≡ Some w
      kept b w h = elim (cases_eq b node) [
        | inl same ↦
            let old : known_in table node ≡ Some w = subst (λ x. known_in table x ≡ Some w) same h in
            let one : v ≡ w = is ∙ sym (filled.values node w old) in
            subst (λ x. known_in new x ≡ Some w) (sym same) (here ∙ ap Some one)
        | inr ne ↦ other b ne ∙ h
      ]

      there : (b : ℕ) → Contains (needed rows node) b → (w : V) × (known_in table b ≡ Some w)
      there b has = (All-contains (IsThere ranks table node) (needed rows node) b all has).1

      -- what stays agrees at what is needed
      agree : (b : ℕ) → ((w : V) × (known_in table b ≡ Some w)) → known_in table b ≡ known_in new b
      agree b h = h.1 ∙ sym (kept b h.0 h.1)

      -- a property of the node of this step and of those with a value before
      each : (P : ℕ → V → Type 0) → P node v → ((a : ℕ) (w : V) → known_in table a ≡ Some w → P a w) → (a : ℕ) (w : V) → known_in new a ≡ Some w → P a w
      each P first before a w h = elim (cases_eq a node) [
        | inl same ↦
            let q : known_in new node ≡ Some w = subst (λ x. known_in new x ≡ Some w) same h in
            let one : v ≡ w = some_same (sym here ∙ q) in
            subst (λ x. P x w) (sym same) (subst (P node) one first)
        | inr ne ↦ before a w (sym (other a ne) ∙ h)
      ]
        where
          some_same : {A : Type 0} {x y : A} → Some x ≡ Some y → x ≡ y
          some_same h = search

      pub filled_value : IsFilled V rows value order (suc i) new
      filled_value = record {
        as_many = length-set table node (Some v) ∙ filled.as_many;
        ends = each (λ a w. EndsWithin rows (suc i) a) (λ b has. (let t = there b has in filled.ends b t.0 t.1)) (λ a w h. within_more rows i a (filled.ends a w h));
        values = each (λ a w. w ≡ value (known_in new) a) (is ∙ local (known_in table) (known_in new) node (λ b has. agree b (there b has)))
            (λ a w h. filled.values a w h ∙ local (known_in table) (known_in new) a (λ b has. agree b (filled.needs a w h b has)));
        needs = each (λ a w. (b : ℕ) → Contains (needed rows a) b → (z : V) × (known_in new b ≡ Some z)) (λ b has. (let t = there b has in (t.0, kept b t.0 t.1)))
            (λ a w h b has. (let t = filled.needs a w h b has in (t.0, kept b t.0 t.1)));
        endless = λ j lt h. elim (cases_eq (get_or order j 0) node) [
          | inl same ↦ absurd (not_both v here (subst (λ x. known_in new x ≡ None) same h))
          | inr ne ↦ elim (cases_lt j i) [
            | inl before ↦ filled.endless j before (sym (other (get_or order j 0) ne) ∙ h)
            | inr past ↦ (let q : j ≡ i = omega (arith, lt, past) in absurd (ne (ap (λ k. get_or order k 0) q)))
          ]
        ];
      }

    module _ (inside : NeedsAreInside rows) (ranking : IsRanking (edges_from 0 rows) ranks) (after : IsAfter (edges_from 0 rows) order) (each : IsPermutation (range_with_len 0 (length rows)) order) (lt : i < length order) where
      ranked : (b : ℕ) → Contains (needed rows node) b → IsRanked (edges_from 0 rows) ranks (edge node b)
      ranked b has = All-contains (IsRanked (edges_from 0 rows) ranks) (edges_from 0 rows) (edge node b) ranking (need_edge rows node b has)

      on_cycle : (b : ℕ) → Contains (needed rows node) b → get_or ranks b 0 ≡ get_or ranks node 0 → IsEndless rows node
      on_cycle b has q = cycle_back rows (edge node b) (need_edge rows node b has) ((ranked b has).1.0 q)

      -- what is needed and lies on no cycle stands before
      stands : (b : ℕ) → Contains (needed rows node) b → (get_or ranks b 0 ≡ get_or ranks node 0 → ⊥) → (k : ℕ) × (k < i) × (get_or order k 0 ≡ b)
      stands b has ne =
          let at : Contains order b = Contains-permutation (range_with_len 0 (length rows)) order b each (in_all (length rows) b (needed_inside rows inside node b has)) in
          let q : get_or order at.0 0 ≡ b = get_or_default order at.0 0 b at.1 ∙ at.2 in
          (at.0, after (edge node b) (need_edge rows node b has) (λ on. ne ((ranked b has).1.1 on)) i at.0 lt at.1 refl q, q)

      missing : (b : ℕ) → Contains (needed rows node) b → IsMissing ranks table node b → IsEndless rows node
      missing b has h = elim (cases_eq (get_or ranks b 0) (get_or ranks node 0)) [
        | inl same ↦ on_cycle b has same
        | inr ne ↦ elim h [
          | inl same ↦ absurd (ne same)
          | inr none ↦
              let s = stands b has ne in
              back_before rows node b has (subst (IsEndless rows) s.2 (filled.endless s.0 s.1 (subst (λ x. known_in table x ≡ None) (sym s.2) none)))
        ]
      ]

      pub filled_missing : (b : ℕ) → Contains (needed rows node) b → IsMissing ranks table node b → IsFilled V rows value order (suc i) table
      filled_missing b has h = record {
        as_many = filled.as_many;
        ends = λ a v known. within_more rows i a (filled.ends a v known);
        values = filled.values;
        needs = filled.needs;
        endless = λ j below none. elim (cases_lt j i) [
          | inl before ↦ filled.endless j before none
          | inr past ↦ (let q : i ≡ j = omega (arith, below, past) in subst (λ k. IsEndless rows (get_or order k 0)) q (missing b has h))
        ];
      }

  -- what becomes of the table at a node of the order
  pub filled_more : LooksAtNeeds rows value → NeedsAreInside rows → (order ranks : List ℕ) → IsRanking (edges_from 0 rows) ranks → IsAfter (edges_from 0 rows) order → IsPermutation (range_with_len 0 (length rows)) order
      → (i : ℕ) → i < length order → get_or order i 0 < length rows → (old new : List (Option V)) → IsStep ranks (needed rows (get_or order i 0)) (get_or order i 0) value old new
      → IsFilled V rows value order i old → IsFilled V rows value order (i + 1) new
  filled_more local inside order ranks ranking after perm i lt below old new step filled =
      let q : suc i ≡ i + 1 = omega arith in
      let P : ℕ → List (Option V) → Type 0 = λ n t. IsFilled V rows value order n t in
      elim step [
        | inl there ↦ subst (λ n. P n new) q (subst (P (suc i)) (sym there.1) (filled_value local order ranks i old filled (value (known_in old) (get_or order i 0)) below there.0 refl))
        | inr missing ↦ subst (λ n. P n new) q (subst (P (suc i)) (sym missing.1) (filled_missing local order ranks i old filled inside ranking after perm lt missing.0.0 missing.0.1 missing.0.2))
      ]

  -- all nodes of the order
  pub all_filled : (order : List ℕ) (table : List (Option V)) → IsPermutation (range_with_len 0 (length rows)) order → IsFilled V rows value order (length order) table → AreValues V rows value table
  all_filled order table perm filled =
      let count : length order ≡ length rows = length_permutation (range_with_len 0 (length rows)) order perm ∙ length-range_with_len 0 (length rows) in
      record {
        as_many = filled.as_many;
        ends = λ a v h. subst (λ n. EndsWithin rows n a) count (filled.ends a v h);
        values = filled.values;
        endless = λ a lt none.
            let at : Contains order a = Contains-permutation (range_with_len 0 (length rows)) order a perm (in_all (length rows) a lt) in
            let q : get_or order at.0 0 ≡ a = get_or_default order at.0 0 a at.1 ∙ at.2 in
            subst (IsEndless rows) q (filled.endless at.0 at.1 (subst (λ x. known_in table x ≡ None) (sym q) none));
      }
