use Rattle.std.proofs.Common.{◌≡◌, ◌<◌, ℕ, List, ◌∙◌, sym, ap, length, get_or, subst, arith, All}
use Rattle.std.specs.List.{range_with_len}
use Rattle.std.specs.List.Sorted.{IsPermutation}
use Rattle.go_digraph_core.specs.declared.cycle.edge.Edge.{Edge}
use Rattle.go_digraph_core.specs.cycle.Cycle.{InRange, IsRanking, IsAfter}
use Rattle.go_digraph_core.specs.needs.Needs.{rows_of, needed, LooksAtNeeds, edges_from}
use Rattle.go_digraph_core.specs.needs.mirrors.Filling.{IsFilled, IsStep}
use Rattle.go_digraph_core.proofs.NeedsReading.{rows_count}
use Rattle.go_digraph_core.proofs.NeedsEdges.{edges_inside, row_inside, order_inside}
use Rattle.go_digraph_core.proofs.NeedsFilled.{filled_none, filled_more, all_filled}
use Rattle.go_digraph_core.proofs.needs.table.values_of.Goals as goal

pub rank_and_order-requires : goal.rank_and_order-requires
rank_and_order-requires g c =
    let P : List Edge → Type 0 = λ l. InRange (length c.args.needs.now) l in
    let Q : ℕ → Type 0 = λ n. InRange n (edges_from 0 (rows_of c.args.needs.now)) in
    subst P (sym (c.deref.ensures.value ∙ c.in_ok-edges.ensures)) (subst Q (rows_count c.args.needs.now) (edges_inside (rows_of c.args.needs.now) c.requires.inside))

pub loop-node-init : goal.loop-node-init
loop-node-init g c =
    filled_none g.row.S-Value.Denot (rows_of c.args.needs.now) (g.S.Needing.value c.args.stage.now) c.order-node-items.result.now c.in_ok-table.table.items
    (c.in_ok-table.ensures.len ∙ sym (rows_count c.args.needs.now)) c.in_ok-table.ensures.none

pub row_of-requires : goal.row_of-requires
row_of-requires g c =
    let P : List ℕ → Type 0 = λ o. IsPermutation (range_with_len 0 (length c.args.needs.now)) o in
    order_inside (length c.args.needs.now) c.order-node-items.result.now (subst P (sym c.order-node-items.ensures) c.in_ok-ranked.ensures.each) c.loop-node.node-index c.loop-node-test.true

pub fill-requires-clause-ranks : goal.fill-requires-clause-ranks
fill-requires-clause-ranks g c = ap length c.ranks.ensures ∙ (c.in_ok-ranked.ensures.len ∙ (sym (rows_count c.args.needs.now) ∙ sym c.loop-node.invariant.as_many))

pub fill-requires-clause-node : goal.fill-requires-clause-node
fill-requires-clause-node g c =
    let P : List ℕ → Type 0 = λ o. IsPermutation (range_with_len 0 (length c.args.needs.now)) o in
    let Q : ℕ → Type 0 = λ n. get_or c.order-node-items.result.now c.loop-node.node-index 0 < n in
    subst Q (sym (rows_count c.args.needs.now) ∙ sym c.loop-node.invariant.as_many) (order_inside (length c.args.needs.now) c.order-node-items.result.now (subst P (sym c.order-node-items.ensures) c.in_ok-ranked.ensures.each) c.loop-node.node-index c.loop-node-test.true)

pub fill-requires-clause-row : goal.fill-requires-clause-row
fill-requires-clause-row g c =
    let P : List ℕ → Type 0 = λ l. All (λ b. b < length c.loop-node.table.items) l in
    let Q : ℕ → Type 0 = λ n. All (λ b. b < n) (needed (rows_of c.args.needs.now) (get_or c.order-node-items.result.now c.loop-node.node-index 0)) in
    subst P (sym c.row_of.ensures) (subst Q (sym c.loop-node.invariant.as_many) (row_inside (rows_of c.args.needs.now) c.requires.inside (get_or c.order-node-items.result.now c.loop-node.node-index 0)))

pub loop-node-preserved : goal.loop-node-preserved
loop-node-preserved g c =
    let rows : List (List ℕ) = rows_of c.args.needs.now in
    let order : List ℕ = c.order-node-items.result.now in
    let i : ℕ = c.loop-node.node-index in
    let P : List ℕ → Type 0 = λ o. IsPermutation (range_with_len 0 (length c.args.needs.now)) o in
    let perm : P order = subst P (sym c.order-node-items.ensures) c.in_ok-ranked.ensures.each in
    let Q : ℕ → Type 0 = λ n. IsPermutation (range_with_len 0 n) order in
    let B : ℕ → Type 0 = λ n. get_or order i 0 < n in
    let below : B (length c.args.needs.now) = order_inside (length c.args.needs.now) order perm i c.loop-node-test.true in
    let local = subst (λ r. LooksAtNeeds r (g.S.Needing.value c.args.stage.now)) c.requires.rows (g.S.Needing.at_needs c.args.stage.now) in
    let E : List Edge → Type 0 = λ es. IsRanking es c.in_ok-ranked.ranked.ranks in
    let F : List Edge → Type 0 = λ es. IsAfter es c.in_ok-ranked.ranked.order in
    let edges : c.deref.result.now ≡ edges_from 0 rows = c.deref.ensures.value ∙ c.in_ok-edges.ensures in
    let after : IsAfter (edges_from 0 rows) order = subst (IsAfter (edges_from 0 rows)) (sym c.order-node-items.ensures) (subst F edges c.in_ok-ranked.ensures.after) in
    let S : List ℕ → List ℕ → Type 0 = λ ranks row. IsStep ranks row (get_or order i 0) (g.S.Needing.value c.args.stage.now) c.loop-node.table.items c.fill.new.table.items in
    filled_more g.row.S-Value.Denot rows (g.S.Needing.value c.args.stage.now) local c.requires.inside order c.in_ok-ranked.ranked.ranks (subst E edges c.in_ok-ranked.ensures.ranks) after
    (subst Q (sym (rows_count c.args.needs.now)) perm) i c.loop-node-test.true (subst B (sym (rows_count c.args.needs.now)) below) c.loop-node.table.items c.fill.new.table.items
    (subst (λ ranks. S ranks (needed rows (get_or order i 0))) c.ranks.ensures (subst (S c.ranks.result.now) c.row_of.ensures c.in_ok-fill.ensures)) c.loop-node.invariant

pub returns : goal.returns
returns g c =
    let rows : List (List ℕ) = rows_of c.args.needs.now in
    let order : List ℕ = c.order-node-items.result.now in
    let P : List ℕ → Type 0 = λ o. IsPermutation (range_with_len 0 (length c.args.needs.now)) o in
    let Q : ℕ → Type 0 = λ n. IsPermutation (range_with_len 0 n) order in
    let end : c.loop-node.node-index ≡ length order = omega (arith, c.loop-node-test.false, c.loop-node.auto.node-index-end) in
    all_filled g.row.S-Value.Denot rows (g.S.Needing.value c.args.stage.now) order c.loop-node.table.items (subst Q (sym (rows_count c.args.needs.now)) (subst P (sym c.order-node-items.ensures) c.in_ok-ranked.ensures.each))
    (subst (λ n. IsFilled g.row.S-Value.Denot rows (g.S.Needing.value c.args.stage.now) order n c.loop-node.table.items) end c.loop-node.invariant)
