use Rattle.std.proofs.Common.{◌≡◌, ◌<◌, List, ℕ, All, get_or, length, subst, sym, ◌∙◌, arith}
use Rattle.std.proofs.lemmas.List.Elements.{All-from_get_or, All-set}
use Rattle.go_digraph_core.specs.cycle.mirrors.Search.{row_at}
use Rattle.go_digraph_core.specs.reach.Numbers.{Numbers}
use Rattle.go_digraph_core.specs.reach.mirrors.Filling.{IsReachSetAt, IsUnion}
use Rattle.go_digraph_core.proofs.ReachEnds.{row_below, row_read}
use Rattle.go_digraph_core.proofs.ReachFilled.{filled_more, ready_before, reached_by_ends}
use Rattle.go_digraph_core.proofs.reach.graph.fill.Goals as goal

pub union_of-requires-clause-ends : goal.union_of-requires-clause-ends
union_of-requires-clause-ends c =
    let node : ℕ = get_or c.args.nodes.now c.loop-node.node-index 0 in
    let lt : node < length c.in_ok-rows.rows.items = omega (arith, c.requires.nodes c.loop-node.node-index 0 c.loop-node-test.true, c.in_ok-rows.ensures.len) in
    let is : c.deref.result.now ≡ row_at c.in_ok-rows.rows.items node = c.deref.ensures.value ∙ sym (row_read c.in_ok-rows.rows.items node c.index.result.now lt c.index.ensures) in
    let P : List ℕ → Type 0 = λ l. All (λ t. t < length c.loop-node.sets) l in
    let Q : ℕ → Type 0 = λ n. All (λ t. t < n) (row_at c.in_ok-rows.rows.items node) in
    subst P (sym is) (subst Q (sym c.loop-node.auto.sets) (row_below _ c.args.edges.now c.in_ok-rows.rows.items node c.requires.edges c.in_ok-rows.ensures.rows))

pub loop-node-preserved : goal.loop-node-preserved
loop-node-preserved c =
    let i : ℕ = c.loop-node.node-index in
    let node : ℕ = get_or c.args.nodes.now i 0 in
    let sets : List Numbers = c.loop-node.sets in
    let lt : node < length c.args.sets.now = c.requires.nodes i 0 c.loop-node-test.true in
    let lt' : node < length c.in_ok-rows.rows.items = omega (arith, lt, c.in_ok-rows.ensures.len) in
    let lt'' : node < length sets = omega (arith, lt, c.loop-node.auto.sets) in
    let is : c.deref.result.now ≡ row_at c.in_ok-rows.rows.items node = c.deref.ensures.value ∙ sym (row_read c.in_ok-rows.rows.items node c.index.result.now lt' c.index.ensures) in
    let P : List ℕ → Type 0 = λ l. IsUnion l sets c.in_ok-set.set.members in
    record {
      bound = All-set (λ (s : Numbers). s.bound ≡ length c.args.sets.now) sets node c.in_ok-set.set (c.in_ok-set.ensures.bound ∙ c.loop-node.auto.sets) c.loop-node.invariant.bound;
      done = filled_more c.args.edges.now c.args.nodes.now i sets c.in_ok-set.set lt''
          (reached_by_ends c.args.edges.now node (row_at c.in_ok-rows.rows.items node) sets (c.in_ok-rows.ensures.rows node) (ready_before c.args.edges.now c.args.nodes.now i sets c.requires.before c.loop-node-test.true c.loop-node.invariant.done) c.in_ok-set.set.members (subst P is c.in_ok-set.ensures.members))
          c.loop-node.invariant.done;
    }

pub returns-clause-sets : goal.returns-clause-sets
returns-clause-sets c = All-from_get_or (IsReachSetAt c.args.edges.now c.loop-node.sets) c.args.nodes.now 0 (λ i lt. c.loop-node.invariant.done i (omega (arith, lt, c.loop-node-test.false)))
