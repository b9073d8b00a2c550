use Rattle.std.proofs.Common.{◌≡◌, ◌<◌, ◌+◌, ℕ, List, true, false, Vec, length, get_or, subst, sym, ap, ◌∙◌, arith}
use Rattle.std.specs.declared.alloc.Global.{Global}
use Rattle.std.proofs.lemmas.List.{get_or_default}
use Rattle.go_digraph_core.specs.reach.mirrors.Filling.{Completes}
use Rattle.go_digraph_core.proofs.ReachFilled.{completes_more, completes_marked}
use Rattle.go_digraph_core.proofs.reach.graph.order_and_others.Goals as goal
use Rattle.go_digraph_core.proofs.reach.graph.order_and_others.Goals.{then-not-index+in_ok-push, else-not-index}

pub loop-node-preserved : goal.loop-node-preserved
loop-node-preserved c =
    let node : ℕ = c.loop-node.node in
    let P : List ℕ → Type 0 = λ l. Completes c.args.order.now c.args.count (node + 1) l in
    let items = λ (v : Vec ℕ Global). v.items in
    elim c.if-not-index.branch [
      | then-not-index+in_ok-push w ↦ subst P (sym (ap items w.nodes-is)) (completes_more c.args.order.now c.args.count node c.loop-node.nodes.items w.push.new.self.items c.loop-node-test.true w.in_ok-push.ensures.items c.loop-node.invariant)
      | else-not-index w ↦
          let lt : node < length c.in_ok-marks.marks.items = omega (arith, c.loop-node-test.true, c.in_ok-marks.ensures.len) in
          let marked : get_or c.in_ok-marks.marks.items node false ≡ true = get_or_default c.in_ok-marks.marks.items node false c.index.result.now lt ∙ (sym c.index.ensures ∙ w.if-not-index.false) in
          subst P (sym (ap items w.nodes-is)) (completes_marked c.args.order.now c.args.count node c.loop-node.nodes.items (c.in_ok-marks.ensures.marks node marked) c.loop-node.invariant)
    ]
