use Rattle.std.proofs.Common.{List, take, ℕ, true, set, length-set, get_or, subst, sym, ◌∙◌, rules}
use Rattle.std.proofs.lemmas.List.{take_all, take_more}
use Rattle.go_digraph_core.specs.reach.mirrors.Filling.{AreMarksIn}
use Rattle.go_digraph_core.proofs.ReachFilled.{marks_none, marks_more}
use Rattle.go_digraph_core.proofs.reach.graph.marks_on.Goals as goal

pub loop-node-init : goal.loop-node-init
loop-node-init c = record { len = search rules; marks = marks_none (take 0 c.args.order.now) c.in_ok-marks.marks.items c.args.count (c.in_ok-marks.ensures.items_if_clones_equal (search rules)) }

pub loop-node-preserved : goal.loop-node-preserved
loop-node-preserved c =
    let i : ℕ = c.loop-node.node-index in
    let node : ℕ = get_or c.args.order.now i 0 in
    let P : List ℕ → Type 0 = λ l. AreMarksIn l (set c.loop-node.marks.items node true) in
    record {
      len = length-set c.loop-node.marks.items node true ∙ c.loop-node.invariant.len;
      marks = subst P (sym (take_more c.args.order.now i 0 c.loop-node-test.true)) (marks_more _ node c.loop-node.marks.items c.loop-node.invariant.marks);
    }

pub returns-clause-marks : goal.returns-clause-marks
returns-clause-marks c = (let P : List ℕ → Type 0 = λ l. AreMarksIn l c.loop-node.marks.items in subst P (take_all c.loop-node.node-index c.args.order.now c.loop-node-test.false) c.loop-node.invariant.marks)
