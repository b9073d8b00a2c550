use Rattle.std.proofs.Common.{rules, refl, get_or}
use Rattle.std.proofs.lemmas.List.{get_or_default}
use Rattle.std.proofs.lemmas.List.Elements.{Contains-get_or}
use Rattle.go_digraph_core.specs.declared.cycle.edge.Edge.{Edge}
use Rattle.go_type_core.proofs.Looping.{marks_none, marks_more, marks_all}
use Rattle.go_type_core.proofs.looped.mark_loops.Goals as goal

pub loop-edge-init : goal.loop-edge-init
loop-edge-init c = marks_none _ _ _ _ (search rules) refl

pub returns : goal.returns
returns c = marks_all c.args.edges.now c.args.count _ c.loop-edge.edge-index c.loop-edge-test.false c.loop-edge.invariant

pub loop-edge-preserved : goal.loop-edge-preserved
loop-edge-preserved c =
    let x : Edge = get_or c.args.edges.now c.loop-edge.edge-index (record { from = 0; to = 0 }) in
    marks_more c.args.edges.now c.args.count c.loop-edge.marks.items c.mark_if.new.marks.items c.loop-edge.edge-index x c.is_on_cycle.result c.loop-edge-test.true
    (get_or_default c.args.edges.now c.loop-edge.edge-index (record { from = 0; to = 0 }) x c.loop-edge-test.true)
    ((c.requires.range c.loop-edge.edge-index (record { from = 0; to = 0 }) c.loop-edge-test.true).0)
    (c.is_on_cycle.ensures c.args.edges.now c.requires.ranking (Contains-get_or c.args.edges.now c.loop-edge.edge-index (record { from = 0; to = 0 }) c.loop-edge-test.true))
    c.mark_if.ensures c.loop-edge.invariant
