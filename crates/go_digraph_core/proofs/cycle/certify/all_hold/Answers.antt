use Rattle.std.proofs.Common.{List, All, get_or, take, subst, sym, ◌∙◌, refl}
use Rattle.std.proofs.lemmas.List.{take_all, take_more}
use Rattle.std.proofs.lemmas.List.Elements.{All-push}
use Rattle.go_digraph_core.specs.declared.cycle.edge.Edge.{Edge}
use Rattle.go_digraph_core.specs.cycle.mirrors.Certificate.{Holds}
use Rattle.go_digraph_core.proofs.cycle.certify.all_hold.Goals as goal

pub loop-edge-preserved : goal.loop-edge-preserved
loop-edge-preserved c =
    let edges : List Edge = c.args.edges.now in
    let P : Edge → Type 0 = Holds c.args.ranks.now c.args.roots.now c.args.out.now c.args.back.now in
    let none : Edge = record { from = 0; to = 0 } in
    let A : List Edge → Type 0 = λ l. All P l in
    subst A (sym (take_more edges c.loop-edge.edge-index none c.loop-edge-test.true))
    (All-push P (take c.loop-edge.edge-index edges) (get_or edges c.loop-edge.edge-index none) c.loop-edge.invariant (c.holds_at.ensures.0 c.if-not-holds_at.false))

pub returns : goal.returns
returns c =
    let P : Edge → Type 0 = Holds c.args.ranks.now c.args.roots.now c.args.out.now c.args.back.now in
    let A : List Edge → Type 0 = λ l. All P l in
    ((λ yes. subst A (take_all c.loop-edge.edge-index c.args.edges.now c.loop-edge-test.false) c.loop-edge.invariant), (λ all. refl))

pub returns-then-not-holds_at : goal.returns-then-not-holds_at
returns-then-not-holds_at c =
    let none : Edge = record { from = 0; to = 0 } in
    ((λ yes. absurd (cc)), (λ all. sym c.if-not-holds_at.true ∙ c.holds_at.ensures.1 (all c.loop-edge.edge-index none c.loop-edge-test.true)))
