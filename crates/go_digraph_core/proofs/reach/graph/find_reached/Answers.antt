use Rattle.std.proofs.Common.{◌≡◌, ◌<◌, ◌++◌, List, ℕ, All, length, subst, sym, ap, ◌∙◌}
use Rattle.std.proofs.lemmas.List.{take_at}
use Rattle.std.proofs.lemmas.List.Elements.{All-append}
use Rattle.go_digraph_core.specs.reach.Numbers.{Numbers}
use Rattle.go_digraph_core.specs.reach.Reach.{AreReachSets}
use Rattle.go_digraph_core.specs.reach.mirrors.Filling.{EndsComeFirst, IsReachSetAt}
use Rattle.go_digraph_core.proofs.ReachFilled.{ends_come_first, all_filled}
use Rattle.go_digraph_core.proofs.reach.graph.find_reached.Goals as goal

pub fill-requires-clause-nodes : goal.fill-requires-clause-nodes
fill-requires-clause-nodes c =
    let P : List ℕ → Type 0 = λ l. All (λ n. n < length c.deref_mut.result.now) l in
    let Q : ℕ → Type 0 = λ m. All (λ n. n < m) (c.args.order.now ++ c.in_ok-nodes.ensures.others) in
    let len : length c.deref_mut.result.now ≡ c.args.count = ap length c.deref_mut.ensures.value ∙ c.in_ok-sets.ensures.len in
    subst P (sym (c.deref.ensures.value ∙ c.in_ok-nodes.ensures.is)) (subst Q (sym len) (All-append (λ n. n < c.args.count) c.args.order.now c.in_ok-nodes.ensures.others c.requires.order c.in_ok-nodes.ensures.below))

pub fill-requires-clause-before : goal.fill-requires-clause-before
fill-requires-clause-before c =
    let P : List ℕ → Type 0 = λ l. EndsComeFirst c.args.edges.now l in
    subst P (sym (c.deref.ensures.value ∙ c.in_ok-nodes.ensures.is)) (ends_come_first c.args.edges.now c.args.order.now c.in_ok-nodes.ensures.others c.requires.before)

pub returns-clause-sets : goal.returns-clause-sets
returns-clause-sets c =
    let kept : length c.fill.new.sets ≡ c.in_ok-sets.sets.len = c.fill.auto.sets ∙ c.deref_mut.ensures.len in
    let len : length c.fill.new.sets ≡ c.args.count = c.fill.auto.sets ∙ (ap length c.deref_mut.ensures.value ∙ c.in_ok-sets.ensures.len) in
    let P : List Numbers → Type 0 = λ l. AreReachSets c.args.edges.now l in
    let Q : List ℕ → Type 0 = λ l. All (IsReachSetAt c.args.edges.now c.fill.new.sets) l in
    subst P (sym (take_at c.fill.new.sets _ _ kept))
    (all_filled c.args.edges.now c.in_ok-nodes.nodes.items c.args.count c.fill.new.sets len c.in_ok-nodes.ensures.all (subst Q c.deref.ensures.value c.in_ok-fill.ensures.sets))
