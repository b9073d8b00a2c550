use Rattle.std.proofs.Common.{◌≡◌, ◌<◌, ◌+◌, ◌-◌, ◌++◌, ℕ, suc, List, length, get_or, take, drop, sym, ap, ◌∙◌, subst, arith}
use Rattle.std.proofs.lemmas.Grind.{get_or_default_zero}
use Rattle.go_digraph_core.specs.ready_queue.mirrors.Counting.{times, once}
use Rattle.go_digraph_core.proofs.ReadyQueueTimes.{times_last, times_remove, some_has_one}
use Rattle.go_digraph_core.proofs.ready_queue.counts.take_out.Goals as goal

pub returns-then-index-node-clause-each : goal.returns-then-index-node-clause-each
returns-then-index-node-clause-each c = λ n.
    let queue = c.args.queue.now.items in
    let last = c.len-last.result - 1 in
    let some : 0 < length queue = some_has_one c.args.node queue (omega (arith, c.requires)) in
    let end : last + 1 ≡ length queue = omega (arith, c.len-last.ensures, some) in
    let there : get_or queue last 0 ≡ c.args.node = sym (get_or_default_zero queue last c.index.result.now (omega (arith, end))) ∙ sym c.index.ensures ∙ c.if-index-node.true in
    ap (λ q. times n q + once n c.args.node) c.truncate.ensures.items ∙ ap (λ k. times n (take last queue) + once n k) (sym there) ∙ times_last n queue last end

pub returns-else-index-node-clause-each : goal.returns-else-index-node-clause-each
returns-else-index-node-clause-each c = λ n.
    let queue = c.args.queue.now.items in
    let place = c.place_of-place.result in
    ap (λ q. times n q + once n c.args.node) c.remove.ensures.items ∙ ap (λ k. times n (take place queue ++ drop (suc place) queue) + once n k) (sym (sym (ap (λ q. get_or q place 0) c.deref.ensures.value) ∙ c.place_of-place.ensures.here)) ∙ times_remove n queue place (subst (λ (q : List ℕ). place < length q) c.deref.ensures.value c.place_of-place.ensures.within)
