use Rattle.std.proofs.Common.{length, sym, ◌∙◌}
use Rattle.go_doc_core.proofs.LineLemmas.{goes_on, stops}
use Rattle.go_doc_core.proofs.OrderLemmas.{ends_rise}
use Rattle.go_doc_core.proofs.RunLemmas.{climbed_next, finished, start_climb, starts_first}
use Rattle.go_doc_core.proofs.runs.run_above.Goals as goal

pub count_above-count-requires : goal.count_above-count-requires
count_above-count-requires c = λ i j d le lt. ends_rise c.args.comments.now 0 (length c.args.bytes.now) i j d c.requires.order le lt

pub comments-init : goal.comments-init
comments-init c =
    start_climb c.args.bytes.now c.args.comments.now c.args.at c.args.behind c.requires.order c.count_above-count.result c.requires.within c.count_above-count.ensures.bound c.count_above-count.ensures.split

pub read_above-state-requires-clause-order : goal.read_above-state-requires-clause-order
read_above-state-requires-clause-order c =
    let more = goes_on c.comments.count c.comments.state.ends (sym c.goes_on.ensures ∙ c.comments-test.true) in
    starts_first c.args.bytes.now c.args.comments.now c.args.at c.args.behind c.requires.order c.comments.count _ more.0 c.comments.invariant.bound

pub comments-preserved : goal.comments-preserved
comments-preserved c =
    let more = goes_on c.comments.count c.comments.state.ends (sym c.goes_on.ensures ∙ c.comments-test.true) in
    climbed_next c.args.bytes.now c.args.comments.now c.args.at c.args.behind c.requires.order c.comments.count c.comments.state c.read_above-state.result _ more.0 more.1 c.comments.invariant c.read_above-state.ensures

pub returns : goal.returns
returns c =
    finished c.args.bytes.now c.args.comments.now c.args.at c.args.behind c.requires.order c.comments.count c.comments.state c.comments.invariant
    (stops c.comments.count c.comments.state.ends (sym c.goes_on.ensures ∙ c.comments-test.false))
