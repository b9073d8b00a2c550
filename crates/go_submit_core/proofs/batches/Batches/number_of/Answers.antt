use Rattle.std.proofs.Common.{◌≡◌, ◌+◌, ◌-◌, true, false, take, sym, ap, ◌∙◌, arith}
use Rattle.go_submit_core.specs.declared.published.PublishedBatch.{PublishedBatch}
use Rattle.go_submit_core.specs.Published.{number_of}
use Rattle.go_submit_core.specs.Submitted.{has_ticket}
use Rattle.go_submit_core.proofs.Lists.{never_none}
use Rattle.go_submit_core.proofs.Numbers.{number_all, number_here, number_on}
use Rattle.go_submit_core.proofs.batches.Batches.number_of.Goals as goal

pub loop-back-init : goal.loop-back-init
loop-back-init c = number_all c.args.ticket.0 c.args.self.now (c.len-count.result - 0) (omega (arith, c.len-count.ensures))

pub returns-then-has_ticket : goal.returns-then-has_ticket
returns-then-has_ticket c =
    let n = c.args.ticket.0 in
    let bs = c.args.self.now in
    let place = c.len-count.result - 1 - c.loop-back.back in
    let b : PublishedBatch = c.in-Some.batch.now in
    let has : has_ticket n b.submissions ≡ true = ap (has_ticket n) (sym (c.as_slice.ensures ∙ c.submissions.ensures)) ∙ sym c.has_ticket.ensures ∙ c.if-has_ticket.true in
    let same : place + 1 ≡ c.len-count.result - c.loop-back.back = omega (arith, c.loop-back-test.true) in
    sym (number_here n bs place b (sym c.in-Some.ensures.value) has) ∙ ap (λ k. number_of n (take k bs)) same ∙ c.loop-back.invariant

pub unreachable-requires : goal.unreachable-requires
unreachable-requires c = never_none c.args.self.now (c.len-count.result - 1 - c.loop-back.back) (omega (arith, c.loop-back-test.true, c.len-count.ensures)) (sym c.in-None.ensures.value)

pub loop-back-preserved : goal.loop-back-preserved
loop-back-preserved c =
    let n = c.args.ticket.0 in
    let bs = c.args.self.now in
    let place = c.len-count.result - 1 - c.loop-back.back in
    let b : PublishedBatch = c.in-Some.batch.now in
    let has : has_ticket n b.submissions ≡ false = ap (has_ticket n) (sym (c.as_slice.ensures ∙ c.submissions.ensures)) ∙ sym c.has_ticket.ensures ∙ c.if-has_ticket.false in
    let same : place + 1 ≡ c.len-count.result - c.loop-back.back = omega (arith, c.loop-back-test.true) in
    let next : c.len-count.result - (c.loop-back.back + 1) ≡ place = omega (arith, c.loop-back-test.true) in
    ap (λ k. number_of n (take k bs)) next ∙ sym (number_on n bs place b (sym c.in-Some.ensures.value) has) ∙ ap (λ k. number_of n (take k bs)) same ∙ c.loop-back.invariant
