use Rattle.std.proofs.Common.{◌≡◌, ◌+◌, drop, sym, ap, ◌∙◌, arith, Ok, Err}
use Rattle.std.proofs.lemmas.List.{length-drop}
use Rattle.go_scan_core.specs.declared.enclosed.Flaw.TheVariants.{Forbidden}
use Rattle.go_scan_core.specs.mirrors.Enclosed.{behind, body}
use Rattle.go_token_core.proofs.EmptyLemmas.{filled, emptied}
use Rattle.go_scan_core.proofs.BodyLemmas.{behind-behind, body_end, body_none, body_step, end_within, item_within}
use Rattle.go_scan_core.proofs.enclosed.body_len.Goals as goal

pub split_at-requires : goal.split_at-requires
split_at-requires c = (item_within c.args.enclosure c.loop-rest.rest.now c.in-Characters.len (sym c.next_item.ensures ∙ c.in-Characters.is)).1

pub loop-rest-smaller : goal.loop-rest-smaller
loop-rest-smaller c =
    let inside = item_within c.args.enclosure c.loop-rest.rest.now c.in-Characters.len (sym c.next_item.ensures ∙ c.in-Characters.is) in
    omega (arith, inside, c.split_at.ensures.back_len)

pub loop-rest-preserved : goal.loop-rest-preserved
loop-rest-preserved c =
    let cs = c.loop-rest.rest.now in
    let n = c.in-Characters.len in
    let e = c.args.enclosure in
    let step = body_step e cs n (sym c.next_item.ensures ∙ c.in-Characters.is) in
    rw c.split_at.ensures.back (record {
      answer = sym (behind-behind c.loop-rest.count n (body e (drop n cs) 0)) ∙ ap (behind c.loop-rest.count) (sym step) ∙ c.loop-rest.invariant.answer;
      place = omega (arith, length-drop n cs, item_within e cs n (sym c.next_item.ensures ∙ c.in-Characters.is));
    })

pub returns-in-End-clause-value : goal.returns-in-End-clause-value
returns-in-End-clause-value c =
    let e = c.args.enclosure in
    let some = filled c.loop-rest.rest.now c.loop-rest-test.ensures in
    ap (λ n. Ok (c.loop-rest.count + n)) c.closing_len.ensures ∙ sym (ap (behind c.loop-rest.count) (body_end e c.loop-rest.rest.now _ some (sym c.next_item.ensures ∙ c.in-End.is))) ∙ c.loop-rest.invariant.answer

pub returns-in-End-clause-within : goal.returns-in-End-clause-within
returns-in-End-clause-within c = omega (arith, end_within c.args.enclosure c.loop-rest.rest.now (sym c.next_item.ensures ∙ c.in-End.is))

pub returns-in-Forbidden-clause-value : goal.returns-in-Forbidden-clause-value
returns-in-Forbidden-clause-value c =
    let some = filled c.loop-rest.rest.now c.loop-rest-test.ensures in
    let none : c.loop-rest.count ≡ c.loop-rest.count + 0 = omega arith in
    ap (λ n. Err (Forbidden n)) none ∙ sym (ap (behind c.loop-rest.count) (body_end c.args.enclosure c.loop-rest.rest.now _ some (sym c.next_item.ensures ∙ c.in-Forbidden.is))) ∙ c.loop-rest.invariant.answer

pub returns-in-Bad-clause-value : goal.returns-in-Bad-clause-value
returns-in-Bad-clause-value c =
    let some = filled c.loop-rest.rest.now c.loop-rest-test.ensures in
    sym (ap (behind c.loop-rest.count) (body_end c.args.enclosure c.loop-rest.rest.now _ some (sym c.next_item.ensures ∙ c.in-Bad.is))) ∙ c.loop-rest.invariant.answer

pub returns-in-Open-clause-value : goal.returns-in-Open-clause-value
returns-in-Open-clause-value c =
    let some = filled c.loop-rest.rest.now c.loop-rest-test.ensures in
    sym (ap (behind c.loop-rest.count) (body_end c.args.enclosure c.loop-rest.rest.now _ some (sym c.next_item.ensures ∙ c.in-Open.is))) ∙ c.loop-rest.invariant.answer

pub returns-clause-value : goal.returns-clause-value
returns-clause-value c =
    let none = emptied c.loop-rest.rest.now c.loop-rest-test.ensures in
    sym (ap (behind c.loop-rest.count) (body_none c.args.enclosure c.loop-rest.rest.now none)) ∙ c.loop-rest.invariant.answer
