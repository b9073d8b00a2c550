use Rattle.std.proofs.Common.{◌++◌, drop, sym, ap, ◌∙◌, arith, append_assoc}
use Rattle.std.proofs.lemmas.List.{append-nil, get_or_read}
use Rattle.go_token_core.specs.Values.{meaning_at, meaning_bytes, quoted_value}
use Rattle.go_token_core.proofs.EmptyLemmas.{filled, emptied}
use Rattle.go_token_core.proofs.ValueLemmas.{value_end, value_step}
use Rattle.go_token_core.proofs.value.unquote.Goals as goal

pub split_at-requires-in-loop-rest : goal.split_at-requires-in-loop-rest
split_at-requires-in-loop-rest c =
    let some = filled c.loop-rest.rest.now c.loop-rest-test.ensures in
    (value_step c.loop-rest.rest.now c.index-rest-0.result c.next_meaning-meaning.result some (get_or_read c.loop-rest.rest.now 0 c.index-rest-0.result some c.index-rest-0.is 0) (c.next_meaning-meaning.ensures ∙ ap (meaning_at c.index-rest-0.result) c.split_at.ensures.back)).1

pub loop-rest-smaller : goal.loop-rest-smaller
loop-rest-smaller c =
    let some = filled c.loop-rest.rest.now c.loop-rest-test.ensures in
    let step = value_step c.loop-rest.rest.now c.index-rest-0.result c.next_meaning-meaning.result some (get_or_read c.loop-rest.rest.now 0 c.index-rest-0.result some c.index-rest-0.is 0) (c.next_meaning-meaning.ensures ∙ ap (meaning_at c.index-rest-0.result) c.split_at.ensures.back) in
    omega (arith, step.0, step.1, c.split_at-in-loop-rest.ensures.back_len)

pub loop-rest-preserved : goal.loop-rest-preserved
loop-rest-preserved c =
    let some = filled c.loop-rest.rest.now c.loop-rest-test.ensures in
    let cs = c.loop-rest.rest.now in
    let m = c.next_meaning-meaning.result in
    let step = value_step cs c.index-rest-0.result m some (get_or_read cs 0 c.index-rest-0.result some c.index-rest-0.is 0) (c.next_meaning-meaning.ensures ∙ ap (meaning_at c.index-rest-0.result) c.split_at.ensures.back) in
    rw (c.in_ok-push_meaning.ensures, c.split_at-in-loop-rest.ensures.back) (append_assoc c.loop-rest.value.items (meaning_bytes m.0) (quoted_value (drop m.1 cs) 0) ∙ ap (λ x. c.loop-rest.value.items ++ x) (sym step.2) ∙ c.loop-rest.invariant)

pub returns : goal.returns
returns c =
    let none = emptied c.loop-rest.rest.now c.loop-rest-test.ensures in
    sym (append-nil c.loop-rest.value.items) ∙ ap (λ x. c.loop-rest.value.items ++ x) (sym (value_end c.loop-rest.rest.now none)) ∙ c.loop-rest.invariant
