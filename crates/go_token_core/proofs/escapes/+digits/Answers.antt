use Rattle.std.proofs.Common.{◌+◌, ◌*◌, ◌-◌, ◌<◌, inl, inr, length, refl, sym, ap, ◌∙◌, arith}
use Rattle.std.specs.Char.{digit_value}
use Rattle.std.proofs.lemmas.List.{get_or_read, take_rest}
use Rattle.go_token_core.specs.Escapes.{digits_at}
use Rattle.go_token_core.proofs.EscapeLemmas.{digits_refused, digits_taken}
use Rattle.go_token_core.proofs.escapes.+digits.Goals as goal

pub returns-in_default-clause-value : goal.returns-in_default-clause-value
returns-in_default-clause-value t c =
    let cs = c.args.text.now in
    let some : 0 < c.args.count = omega arith in
    let there : 0 < length cs = omega arith in
    let read = get_or_read cs 0 c.c-item.result there c.c-item.is 0 in
    sym (digits_refused cs c.args.limit c.args.radix c.args.count c.args.value c.c-item.result (digit_value c.c-item.result) some there read refl (inl (omega (arith, c.in_default.ensures.value))))

pub returns-then-more-limit-clause-value : goal.returns-then-more-limit-clause-value
returns-then-more-limit-clause-value t c =
    let cs = c.args.text.now in
    let some : 0 < c.args.count = omega arith in
    let there : 0 < length cs = omega arith in
    let read = get_or_read cs 0 c.c-item.result there c.c-item.is 0 in
    sym (digits_refused cs c.args.limit c.args.radix c.args.count c.args.value c.c-item.result c.in-Some.digit some there read c.in-Some.ensures.value.1 (inr c.if-more-limit.true))

pub returns-else-more-limit-clause-value : goal.returns-else-more-limit-clause-value
returns-else-more-limit-clause-value t c =
    let cs = c.args.text.now in
    let some : 0 < c.args.count = omega arith in
    let there : 0 < length cs = omega arith in
    let read = get_or_read cs 0 c.c-item.result there c.c-item.is 0 in
    let more = digits_taken cs c.args.limit c.args.radix c.args.count c.args.value c.c-item.result c.in-Some.digit some there read c.in-Some.ensures.value.1 (omega (arith, c.in-Some.ensures.value)) (omega arith) in
    c.digits.ensures.value ∙ ap (λ x. digits_at x c.args.limit c.args.radix (c.args.count - 1) (c.args.value * c.args.radix + c.in-Some.digit)) (take_rest cs 1) ∙ sym more
