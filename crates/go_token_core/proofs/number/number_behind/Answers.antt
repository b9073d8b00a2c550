use Rattle.std.proofs.Common.{ℕ, ◌≡◌, ◌+◌, ◌*◌, ◌≤◌, refl, ◌∙◌, arith}
use Rattle.go_token_core.specs.Numbers.{next_number}
use Rattle.go_token_core.proofs.NumberLemmas.{next_is, no_digit, too_great, not_too_great}
use Rattle.go_token_core.proofs.number.number_behind.Goals as goal

le_same : (a b : ℕ) → a ≡ b → a ≤ b
le_same a b e = omega (arith, e)

pub returns-in_default-clause-value : goal.returns-in_default-clause-value
returns-in_default-clause-value c = not_too_great c.args.value _ (no_digit c.args.radix c.args.value c.args.c c.in_default.ensures.value) c.requires.small

pub returns-in_err-checked_mul-clause-value : goal.returns-in_err-checked_mul-clause-value
returns-in_err-checked_mul-clause-value c =
    let n : ℕ = c.args.value * c.from.result in
    let next : n + c.in-Some.digit ≡ next_number c.args.radix c.args.value c.args.c = next_is _ c.from.result c.args.value c.args.c n c.in-Some.digit _ c.in-Some.ensures.value.0 c.from.ensures refl c.in-Some.ensures.value.1 refl in
    c.from_residual.ensures ∙ too_great n _ (omega (arith, next)) (omega (arith, c.in_err-checked_mul.ensures))

pub returns-in_err-more-clause-value : goal.returns-in_err-more-clause-value
returns-in_err-more-clause-value c =
    let n : ℕ = c.in_ok-checked_mul.field-0 + c.from-2.result in
    let next : n ≡ next_number c.args.radix c.args.value c.args.c = next_is _ c.from.result c.args.value c.args.c c.in_ok-checked_mul.field-0 c.in-Some.digit c.from-2.result c.in-Some.ensures.value.0 c.from.ensures c.in_ok-checked_mul.ensures.1 c.in-Some.ensures.value.1 c.from-2.ensures in
    c.from_residual-in_err-more.ensures ∙ too_great n _ (omega (arith, next)) (omega (arith, c.in_err-more.ensures))

pub returns-then-more-gt-GREATEST-clause-value : goal.returns-then-more-gt-GREATEST-clause-value
returns-then-more-gt-GREATEST-clause-value c =
    let next = c.in_ok-more.ensures.1 ∙ next_is _ c.from.result c.args.value c.args.c c.in_ok-checked_mul.field-0 c.in-Some.digit c.from-2.result c.in-Some.ensures.value.0 c.from.ensures c.in_ok-checked_mul.ensures.1 c.in-Some.ensures.value.1 c.from-2.ensures in
    too_great c.in_ok-more.more _ (le_same _ _ next) c.if-more-gt-GREATEST.true

pub returns-else-more-gt-GREATEST-clause-value : goal.returns-else-more-gt-GREATEST-clause-value
returns-else-more-gt-GREATEST-clause-value c =
    let next = c.in_ok-more.ensures.1 ∙ next_is _ c.from.result c.args.value c.args.c c.in_ok-checked_mul.field-0 c.in-Some.digit c.from-2.result c.in-Some.ensures.value.0 c.from.ensures c.in_ok-checked_mul.ensures.1 c.in-Some.ensures.value.1 c.from-2.ensures in
    not_too_great c.in_ok-more.more _ next c.if-more-gt-GREATEST.false
