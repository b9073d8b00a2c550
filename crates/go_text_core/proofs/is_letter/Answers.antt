use Rattle.std.proofs.Common.{◌||◌, ◌==◌, sym, ap, ◌∙◌}
use Rattle.go_text_core.proofs.Ascii.{ascii_letter}
use Rattle.go_text_core.proofs.is_letter.Goals as goal

pub returns-then-is_ascii_alphabetic : goal.returns-then-is_ascii_alphabetic
returns-then-is_ascii_alphabetic c =
    let yes = c.if-is_ascii_alphabetic.true in
    yes ∙ (ap (λ b. b || (c.args.c == 95)) (sym yes ∙ c.is_ascii_alphabetic.ensures.value) ∙ ascii_letter c.args.c (sym c.is_ascii.ensures ∙ c.if-is_ascii.true))
