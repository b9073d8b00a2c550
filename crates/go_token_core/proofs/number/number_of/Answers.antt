use Rattle.std.proofs.Common.{sym, ◌∙◌, arith}
use Rattle.go_token_core.proofs.NumberLemmas.{above_all}
use Rattle.go_token_core.proofs.number.number_of.Goals as goal

pub returns-in_err-value : goal.returns-in_err-value
returns-in_err-value g c =
    c.from_residual.ensures ∙ above_all g.C.AsCharacter.code c.args.radix c.args.text.now c.loop-c.c-index c.c-item.result c.loop-c.value c.character.result c.loop-c-test.true (omega (arith, c.requires.low)) c.loop-c.invariant.value c.c-item.is c.character.ensures (sym c.in_err-value.ensures.value)
