use Rattle.std.proofs.Common.{Some, sym, ap, ◌∙◌}
use Rattle.go_block_core.proofs.WordLemmas.{text_yes, text_no}
use Rattle.go_block_core.proofs.word.as_text.Goals as goal

pub returns-in-Ok : goal.returns-in-Ok
returns-in-Ok c = ap Some c.in-Ok.ensures.cases.0 ∙ sym (text_yes c.args.bytes.now c.in-Ok.ensures.cases.1)

pub returns-in-Err : goal.returns-in-Err
returns-in-Err c = sym (text_no c.args.bytes.now _ c.in-Err.ensures.cases.1)
