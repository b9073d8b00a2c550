use Rattle.std.proofs.Common.{sym, ◌∙◌}
use Rattle.go_term_core.proofs.SameLists.{fails}
use Rattle.go_table_core.proofs.Underlying.{no_one, the_one}
use Rattle.go_table_core.proofs.alike.are_errors.Goals as goal

pub returns-then-len-ne1 : goal.returns-then-len-ne1
returns-then-len-ne1 c =
    let ms = c.args.methods.now in
    fails (λ h. no_one ms.items (λ one. c.if-len-ne1.true (c.len.ensures ∙ (ms.ok.0 ∙ one))) h)

pub returns : goal.returns
returns c =
    let ms = c.args.methods.now in
    the_one ms.items c.index.result.now c.is_error.result (sym (c.len.ensures ∙ ms.ok.0) ∙ c.if-len-ne1.false) c.index.ensures c.is_error.ensures
