use Rattle.std.proofs.Common.{◌++◌, ap, ◌∙◌}
use Rattle.std.proofs.lemmas.Result.{on_ok_weaker}
use Rattle.go_code_core.proofs.FragmentsLoops.{is_more}
use Rattle.go_code_core.proofs.FragmentsSlotted.{defined}
use Rattle.go_code_core.proofs.fragments.slots.add_defined.Goals as goal

pub returns-in_default : goal.returns-in_default
returns-in_default g c =
    let xs = c.args.idents.now in
    let more = is_more c.as_slice.result.now xs.more.items c.as_slice.ensures.value c.in_default.len_at_least in
    on_ok_weaker c.add_several.result (λ e. e ∙ ap (λ l. c.args.slots.now.items ++ l) (defined (g.N.CodeNames.looks c.args.names.now) xs.first xs.more.items more.first more.behind more.is)) c.add_several.ensures
