use Rattle.std.proofs.Common.{◌++◌, ◌||◌, ap, ◌∙◌}
use Rattle.std.proofs.lemmas.Result.{on_ok_weaker}
use Rattle.go_collections_core.specs.text_core.Text.{is_blank}
use Rattle.go_collections_core.specs.text_core.declared.rule.Rule.TheVariants as rules
use Rattle.go_embed_core.specs.Faults.{member_fault_if}
use Rattle.go_embed_core.proofs.faults.check_method.Goals as goal

pub returns-clause-names : goal.returns-clause-names
returns-clause-names c = on_ok_weaker c.note_if.result (λ _. c.in_ok-is_met.ensures.ok) c.note_if.ensures

pub returns-clause-faults : goal.returns-clause-faults
returns-clause-faults c =
    let m = c.args.method.now in
    on_ok_weaker c.note_if.result
    (λ e. e ∙ ap (λ b. c.args.faults.now.items ++ member_fault_if b m.place rules.B5) (c.is_second.ensures ∙ ap (λ b. is_blank m.name || b) c.in_ok-is_met.ensures.before))
    c.note_if.ensures
