use Rattle.std.proofs.Common.{◌++◌, not, ◌&&◌, ap, ◌∙◌}
use Rattle.std.proofs.lemmas.Result.{on_ok_weaker}
use Rattle.go_collections_core.specs.text_core.Text.{is_blank}
use Rattle.go_collections_core.specs.text_core.declared.rule.Rule.TheVariants as rules
use Rattle.go_embed_core.specs.Faults.{member_fault_if}
use Rattle.go_embed_core.proofs.Noting.{both_notes}
use Rattle.go_embed_core.proofs.faults.check_field.Goals as goal

pub returns-clause-names : goal.returns-clause-names
returns-clause-names g c = on_ok_weaker c.note_if-2.result (λ _. c.in_ok-is_met.ensures.ok) c.note_if-2.ensures

pub returns-clause-faults : goal.returns-clause-faults
returns-clause-faults g c =
    let f = c.args.field.now in
    let first = c.args.faults.now.items in
    let middle = c.note_if.new.faults.items in
    on_ok_weaker c.note_if-2.result
    (λ e. both_notes first middle _ _ _
    (c.in_ok-note_if.ensures ∙ ap (λ b. first ++ member_fault_if b f.place rules.B5) (c.is_repeated.ensures ∙ ap (λ b. not (is_blank f.name) && b) c.in_ok-is_met.ensures.before))
    (e ∙ ap (λ b. middle ++ member_fault_if b f.place rules.Y2) c.is_refused.ensures))
    c.note_if-2.ensures
