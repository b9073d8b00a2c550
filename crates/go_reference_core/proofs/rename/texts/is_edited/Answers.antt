use Rattle.std.proofs.Common.{◌≡◌, inl, inr, map, sym, ◌∙◌}
use Rattle.std.proofs.lemmas.Result.{IfOk-weaker}
use Rattle.go_lsp_core.specs.declared.edits.edits.EditFault.{EditFault}
use Rattle.go_lsp_core.specs.declared.edits.edits.EditFault.TheVariants.{Memory, Misplaced}
use Rattle.go_lsp_core.specs.edits.Edits.{Stand, edited, part_of}
use Rattle.go_reference_core.proofs.RenameRetold.{made_same, misplaced}
use Rattle.go_reference_core.proofs.rename.texts.is_edited.Goals as goal

-- no fault is both
not_both : (f : EditFault) → f ≡ Memory → f ≡ Misplaced → ⊥
not_both f memory other = (let no : Memory ≡ Misplaced = sym memory ∙ other in cc)

pub returns-in-Ok : goal.returns-in-Ok
returns-in-Ok c =
    let parts = map part_of c.args.edits.now in
    let text = c.args.text.now in
    made_same c.is_same_text.result c.as_str.result.now c.args.other.now (edited text parts) (Stand text 0 parts) c.in-Ok.ensures.ok.0 (c.as_str.ensures.value ∙ c.in-Ok.ensures.ok.1) c.is_same_text.ensures

pub returns-in-Err : goal.returns-in-Err
returns-in-Err c =
    let parts = map part_of c.args.edits.now in
    let text = c.args.text.now in
    IfOk-weaker c.not_edited.result _ _
    (λ b h. misplaced b (Stand text 0 parts) (c.args.other.now ≡ edited text parts) h.0 (elim c.in-Err.ensures.err [ inl memory ↦ (λ stand. not_both c.in-Err.fault memory h.1) | inr none ↦ none.1 ]))
    c.not_edited.ensures
