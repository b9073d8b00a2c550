use Rattle.std.proofs.Common.{◌≡◌, Vec, map, ap, subst, ◌∙◌, arith}
use Rattle.std.specs.Global.{Global}
use Rattle.std.specs.Prelude.{MatchOption, Option}
use Rattle.std.proofs.lemmas.Result.{IfOk-weaker}
use Rattle.go_lsp_core.specs.declared.edits.edits.Edit.{Edit}
use Rattle.go_lsp_core.specs.edits.Edits.{part_of}
use Rattle.go_reference_core.specs.rename.Renaming.{HasNoEnd, name_parts}
use Rattle.go_reference_core.proofs.RenameRetold.{as_renamed, no_end}
use Rattle.go_reference_core.proofs.rename.texts.is_renamed_text.Goals as goal

pub returns-in-Some : goal.returns-in-Some
returns-in-Some c =
    let len = c.args.len in
    let new = c.args.new.now in
    let offsets = c.args.offsets.now in
    let made = subst (λ (o : Option (Vec Edit Global)). MatchOption o (HasNoEnd len offsets) (λ es. map part_of es.items ≡ name_parts len new offsets)) c.in-Some.is c.in_ok-made.ensures in
    IfOk-weaker c.is_edited.result _ _ (λ b h. as_renamed b c.args.text.now c.args.other.now (map part_of c.deref.result.now) (name_parts len new offsets) (ap (map part_of) c.deref.ensures.value ∙ made) h) c.is_edited.ensures

pub returns-in-None : goal.returns-in-None
returns-in-None c =
    let len = c.args.len in
    let new = c.args.new.now in
    let offsets = c.args.offsets.now in
    let none = subst (λ (o : Option (Vec Edit Global)). MatchOption o (HasNoEnd len offsets) (λ es. map part_of es.items ≡ name_parts len new offsets)) c.in-None.is c.in_ok-made.ensures in
    no_end c.args.text.now new c.args.other.now len offsets (omega arith) none
