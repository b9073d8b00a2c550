use Rattle.std.proofs.Common.{List, ℕ, subst}
use Rattle.std.specs.Prelude.{◌↔◌, IsTrue}
use Rattle.std.proofs.lemmas.Result.{IfOk-weaker}
use Rattle.go_reference_core.specs.rename.Moving.{moves_of, names_in}
use Rattle.go_reference_core.specs.rename.Renaming.{IsRenamedText, name_parts}
use Rattle.go_reference_core.proofs.RenameRetold.{other_name, whole_file}
use Rattle.go_reference_core.proofs.rename.texts.is_renamed_file.Goals as goal

pub returns-then-not-has_same_name : goal.returns-then-not-has_same_name
returns-then-not-has_same_name c = other_name (moves_of c.args.names.now) c.args.new.now c.args.«package» c.args.file c.args.own.now c.args.its.now c.has_same_name.result c.if-not-has_same_name.true c.has_same_name.ensures

pub returns : goal.returns
returns c =
    let m = moves_of c.args.names.now in
    let new = c.args.new.now in
    let own = c.args.own.now in
    let its = c.args.its.now in
    IfOk-weaker c.is_renamed_text.result _ _
    (λ b h.
    whole_file m new c.args.«package» c.args.file own its c.has_same_name.result b c.if-not-has_same_name.false c.has_same_name.ensures
    (subst (λ (t : List ℕ). IsTrue b ↔ IsRenamedText own.text (name_parts m.old new (names_in m c.args.«package» c.args.file)) t) c.text-has.ensures
    (subst (λ (t : List ℕ). IsTrue b ↔ IsRenamedText t (name_parts m.old new (names_in m c.args.«package» c.args.file)) c.text-has.result.now) c.text-had.ensures
    (subst (λ (l : List ℕ). IsTrue b ↔ IsRenamedText c.text-had.result.now (name_parts m.old new l) c.text-has.result.now) c.offsets_in-offsets.ensures h))))
    c.is_renamed_text.ensures
