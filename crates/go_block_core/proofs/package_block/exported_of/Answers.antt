use Rattle.std.proofs.Common.{◌≡◌, [], ◌∷◌, ◌++◌, Vec, map, sym, ap, ◌∙◌}
use Rattle.std.specs.Prelude.{string_bytes}
use Rattle.std.specs.Global.{Global}
use Rattle.std.specs.Str.{chars}
use Rattle.std.proofs.lemmas.List.{drop_all}
use Rattle.go_tree_nodes.specs.text_core.Text.{exported}
use Rattle.go_block_core.specs.Exports.{name_and_decl, exported_names}
use Rattle.go_block_core.specs.declared.exports.NamedDecl.{NamedDecl}
use Rattle.go_block_core.proofs.TableLemmas.{all_listed, entry_of, exported_kept, exported_left_out, left_at}
use Rattle.go_block_core.proofs.package_block.exported_of.Goals as goal
use Rattle.go_block_core.proofs.package_block.exported_of.Goals.{then-is_exported+in_ok-add_entry, else-is_exported}

pub loop-name-init : goal.loop-name-init
loop-name-init c = ap (λ ns. map name_and_decl ns ++ exported_names (map entry_of c.entries-name-items.result.now)) c.new-names.ensures.items ∙ ap exported_names c.entries-name-items.ensures

pub loop-name-preserved : goal.loop-name-preserved
loop-name-preserved c =
    let e = c.loop-name-item.result in
    let old = map name_and_decl c.loop-name.names.items in
    let shown = λ (v : Vec NamedDecl Global). map name_and_decl v.items in
    let step = left_at c.entries-name-items.result.now c.loop-name.name-index e c.loop-name-test.true c.loop-name-item.is in
    let named : exported (chars (string_bytes e.0)) ≡ c.is_exported.result = ap (λ name. exported (chars name)) (sym c.as_str-name.ensures.value) ∙ sym c.is_exported.ensures in
    elim c.if-is_exported.branch [
      | then-is_exported+in_ok-add_entry w ↦
          let more = ap shown w.names-is ∙ (w.in_ok-add_entry.ensures ∙ ap (λ name. old ++ (name, e.1) ∷ []) c.as_str-name.ensures.value) in
          exported_kept old _ _ e _ step (named ∙ w.if-is_exported.true) _ more c.loop-name.invariant
      | else-is_exported w ↦
          exported_left_out old _ _ e _ step (named ∙ w.if-is_exported.false) _ (ap shown w.names-is) c.loop-name.invariant
    ]

pub returns : goal.returns
returns c = all_listed (map name_and_decl c.loop-name.names.items) _ _ (ap (λ es. exported_names (map entry_of es)) (drop_all c.loop-name.name-index c.entries-name-items.result.now c.loop-name-test.false)) c.loop-name.invariant
