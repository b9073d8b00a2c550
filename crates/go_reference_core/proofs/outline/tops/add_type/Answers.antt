use Rattle.std.proofs.Common.{false, ◌≡◌, ◌++◌, ◌∷◌, [], map, ap, append_assoc, List, ◌∙◌}
use Rattle.std.proofs.lemmas.Result.{on_ok_weaker}
use Rattle.go_tree_nodes.specs.TypeShapes.{shape_type}
use Rattle.go_reference_core.specs.declared.outline.items.EntryKind.{EntryKind}
use Rattle.go_reference_core.specs.outline.Outlines.{EntryTree, entry, entry_shown, kind_of_type, members_of}
use Rattle.go_reference_core.proofs.outline.tops.add_type.Goals as goal

pub returns : goal.returns
returns c =
    let first = map entry_shown c.args.entries.now.items in
    let p = c.args.part in
    let t = c.args.spec.now in
    let members = members_of (shape_type t.type_expr) in
    let head = entry t.name (kind_of_type (shape_type t.type_expr)) false p.start p.end p.end in
    let put : map entry_shown c.put.new.entries.items ≡ first ++ head ∷ [] =
    c.in_ok-put.ensures ∙ (ap (λ (x : EntryTree). first ++ x ∷ []) c.named.ensures ∙ ap (λ (k : EntryKind). first ++ entry t.name k false p.start p.end p.end ∷ []) c.kind_of_type-kind.ensures) in
    on_ok_weaker c.add_members.result (λ e. e ∙ (ap (λ (l : List EntryTree). l ++ members) put ∙ append_assoc first (head ∷ []) members)) c.add_members.ensures
