use Rattle.std.proofs.Common.{◌≡◌, ℕ, List, true, map, sym, ap, ◌∙◌}
use Rattle.go_tree_nodes.specs.declared.files.ImportLine.{ImportLine}
use Rattle.go_tree_nodes.specs.Shapes.{shape_import_specs}
use Rattle.go_import_core.specs.head.Heads.{spelled_in}
use Rattle.go_import_core.proofs.HeadTexts.{group_told, lines_spelled}
use Rattle.go_import_core.proofs.head.heads.is_same_specs.Goals as goal

pub returns-in-Group-Group : goal.returns-in-Group-Group
returns-in-Group-Group c =
    let g = c.in-Group-Group in
    let xs : List (List ℕ) = map (λ (l : ImportLine). l.spec.path.spelled) c.as_slice.result.now in
    let ys : List (List ℕ) = map (λ (l : ImportLine). l.spec.path.spelled) c.as_slice-in-Group-Group.result.now in
    let one : spelled_in (shape_import_specs c.args.one.now) ≡ (true, xs) =
    ap (λ s. spelled_in (shape_import_specs s)) g.is-0
    ∙ ap (λ (l : List (List ℕ)). (true, l)) (lines_spelled g.lines.items ∙ ap (map (λ (l : ImportLine). l.spec.path.spelled)) (sym c.as_slice.ensures.value)) in
    let other : spelled_in (shape_import_specs c.args.other.now) ≡ (true, ys) =
    ap (λ s. spelled_in (shape_import_specs s)) g.is-1
    ∙ ap (λ (l : List (List ℕ)). (true, l)) (lines_spelled g.others.items ∙ ap (map (λ (l : ImportLine). l.spec.path.spelled)) (sym c.as_slice-in-Group-Group.ensures.value)) in
    group_told c.same_lines.result xs ys (spelled_in (shape_import_specs c.args.one.now)) (spelled_in (shape_import_specs c.args.other.now)) one other c.same_lines.ensures
