use Rattle.std.proofs.Common.{List, ℕ, ap, sym, subst, ◌∙◌}
use Rattle.std.specs.Prelude.{OnOk}
use Rattle.std.specs.List.{flat_map}
use Rattle.go_tree_nodes.specs.Shapes.{shape_import_specs}
use Rattle.go_graph_core.specs.Imports.{texts_in}
use Rattle.go_import_core.specs.list.mirrors.Visits.{IsTargetOf, Visits, line_texts}
use Rattle.go_import_core.proofs.ListVisited.{lines_texts}
use Rattle.go_import_core.proofs.list.reaching.visit_specs.Goals as goal

pub returns-in-Group : goal.returns-in-Group
returns-in-Group c =
    let all = ap (λ s. texts_in (shape_import_specs s)) c.in-Group.is ∙ (lines_texts c.in-Group.lines.items ∙ ap (flat_map line_texts) (sym c.deref.ensures.value)) in
    subst (λ (l : List (List ℕ)). OnOk c.visit_lines.result (Visits (IsTargetOf c.args.packages.now c.args.from.now l) c.args.marks.now c.visit_lines.new.marks c.args.stack.now.items c.visit_lines.new.stack.items)) (sym all) c.visit_lines.ensures
