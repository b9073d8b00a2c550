use Rattle.std.proofs.Common.{ap, ◌∙◌}
use Rattle.std.proofs.lemmas.List.Folds.{flat_map-map}
use Rattle.go_tree_nodes.specs.declared.decls.TypeLine.{TypeLine}
use Rattle.go_tree_nodes.specs.Shapes.{shape_type_line, shape_type_specs}
use Rattle.go_decl_core.specs.Outer.{type_spec_outers}
use Rattle.go_decl_core.specs.TopDecls.{type_spec_decls, specs_decls}
use Rattle.go_decl_core.proofs.Listed.{lists_step, lists_whole}
use Rattle.go_decl_core.proofs.ListLemmas.{numbered_map}
use Rattle.go_decl_core.proofs.file_places.list_types.Goals as goal
use Rattle.go_tree_nodes.specs.Trees.{of_specs}

pub loop-line-preserved : goal.loop-line-preserved
loop-line-preserved c = lists_step (λ (line : TypeLine). type_spec_outers (shape_type_line line).0) (λ n line. type_spec_decls n (shape_type_line line).0) _ _ c.deref-line-items.result.now c.loop-line.line-index c.line-item.result c.loop-line-test.true c.line-item.is c.loop-line.invariant c.list_type_spec-in-loop-line.ensures

pub returns-after-loop-line : goal.returns-after-loop-line
returns-after-loop-line c =
    let lines = c.in-Group.lines.items in
    lists_whole (λ (line : TypeLine). type_spec_outers (shape_type_line line).0) (λ n line. type_spec_decls n (shape_type_line line).0) _ _ c.deref-line-items.result.now lines c.loop-line.line-index _ _ c.deref-line-items.ensures.value c.loop-line-test.false
    (ap (λ s. of_specs type_spec_outers (shape_type_specs s)) c.in-Group.is ∙ flat_map-map (λ l. type_spec_outers l.0) shape_type_line lines)
    (λ n. ap (λ s. specs_decls type_spec_outers type_spec_decls n (shape_type_specs s)) c.in-Group.is ∙ numbered_map (λ l. type_spec_outers l.0) (λ n l. type_spec_decls n l.0) shape_type_line n lines)
    c.loop-line.invariant
