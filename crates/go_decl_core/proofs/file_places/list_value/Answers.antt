use Rattle.std.proofs.Common.{ap, ◌∙◌}
use Rattle.std.proofs.lemmas.List.Folds.{flat_map-map}
use Rattle.go_tree_nodes.specs.declared.decls.ValueLine.{ValueLine}
use Rattle.go_tree_nodes.specs.Shapes.{shape_value_line, shape_value_specs}
use Rattle.go_decl_core.specs.Outer.{value_spec_outers}
use Rattle.go_decl_core.specs.TopDecls.{value_spec_decls, specs_decls}
use Rattle.go_decl_core.proofs.Listed.{lists_step, lists_whole}
use Rattle.go_decl_core.proofs.ListLemmas.{numbered_map}
use Rattle.go_decl_core.proofs.file_places.list_value.Goals as goal
use Rattle.go_tree_nodes.specs.Trees.{of_specs}

pub loop-line-preserved : goal.loop-line-preserved
loop-line-preserved c =
    let k = c.args.value.now.kind in
    lists_step (λ (line : ValueLine). value_spec_outers k (shape_value_line line).0) (λ n line. value_spec_decls k n (shape_value_line line).0) _ _ c.deref-line-items.result.now c.loop-line.line-index c.line-item.result c.loop-line-test.true c.line-item.is c.loop-line.invariant c.list_value_spec-in-loop-line.ensures

pub returns-after-loop-line : goal.returns-after-loop-line
returns-after-loop-line c =
    let k = c.args.value.now.kind in
    let lines = c.in-Group.lines.items in
    lists_whole (λ (line : ValueLine). value_spec_outers k (shape_value_line line).0) (λ n line. value_spec_decls k n (shape_value_line line).0) _ _ c.deref-line-items.result.now lines c.loop-line.line-index _ _ c.deref-line-items.ensures.value c.loop-line-test.false
    (ap (λ s. of_specs (value_spec_outers k) (shape_value_specs s)) c.in-Group.is ∙ flat_map-map (λ l. value_spec_outers k l.0) shape_value_line lines)
    (λ n. ap (λ s. specs_decls (value_spec_outers k) (value_spec_decls k) n (shape_value_specs s)) c.in-Group.is ∙ numbered_map (λ l. value_spec_outers k l.0) (λ n l. value_spec_decls k n l.0) shape_value_line n lines)
    c.loop-line.invariant
