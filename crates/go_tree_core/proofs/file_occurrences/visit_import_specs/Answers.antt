use Rattle.std.proofs.Common.{[], ap, ◌∙◌}
use Rattle.go_tree_nodes.specs.Shapes.{shape_import_spec, shape_import_line, shape_import_specs}
use Rattle.go_tree_core.specs.Occurrences.{import_occs, specs_occs}
use Rattle.go_tree_core.proofs.OccLemmas.{group_occs_list}
use Rattle.go_tree_core.proofs.Visits.{sees_step, sees_whole}
use Rattle.go_tree_core.proofs.file_occurrences.visit_import_specs.Goals as goal

pub loop-line-preserved : goal.loop-line-preserved
loop-line-preserved g c = sees_step g.V.Visitor.Sees (λ line. import_occs (shape_import_spec line.spec)) g.met.V.Visitor.sees_more [] c.deref-line-items.result.now c.loop-line.line-index c.line-item.result _ _ _ c.loop-line-test.true c.line-item.is c.loop-line.invariant c.visit_import-in-loop-line.ensures

pub returns-after-loop-line : goal.returns-after-loop-line
returns-after-loop-line g c = sees_whole g.V.Visitor.Sees (λ line. import_occs (shape_import_spec line.spec)) [] c.deref-line-items.result.now c.in-Group.lines.items c.loop-line.line-index _ _ _ c.deref-line-items.ensures.value c.loop-line-test.false (ap (λ s. specs_occs import_occs (shape_import_specs s)) c.in-Group.is ∙ group_occs_list import_occs shape_import_line c.in-Group.lines.items) c.loop-line.invariant
