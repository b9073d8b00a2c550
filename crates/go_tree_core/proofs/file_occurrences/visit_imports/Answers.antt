use Rattle.std.proofs.Common.{[]}
use Rattle.go_tree_core.proofs.OccLemmas.{import_decl_occs, imports_occs_list}
use Rattle.go_tree_core.proofs.Visits.{sees_step, sees_whole}
use Rattle.go_tree_core.proofs.file_occurrences.visit_imports.Goals as goal

pub loop-import-preserved : goal.loop-import-preserved
loop-import-preserved g c = sees_step g.V.Visitor.Sees import_decl_occs g.met.V.Visitor.sees_more [] c.deref-import-items.result.now c.loop-import.import-index c.import-item.result _ _ _ c.loop-import-test.true c.import-item.is c.loop-import.invariant c.visit_import_specs.ensures

pub returns : goal.returns
returns g c = sees_whole g.V.Visitor.Sees import_decl_occs [] c.deref-import-items.result.now c.args.imports.now.items c.loop-import.import-index _ _ _ c.deref-import-items.ensures.value c.loop-import-test.false (imports_occs_list c.args.imports.now.items) c.loop-import.invariant
