use Rattle.std.proofs.Common.{map, sym, ap, ◌∙◌}
use Rattle.std.proofs.lemmas.List.{take_all}
use Rattle.go_tree_nodes.specs.Shapes.{file_of}
use Rattle.go_graph_core.specs.Packages.{trees_of}
use Rattle.go_typexpr_core.specs.entry.Outlines.{outline_of, outline_shown}
use Rattle.go_typexpr_core.proofs.EntryOutlining.{are_outlines, outline_more, outline_same}
use Rattle.go_typexpr_core.proofs.entry.files.outlines.Goals.{in-Ok+in_ok-outline-in-Ok+in_ok-add-in-Ok, in-Err}
use Rattle.go_typexpr_core.proofs.entry.files.outlines.Goals as goal

pub loop-file-preserved : goal.loop-file-preserved
loop-file-preserved c = elim c.match-tree.branch [
  | in-Ok+in_ok-outline-in-Ok+in_ok-add-in-Ok w ↦
      outline_more c.args.files.now c.loop-file.file-index c.file-item.result (file_of w.in-Ok.tree.now) w.in_ok-outline-in-Ok.outline c.loop-file.outlines.items c.match-tree.outlines.items c.loop-file-test.true c.file-item.is
      (sym w.in-Ok.ensures.value) w.in_ok-outline-in-Ok.ensures.places w.in_ok-outline-in-Ok.ensures.decls (ap (λ v. v.items) w.outlines-is ∙ w.in_ok-add-in-Ok.ensures) c.loop-file.invariant
  | in-Err w ↦
      outline_same c.args.files.now c.loop-file.file-index c.file-item.result w.in-Err.field-0 c.match-tree.outlines.items c.loop-file-test.true c.file-item.is (sym w.in-Err.ensures.value)
      (ap (λ v. map outline_shown v.items) w.outlines-is ∙ c.loop-file.invariant)
]

pub returns-clause-each : goal.returns-clause-each
returns-clause-each c = are_outlines (map outline_shown c.loop-file.outlines.items) (trees_of c.args.files.now) (c.loop-file.invariant ∙ ap (λ fs. map (λ t. outline_of t.1) (trees_of fs)) (take_all c.loop-file.file-index c.args.files.now c.loop-file-test.false))
