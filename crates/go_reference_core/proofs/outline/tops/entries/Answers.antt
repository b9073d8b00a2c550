use Rattle.std.proofs.Common.{[], map}
use Rattle.std.proofs.lemmas.List.Folds.{flat_map-map}
use Rattle.go_tree_nodes.specs.declared.files.TopDecl.{TopDecl}
use Rattle.go_tree_nodes.specs.Shapes.{top_of}
use Rattle.go_reference_core.specs.outline.Outlines.{entry_shown, top_entries}
use Rattle.go_reference_core.proofs.OutlineAdding.{step, whole}
use Rattle.go_reference_core.proofs.outline.tops.entries.Goals as goal

pub loop-top-preserved : goal.loop-top-preserved
loop-top-preserved c = step (λ (top : TopDecl). top_entries (top_of top)) [] (map entry_shown c.loop-top.entries.items) (map entry_shown c.add_top.new.entries.items) [] c.deref-top-items.result.now c.loop-top.top-index c.top-item.result c.loop-top-test.true c.top-item.is c.loop-top.invariant c.in_ok-add_top.ensures

pub returns : goal.returns
returns c =
    let tops = c.args.tree.now.decls.items in
    whole (λ (top : TopDecl). top_entries (top_of top)) [] (map entry_shown c.loop-top.entries.items) [] c.deref-top-items.result.now tops c.loop-top.top-index _ c.deref-top-items.ensures.value c.loop-top-test.false (flat_map-map top_entries top_of tops) c.loop-top.invariant
