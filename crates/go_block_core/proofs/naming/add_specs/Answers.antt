use Rattle.std.proofs.Common.{◌++◌, map, refl, sym, ap, ◌∙◌}
use Rattle.std.proofs.lemmas.List.{take_all}
use Rattle.go_tree_nodes.specs.Shapes.{shape_import_specs}
use Rattle.go_block_core.specs.Naming.{specs_in}
use Rattle.go_block_core.specs.mirrors.Shown.{spec_shown}
use Rattle.go_block_core.proofs.SpecLemmas.{line_spec, line_more, group_lines}
use Rattle.go_block_core.proofs.naming.add_specs.Goals as goal

pub loop-line-preserved : goal.loop-line-preserved
loop-line-preserved c = line_more c.loop-line.specs.items c.add-in-loop-line.new.all.items _ (map spec_shown c.args.specs.now.items) c.deref-line-items.result.now c.loop-line.line-index c.line-item.result c.loop-line-test.true c.line-item.is refl c.in_ok-add-in-Group.ensures c.loop-line.invariant

pub returns-after-loop-line : goal.returns-after-loop-line
returns-after-loop-line c =
    let all = take_all c.loop-line.line-index c.deref-line-items.result.now c.loop-line-test.false ∙ c.deref-line-items.ensures.value in
    let specs = ap (λ s. specs_in (shape_import_specs s)) c.in-Group.is ∙ group_lines c.in-Group.lines.items in
    c.loop-line.invariant ∙ ap (λ l. map spec_shown c.args.specs.now.items ++ l) (ap (map line_spec) all ∙ sym specs)
