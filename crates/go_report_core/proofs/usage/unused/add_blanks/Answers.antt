use Rattle.std.proofs.Common.{ap, sym, ◌∙◌}
use Rattle.std.specs.List.{flat_map}
use Rattle.std.proofs.lemmas.List.{take_all}
use Rattle.go_tree_nodes.specs.Shapes.{shape_import_specs}
use Rattle.go_block_core.specs.Naming.{specs_in}
use Rattle.go_report_core.specs.usage.Used.{blank_place}
use Rattle.go_report_core.specs.usage.mirrors.Steps.{with_places}
use Rattle.go_report_core.proofs.UsagePlaces.{places_more}
use Rattle.go_report_core.proofs.UsageSteps.{group_blanks, line_blank}
use Rattle.go_report_core.proofs.usage.unused.add_blanks.Goals as goal

pub loop-line-preserved : goal.loop-line-preserved
loop-line-preserved c = places_more line_blank c.args.places.now.keys c.loop-line.places.keys _ c.deref-line-items.result.now c.loop-line.line-index c.line-item.result c.loop-line-test.true c.line-item.is c.loop-line.invariant c.in_ok-add_if_blank-in-Group.ensures

pub returns-after-loop-line : goal.returns-after-loop-line
returns-after-loop-line c =
    let all = take_all c.loop-line.line-index c.deref-line-items.result.now c.loop-line-test.false ∙ c.deref-line-items.ensures.value in
    let specs = ap (λ s. flat_map blank_place (specs_in (shape_import_specs s))) c.in-Group.is ∙ group_blanks c.in-Group.lines.items in
    c.loop-line.invariant ∙ ap (with_places c.args.places.now.keys) (ap (flat_map line_blank) all ∙ sym specs)
