use Rattle.std.proofs.Common.{ap, ◌∙◌}
use Rattle.std.specs.List.{flat_map}
use Rattle.std.proofs.lemmas.List.{take_all}
use Rattle.go_report_core.specs.usage.mirrors.Steps.{with_places}
use Rattle.go_report_core.proofs.UsagePlaces.{places_more}
use Rattle.go_report_core.proofs.UsageSteps.{all_blanks, decl_blanks}
use Rattle.go_report_core.proofs.usage.unused.add_all_blanks.Goals as goal

pub loop-import-preserved : goal.loop-import-preserved
loop-import-preserved c = places_more decl_blanks c.args.places.now.keys c.loop-import.places.keys _ c.deref-import-items.result.now c.loop-import.import-index c.import-item.result c.loop-import-test.true c.import-item.is c.loop-import.invariant c.in_ok-add_blanks.ensures

pub returns : goal.returns
returns c =
    let all = take_all c.loop-import.import-index c.deref-import-items.result.now c.loop-import-test.false ∙ c.deref-import-items.ensures.value in
    c.loop-import.invariant ∙ ap (with_places c.args.places.now.keys) (ap (flat_map decl_blanks) all ∙ all_blanks c.args.imports.now.items)
