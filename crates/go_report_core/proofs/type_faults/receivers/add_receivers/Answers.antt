use Rattle.std.proofs.Common.{◌++◌, map, ap, ◌∙◌}
use Rattle.go_term_core.specs.decl_core.Shown.{decl_shown}
use Rattle.go_summary_core.specs.typexpr_core.EntryEntries.{package_meanings}
use Rattle.go_summary_core.specs.typexpr_core.EntryMeanings.{raw}
use Rattle.go_summary_core.specs.typexpr_core.EntryOutlines.{outline_shown}
use Rattle.go_report_core.specs.type_faults.TypeFaults.{file_receivers}
use Rattle.go_report_core.proofs.TypeFaultsAdding.{numbered_step}
use Rattle.go_report_core.proofs.type_faults.receivers.add_receivers.Goals as goal

pub loop-file-preserved : goal.loop-file-preserved
loop-file-preserved g c =
    let raws = package_meanings (raw (g.P.ImportedNames.shows c.args.imported.now)) c.args.path.now c.args.blocks.now in
    let means = package_meanings (g.P.ImportedNames.shows c.args.imported.now) c.args.path.now c.args.blocks.now in
    let file = c.loop-file.file in
    let old = c.loop-file.faults.items in
    numbered_step outline_shown (λ p. file_receivers c.args.types.now (raws p.0) (means p.0) c.args.path.now p.0 p.1.decls) c.args.outlines.now file c.index-outlines-file.result c.args.faults.now.items old _ c.loop-file-test.true c.index-outlines-file.is
    (c.in_ok-add_file.ensures ∙ ap (λ ds. old ++ file_receivers c.args.types.now (raws file) (means file) c.args.path.now file (map decl_shown ds)) c.deref.ensures.value) c.loop-file.invariant
