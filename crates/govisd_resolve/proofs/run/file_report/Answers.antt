use Rattle.std.proofs.Common.{sym, subst}
use Rattle.go_block_core.specs.graph_core.Sources.{IsContent}
use Rattle.govisd_resolve.proofs.ReportLemmas.{text_fault_reports}
use Rattle.govisd_resolve.proofs.run.file_report.Goals as goal

pub tree_report-requires-clause-tree : goal.tree_report-requires-clause-tree
tree_report-requires-clause-tree c = sym c.in-Ok.ensures.value

pub returns-in-Err : goal.returns-in-Err
returns-in-Err c =
    let text = c.args.file.now.text in
    text_fault_reports text c.in-Err.fault c.fault_report.result c.requires.text (subst (IsContent text) (sym c.in-Err.ensures.value) c.requires.alone.read) c.fault_report.ensures.text c.fault_report.ensures.clean
