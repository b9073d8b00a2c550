use Rattle.std.proofs.Common.{IfOk, length, string_bytes, sym, ap, subst, ◌∙◌, arith}
use Rattle.govisd_resolve.specs.Reports.{IsReport, IsText}
use Rattle.govisd_resolve.proofs.Putting.{alone_at}
use Rattle.govisd_resolve.proofs.run.text_report.Goals as goal

pub bounds-packages-0 : goal.bounds-packages-0
bounds-packages-0 c = omega (arith, ap length (c.packages-packages.ensures.packages ∙ c.in_ok-workspace.ensures.alone.is))

pub bounds-files-0 : goal.bounds-files-0
bounds-files-0 c = omega (arith, ap length c.files-files.ensures.files, c.files-files.ensures.well.some)

pub file_report-requires-clause-alone : goal.file_report-requires-clause-alone
file_report-requires-clause-alone c =
    (alone_at (string_bytes c.args.text) c.in_ok-workspace.workspace c.packages-packages.result.now c.index-packages-0.result _ c.files-files.result.now c.index-files-0.result _
    c.in_ok-workspace.ensures c.packages-packages.ensures.packages c.index-packages-0.is c.files-files.ensures.files c.index-files-0.is).0

pub file_report-requires-clause-text : goal.file_report-requires-clause-text
file_report-requires-clause-text c =
    let one = alone_at (string_bytes c.args.text) c.in_ok-workspace.workspace c.packages-packages.result.now c.index-packages-0.result _ c.files-files.result.now c.index-files-0.result _
    c.in_ok-workspace.ensures c.packages-packages.ensures.packages c.index-packages-0.is c.files-files.ensures.files c.index-files-0.is in
    subst IsText (sym one.1) c.requires

pub returns : goal.returns
returns c =
    let one = alone_at (string_bytes c.args.text) c.in_ok-workspace.workspace c.packages-packages.result.now c.index-packages-0.result _ c.files-files.result.now c.index-files-0.result _
    c.in_ok-workspace.ensures c.packages-packages.ensures.packages c.index-packages-0.is c.files-files.ensures.files c.index-files-0.is in
    subst (λ bytes. IfOk c.file_report.result (λ r. IsReport bytes r.clean r.text.items)) one.1 c.file_report.ensures
