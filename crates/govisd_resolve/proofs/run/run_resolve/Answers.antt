use Rattle.std.proofs.Common.{false, subst}
use Rattle.std.specs.Io.KnownBytes.{Appends}
use Rattle.govisd_resolve.specs.Outputs.{IsCutShort}
use Rattle.govisd_resolve.specs.Reports.{IsReport}
use Rattle.govisd_resolve.proofs.OutputLemmas.{all_written, cut_short, keeps_same}
use Rattle.govisd_resolve.proofs.ReportLemmas.{reported_all, reported_first, unread_ends, unread_takes}
use Rattle.govisd_resolve.proofs.run.run_resolve.Goals as goal

pub returns-in-Err-clause-end : goal.returns-in-Err-clause-end
returns-in-Err-clause-end g c = unread_ends (g.R.Read.remaining c.args.reader.now) 1048577 c.in-Err.fault c.end_of.result _ _ c.end_of.ensures (keeps_same _)

pub returns-in-Err-clause-all : goal.returns-in-Err-clause-all
returns-in-Err-clause-all g c = unread_takes (g.R.Read.remaining c.args.reader.now) _ 1048577 c.in-Err.fault c.end_of.result c.end_of.ensures

pub returns-then-is_err-clause-end : goal.returns-then-is_err-clause-end
returns-then-is_err-clause-end g c =
    let report = c.in-Ok-report_of.report in
    let cut = cut_short (g.W.Write.contents c.args.writer.now) (g.W.Write.contents c.write_report.new.writer) c.as_slice.result.now c.write_report.result c.is_err.result c.write_report.ensures c.is_err.ensures.value c.if-is_err.true in
    reported_first (g.R.Read.remaining c.args.reader.now) 1048577 c.in-Ok.bytes.items report.clean report.text.items _ _ c.in-Ok.ensures.ok c.in-Ok-report_of.ensures (subst (IsCutShort _ _) c.as_slice.ensures.value cut)

pub returns-clause-end : goal.returns-clause-end
returns-clause-end g c =
    let report = c.in-Ok-report_of.report in
    let made = subst (λ b. IsReport c.in-Ok.bytes.items b report.text.items) c.if-report.false c.in-Ok-report_of.ensures in
    let all = all_written (g.W.Write.contents c.args.writer.now) (g.W.Write.contents c.write_report.new.writer) c.as_slice.result.now c.write_report.result c.is_err.result c.write_report.ensures c.is_err.ensures.value c.if-is_err.false in
    reported_all (g.R.Read.remaining c.args.reader.now) 1048577 c.in-Ok.bytes.items false report.text.items _ _ c.in-Ok.ensures.ok made (subst (Appends _ _) c.as_slice.ensures.value all)
