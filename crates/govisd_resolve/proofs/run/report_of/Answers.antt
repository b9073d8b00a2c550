use Rattle.std.proofs.Common.{◌≡◌, string_bytes, length, arith, ap}
use Rattle.std.proofs.lemmas.Str.{IsUtf8-string_bytes}
use Rattle.govisd_resolve.proofs.ReportLemmas.{too_long_reports, no_text_reports}
use Rattle.govisd_resolve.proofs.run.report_of.Goals as goal

pub text_report-requires : goal.text_report-requires
text_report-requires c =
    let same : string_bytes c.in-Ok.text ≡ c.args.bytes.items = ap (λ v. v.items) c.in-Ok.ensures.ok in
    record { size = omega (arith, ap length same); utf8 = IsUtf8-string_bytes c.in-Ok.text }

pub returns-then-len-ge-LIMIT : goal.returns-then-len-ge-LIMIT
returns-then-len-ge-LIMIT c = too_long_reports c.args.bytes.items c.fault_report.result (omega arith) c.fault_report.ensures.text c.fault_report.ensures.clean

pub returns : goal.returns
returns c =
    no_text_reports c.args.bytes.items c.fault_report-in-Err.result (omega arith) (λ valid. let bad = c.in-Err.ensures.succeeds valid in cc) c.fault_report-in-Err.ensures.text c.fault_report-in-Err.ensures.clean
