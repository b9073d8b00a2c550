use Rattle.std.proofs.Common.{length, refl}
use Rattle.std.specs.Prelude.{string_bytes}
use Rattle.govisd_folders.proofs.ReportLemmas.{report_added}
use Rattle.govisd_folders.proofs.telling.push_report.Goals as goal

pub returns : goal.returns
returns c =
    let page = c.args.page.now in
    report_added c.push_end.result page.look page.scope.package.now page.given.now c.args.snapshot.now.sources c.args.faults c.args.shown.now (length c.args.shown.now) c.args.packages (string_bytes c.args.out.now) (string_bytes c.push_head.new.out) (string_bytes c.push_all.new.out) (string_bytes c.push_beside.new.out) (string_bytes c.push_end.new.out)
    refl c.in_ok-push_head.ensures c.in_ok-push_all.ensures c.in_ok-push_beside.ensures c.push_end.ensures
