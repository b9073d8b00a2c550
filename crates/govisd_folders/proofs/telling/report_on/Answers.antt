use Rattle.std.proofs.Common.{length, refl}
use Rattle.govisd_folders.specs.Telling.{shows_all}
use Rattle.govisd_folders.proofs.ReportLemmas.{reported, shown_there}
use Rattle.govisd_folders.proofs.telling.report_on.Goals as goal

pub report_text-requires : goal.report_text-requires
report_text-requires c =
    let page = c.args.page.now in
    shown_there c.args.snapshot.now.sources (shows_all page.look) (page.scope.package.now, page.scope.file.now) c.args.faults.now c.in_ok-shown.shown.items c.as_slice.result.now c.in_ok-shown.ensures c.as_slice.ensures.value c.requires

pub returns : goal.returns
returns c =
    let page = c.args.page.now in
    reported page.look (page.scope.package.now, page.scope.file.now) page.given.now c.args.snapshot.now.sources c.args.faults.now c.in_ok-shown.shown.items c.as_slice.result.now (length c.args.faults.now) c.in_ok-packages.packages _
    refl c.in_ok-packages.ensures c.in_ok-shown.ensures c.as_slice.ensures.value c.in_ok-text.ensures refl
