use Rattle.govisd_folders.proofs.ReportLemmas.{of_snapshot}
use Rattle.govisd_folders.proofs.checking.check_workspace.Goals as goal

pub returns : goal.returns
returns g c =
    of_snapshot c.answer_from.result c.args.page.now.look (c.args.page.now.scope.package.now, c.args.page.now.scope.file.now) c.args.page.now.given.now c.in_ok-snapshot.snapshot c.args.workspace.now c.args.notes.now c.args.passed.now
    c.in_ok-snapshot.ensures.sources c.in_ok-snapshot.ensures.whole c.answer_from.ensures
