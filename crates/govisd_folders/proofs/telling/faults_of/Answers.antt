use Rattle.std.proofs.Common.{Vec}
use Rattle.std.specs.Global.{Global}
use Rattle.govisd_disk.specs.Scopes.{ScopeModel}
use Rattle.govisd_folders.specs.declared.selecting.Told.{Told}
use Rattle.govisd_folders.proofs.ReportLemmas.{told_of_all}
use Rattle.govisd_folders.proofs.telling.faults_of.Goals as goal

pub returns : goal.returns
returns c =
    let scope : ScopeModel = (c.args.page.now.scope.package.now, c.args.page.now.scope.file.now) in
    told_of_all (λ (v : Vec Told Global). v.items) c.told_in.result scope c.sources.result.now c.args.snapshot.now.sources c.faults.result.now c.args.snapshot.now.faults c.args.causes.now c.as_slice.result.now c.in_ok-all.all.items
    c.sources.ensures.value c.faults.ensures c.as_slice.ensures.value c.in_ok-all.ensures c.told_in.ensures
