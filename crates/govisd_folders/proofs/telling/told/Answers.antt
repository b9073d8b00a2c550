use Rattle.std.proofs.Common.{◌≡◌, ◌∙◌, ap, ap₂}
use Rattle.govisd_disk.specs.Scopes.{ScopeModel}
use Rattle.govisd_folders.specs.Selecting.{joined_by, told_by, told_in}
use Rattle.govisd_folders.proofs.ReportLemmas.{lie_told, told_ended}
use Rattle.govisd_folders.proofs.telling.told.Goals as goal

pub report_on-requires : goal.report_on-requires
report_on-requires c =
    let ps = c.args.snapshot.now.sources in
    let faults = c.args.snapshot.now.faults in
    let scope : ScopeModel = (c.args.page.now.scope.package.now, c.args.page.now.scope.file.now) in
    lie_told ps scope faults c.as_slice-3.result.now c.as_slice-4.result.now (c.as_slice-4.ensures.value ∙ c.in_ok-faults.ensures) (c.faults_lie_in_files.ensures.files ps c.args.snapshot.now.parts faults c.requires)

pub returns : goal.returns
returns c =
    let ps = c.args.snapshot.now.sources in
    let faults = c.args.snapshot.now.faults in
    let scope : ScopeModel = (c.args.page.now.scope.package.now, c.args.page.now.scope.file.now) in
    let causes = c.in_ok-causes.causes in
    let repeated = c.in_ok-repeated.repeated.items in
    let joined : c.as_slice-3.result.now ≡ joined_by causes repeated = c.as_slice-3.ensures.value ∙ (c.in_ok-joined.ensures ∙ ap₂ joined_by c.as_slice.ensures c.as_slice-2.ensures.value) in
    told_ended c.report_on.result c.args.page.now.look scope c.args.page.now.given.now ps faults causes repeated c.as_slice-4.result.now c.in_ok-causes.ensures c.in_ok-repeated.ensures
    (c.as_slice-4.ensures.value ∙ (c.in_ok-faults.ensures ∙ ap (λ cs. told_in scope ps (told_by faults faults cs)) joined)) c.report_on.ensures
