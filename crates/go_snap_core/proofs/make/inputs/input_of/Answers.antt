use Rattle.std.proofs.Common.{◌≡◌, Some, map, sym, ap, subst, ◌∙◌}
use Rattle.std.specs.Prelude.{slice_get}
use Rattle.go_graph_core.specs.Packages.{IsAssembled, trees_of}
use Rattle.go_graph_core.specs.Workspaces.{PackageModel}
use Rattle.go_names_core.specs.block_core.GivenSteps.{have_one_each}
use Rattle.go_names_core.specs.block_core.Naming.{imported_in}
use Rattle.go_names_core.specs.block_core.mirrors.Steps.{IsPlanned}
use Rattle.go_emit_core.specs.package_core.PackagePartInputs.{InputModel}
use Rattle.go_snap_core.specs.whole_workspace.mirrors.Steps.{AreToldBySet, exports_in}
use Rattle.go_snap_core.proofs.WholeWorkspaceInputting.{input_made, package_comes, package_ready, reached_there, told_apart, told_is, told_others}
use Rattle.go_snap_core.proofs.WholeWorkspaceLists.{one_at}
use Rattle.go_snap_core.proofs.MakeTelling.{told_by_set, told_for}
use Rattle.go_snap_core.proofs.make.inputs.input_of.Goals as goal

pub given_to-requires-clause-imports : goal.given_to-requires-clause-imports
given_to-requires-clause-imports c =
    let ps = c.args.workspace.now in
    let n = c.args.number in
    let p = c.in_ok-package.package in
    let numbered : slice_get ps n ≡ Some p = ap (λ l. slice_get l n) (sym c.packages-packages.ensures.packages) ∙ c.in_ok-package.ensures in
    let a = c.requires.assembled in
    let assembled : IsAssembled p.1 = subst (λ (q : PackageModel). IsAssembled q.1) (one_at ps n (a.0, a.1) p a.2 numbered) a.3 in
    package_ready ps c.args.plan.now c.requires.plan c.args.parts.now n c.requires.parts p numbered assembled

pub given_to-requires-clause-told : goal.given_to-requires-clause-told
given_to-requires-clause-told c =
    let there = reached_there c.args.workspace.now c.args.plan.now c.requires.plan c.args.parts.now c.args.number c.requires.parts c.args.reached.now c.packages-packages.ensures.well c.requires.reached c.requires.many c.requires.assembled in
    told_for c.args.parts.now c.args.told.now c.requires.told c.args.reached.now c.args.number there

pub new-requires-clause-imports : goal.new-requires-clause-imports
new-requires-clause-imports c = have_one_each (IsPlanned c.args.plan.now.outcomes (exports_in c.args.parts.now)) c.args.number (trees_of c.in_ok-package.package.1) (map imported_in c.in_ok-imports.imports.items) c.in_ok-imports.ensures.imports

pub new-requires-clause-reached : goal.new-requires-clause-reached
new-requires-clause-reached c =
    let ps = c.args.workspace.now in
    let n = c.args.number in
    let p = c.in_ok-package.package in
    let ss = c.in_ok-imports.summaries in
    let well = c.packages-packages.ensures.well in
    let numbered : slice_get ps n ≡ Some p = ap (λ l. slice_get l n) (sym c.packages-packages.ensures.packages) ∙ c.in_ok-package.ensures in
    let by_set = told_by_set c.args.parts.now c.args.told.now c.requires.told c.args.reached.now n ss c.in_ok-imports.ensures.told in
    let told = told_is ps c.args.plan.now c.requires.plan c.args.parts.now n c.requires.parts c.args.reached.now ss well c.requires.reached by_set in
    record {
      apart = told_apart ps c.args.plan.now c.requires.plan c.args.parts.now n c.requires.parts ss well told;
      others = told_others ps c.args.plan.now c.requires.plan c.args.parts.now n c.requires.parts p ss well numbered told;
    }

pub returns-clause-told : goal.returns-clause-told
returns-clause-told c =
    let ps = c.args.workspace.now in
    let n = c.args.number in
    let sets = c.args.reached.now in
    let parts = c.args.parts.now in
    let ss = c.in_ok-imports.summaries in
    let by_set = told_by_set parts c.args.told.now c.requires.told sets n ss c.in_ok-imports.ensures.told in
    subst (AreToldBySet sets parts n) (sym (ap (λ (i : InputModel). i.reached) c.in_ok-input.ensures)) by_set

pub returns-clause-input : goal.returns-clause-input
returns-clause-input c =
    let ps = c.args.workspace.now in
    let n = c.args.number in
    let p = c.in_ok-package.package in
    let imported = map imported_in c.in_ok-imports.imports.items in
    let ss = c.in_ok-imports.summaries in
    let well = c.packages-packages.ensures.well in
    let numbered : slice_get ps n ≡ Some p = ap (λ l. slice_get l n) (sym c.packages-packages.ensures.packages) ∙ c.in_ok-package.ensures in
    let by_set = told_by_set c.args.parts.now c.args.told.now c.requires.told c.args.reached.now n ss c.in_ok-imports.ensures.told in
    let told = told_is ps c.args.plan.now c.requires.plan c.args.parts.now n c.requires.parts c.args.reached.now ss well c.requires.reached by_set in
    let comes = package_comes ps c.args.plan.now c.requires.plan c.args.parts.now n c.requires.parts p imported c.in_ok-imports.ensures.imports in
    let is = c.in_ok-input.ensures in
    input_made ps c.args.plan.now c.requires.plan c.args.parts.now n c.requires.parts p imported ss c.in_ok-input.input numbered comes told
    (ap (λ (i : InputModel). i.source) is) (ap (λ (i : InputModel). i.imports) is) (ap (λ (i : InputModel). i.reached) is)
