use Rattle.std.proofs.Common.{length, sym, ap, ◌∙◌, subst}
use Rattle.go_graph_core.specs.Packages.{AllHaveTrees}
use Rattle.go_graph_core.specs.Workspaces.{PackageModel}
use Rattle.go_package_core.specs.package_part.Inputs.{InputModel}
use Rattle.go_package_core.specs.package_part.Parts.{ContentOf}
use Rattle.go_type_doc_core.proofs.Answered.{scope_is}
use Rattle.go_type_doc_core.proofs.naming.denoted.Goals as goal

pub returns-clause-value : goal.returns-clause-value
returns-clause-value c =
    let p = c.args.part.now in
    let source = c.package-package.ensures ∙ ap (λ (i : InputModel). i.source) c.input.ensures in
    let files = ap (λ (q : PackageModel). q.1) source in
    let blocks = ap (λ (x : ContentOf). x.blocks) c.content-content.ensures.value in
    let count = ap length (c.files-files.ensures.files ∙ files) in
    sym (scope_is p c.content-content.result.now.blocks _ c.begin-scopes.result c.args.name.now _ c.begin-scopes.ensures blocks count c.find.ensures.value)

pub returns-clause-trees : goal.returns-clause-trees
returns-clause-trees c =
    let source = c.package-package.ensures ∙ ap (λ (i : InputModel). i.source) c.input.ensures in
    subst AllHaveTrees (ap (λ (q : PackageModel). q.1) source) c.files-files.ensures.assembled.trees
