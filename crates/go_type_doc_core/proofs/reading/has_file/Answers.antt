use Rattle.std.proofs.Common.{length, nat_lt, ap, ◌∙◌}
use Rattle.go_graph_core.specs.Workspaces.{PackageModel}
use Rattle.go_package_core.specs.package_part.Inputs.{InputModel}
use Rattle.go_type_doc_core.proofs.reading.has_file.Goals as goal

pub returns : goal.returns
returns c =
    let files = ap (λ (p : PackageModel). p.1) (c.package-package.ensures ∙ ap (λ (i : InputModel). i.source) c.input.ensures) in
    ap (nat_lt c.args.file) (ap length (c.files-files.ensures.files ∙ files))
