use Rattle.std.proofs.Common.{List, ◌<◌, length, sym, ap, ◌∙◌, subst}
use Rattle.go_graph_core.specs.Sources.{SourceModel}
use Rattle.go_graph_core.specs.Workspaces.{PackageModel}
use Rattle.go_package_core.specs.package_part.Inputs.{InputModel}
use Rattle.go_type_doc_core.specs.mirrors.Read.{AreRead, read_shown}
use Rattle.go_type_doc_core.proofs.Kept.{just_read, part_doc_of, read_put}
use Rattle.go_type_doc_core.proofs.reading.read_doc.Goals as goal

pub read_file-requires : goal.read_file-requires
read_file-requires c =
    let files = ap (λ (p : PackageModel). p.1) (c.package-package.ensures ∙ ap (λ (i : InputModel). i.source) c.input.ensures) in
    subst (λ (l : List SourceModel). c.args.decl.file < length l) (sym files) c.requires

pub doc-doc-requires : goal.doc-doc-requires
doc-doc-requires c = (c.package-package.result.now.1, c.in_ok-docs.ensures.docs)

pub returns-clause-read : goal.returns-clause-read
returns-clause-read c = λ s at h.
    let files = ap (λ (p : PackageModel). p.1) (c.package-package.ensures ∙ ap (λ (i : InputModel). i.source) c.input.ensures) in
    let is = just_read s c.args.part.now c.package-package.result.now.1 c.as_str-path.result.now c.args.decl.file (read_shown c.in_ok-docs.docs) at (c.as_str-path.ensures.text ∙ c.path.ensures) files c.in_ok-docs.ensures.docs c.in_ok-docs.ensures.file in
    subst (AreRead s) (sym c.in_ok-insert.ensures.entries) (read_put s c.args.read.now.files.entries (c.as_str-path.result, c.args.decl.file) c.in_ok-docs.docs h is)

pub returns-clause-doc : goal.returns-clause-doc
returns-clause-doc c =
    let files = ap (λ (p : PackageModel). p.1) (c.package-package.ensures ∙ ap (λ (i : InputModel). i.source) c.input.ensures) in
    part_doc_of c.args.part.now c.package-package.result.now.1 files c.args.decl (read_shown c.in_ok-docs.docs) c.in_ok-docs.ensures.docs c.in_ok-docs.ensures.file c.doc-doc.result.now c.doc-doc.ensures
