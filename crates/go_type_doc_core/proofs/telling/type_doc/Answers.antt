use Rattle.std.proofs.Common.{List, map, ap, ◌∙◌, subst}
use Rattle.std.specs.Prelude.{option_map}
use Rattle.go_graph_core.specs.Packages.{IsPackageName, trees_of}
use Rattle.go_graph_core.specs.Sources.{SourceModel}
use Rattle.go_graph_core.specs.Workspaces.{PackageModel}
use Rattle.go_term_core.specs.Shapes.{shape}
use Rattle.go_summary_core.specs.table_core.Entries.{Entry}
use Rattle.go_package_core.specs.package_part.Inputs.{InputModel}
use Rattle.go_type_doc_core.specs.TypeDocs.{AreTold, member_shown}
use Rattle.go_type_doc_core.proofs.telling.type_doc.Goals as goal

pub returns : goal.returns
returns c =
    let source = c.package-package.ensures ∙ ap (λ (i : InputModel). i.source) c.input.ensures in
    let files = ap (λ (p : PackageModel). p.1) source in
    let told = map member_shown c.in_ok-members.members.items in
    record {
      path_is = c.path.ensures;
      name_is = subst (λ (l : List SourceModel). IsPackageName (trees_of l) c.name.result.now) files c.name.ensures;
      members_are = subst (λ (es : List Entry). AreTold c.args.snapshot.now es (option_map shape c.args.term.now) c.args.from.now told) c.requires c.in_ok-members.ensures;
    }
