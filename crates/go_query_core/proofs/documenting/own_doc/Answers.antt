use Rattle.std.proofs.Common.{ℕ, List, map, sym, ap, ◌∙◌, subst}
use Rattle.go_expr_core.specs.decl_core.declared.keys.DeclRef.{DeclRef}
use Rattle.go_import_core.specs.graph_core.Packages.{IsPackageName, trees_of}
use Rattle.go_import_core.specs.graph_core.Sources.{SourceModel}
use Rattle.go_import_core.specs.graph_core.Workspaces.{PackageModel}
use Rattle.go_declared_core.specs.block_core.Holding.{package_block}
use Rattle.go_doc_core.specs.symbol.Symbols.{AreSymbols, symbol_shown}
use Rattle.go_complete_core.specs.package_core.PackagePartInputs.{InputModel}
use Rattle.go_complete_core.specs.package_core.PackagePartParts.{ContentOf}
use Rattle.go_query_core.proofs.Documented.{names_are}
use Rattle.go_query_core.proofs.documenting.own_doc.Goals as goal

pub own_symbols-requires : goal.own_symbols-requires
own_symbols-requires c =
    let part = c.args.part.now in
    let source = c.package-package.ensures ∙ ap (λ (i : InputModel). i.source) c.input.ensures in
    let names = ap (λ (x : ContentOf). x.blocks.names) c.content-content.ensures.value in
    names ∙ (names_are part.input part.content c.content-content.ensures.made ∙ ap (λ (p : PackageModel). package_block (trees_of p.1)) (sym source))

pub returns-in-Ok-clause-ok : goal.returns-in-Ok-clause-ok
returns-in-Ok-clause-ok c =
    let part = c.args.part.now in
    let source = c.package-package.ensures ∙ ap (λ (i : InputModel). i.source) c.input.ensures in
    let files = ap (λ (p : PackageModel). p.1) source in
    let names = ap (λ (x : ContentOf). x.blocks.names) c.content-content.ensures.value in
    let shown = map symbol_shown c.in-Ok.symbols.items in
    let moved = subst (λ (l : List SourceModel). AreSymbols l c.content-content.result.now.blocks.names shown) files c.in-Ok.ensures in
    record {
      path = c.path.ensures;
      name = subst (λ (l : List SourceModel). IsPackageName (trees_of l) c.name.result.now) files c.name.ensures;
      symbols = subst (λ (l : List (List ℕ × DeclRef)). AreSymbols part.input.source.1 l shown) names moved;
    }
