use Rattle.std.proofs.Common.{◌≡◌, ℕ, List, map, sym, ap, ap₂, subst, ◌∙◌}
use Rattle.go_block_core.specs.graph_core.Packages.{trees_of}
use Rattle.go_block_core.specs.graph_core.Workspaces.{PackageModel}
use Rattle.go_block_core.specs.declared.imports.Imported.{Imported}
use Rattle.go_block_core.specs.Naming.{HaveOneEach, imported_in}
use Rattle.go_package_core.specs.package_part.Inputs.{AreOfOthers, input_with}
use Rattle.go_package_core.proofs.package_part.input.PartInput.with_reached.Goals as goal

pub new-requires-clause-imports : goal.new-requires-clause-imports
new-requires-clause-imports c =
    let same : map imported_in c.in_ok-imports.imports.items ≡ c.args.self.now.imports = c.in_ok-imports.ensures ∙ c.imports.ensures.value in
    let source : c.in_ok-source.source ≡ c.args.self.now.source = c.in_ok-source.ensures ∙ c.package.ensures in
    subst (λ (p : PackageModel). HaveOneEach (trees_of p.1) (map imported_in c.in_ok-imports.imports.items)) (sym source) (subst (HaveOneEach (trees_of c.args.self.now.source.1)) (sym same) c.imports.ensures.well.imports)

pub new-requires-clause-reached : goal.new-requires-clause-reached
new-requires-clause-reached c =
    let source : c.in_ok-source.source ≡ c.args.self.now.source = c.in_ok-source.ensures ∙ c.package.ensures in
    subst (λ (p : PackageModel). AreOfOthers p.0 c.args.reached) (sym source) c.requires

pub returns : goal.returns
returns c =
    let imports : map imported_in c.in_ok-imports.imports.items ≡ c.args.self.now.imports = c.in_ok-imports.ensures ∙ c.imports.ensures.value in
    let source : c.in_ok-source.source ≡ c.args.self.now.source = c.in_ok-source.ensures ∙ c.package.ensures in
    c.in_ok-input.ensures ∙ ap₂ (λ (p : PackageModel) (is : List (List Imported)). input_with p is c.args.reached) source imports
