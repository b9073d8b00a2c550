use Rattle.std.proofs.Common.{◌≡◌, ℕ, List, map, sym, ap, ap₂, subst, ◌∙◌}
use Rattle.go_block_core.specs.graph_core.Packages.{trees_of}
use Rattle.go_block_core.specs.declared.imports.Imported.{Imported}
use Rattle.go_block_core.specs.Naming.{HaveOneEach, imported_in}
use Rattle.go_report_core.specs.summary_core.Summaries.{SummaryModel}
use Rattle.go_package_core.specs.package_part.Inputs.{AreOfOthers, input_with}
use Rattle.go_package_core.proofs.package_part.input.PartInput.with_package.Goals as goal

pub new-requires-clause-imports : goal.new-requires-clause-imports
new-requires-clause-imports c =
    let same : map imported_in c.in_ok-imports.imports.items ≡ c.args.self.now.imports = c.in_ok-imports.ensures ∙ c.imports.ensures.value in
    subst (HaveOneEach (trees_of c.args.source.1)) (sym same) c.requires.imports

pub new-requires-clause-reached : goal.new-requires-clause-reached
new-requires-clause-reached c =
    let same : c.in_ok-reached.reached ≡ c.args.self.now.reached = c.in_ok-reached.ensures ∙ c.reached.ensures.value in
    subst (AreOfOthers c.args.source.0) (sym same) (subst (λ (path : List ℕ). AreOfOthers path c.args.self.now.reached) (sym c.requires.path) c.reached.ensures.well.reached)

pub returns : goal.returns
returns c =
    let imports : map imported_in c.in_ok-imports.imports.items ≡ c.args.self.now.imports = c.in_ok-imports.ensures ∙ c.imports.ensures.value in
    let reached : c.in_ok-reached.reached ≡ c.args.self.now.reached = c.in_ok-reached.ensures ∙ c.reached.ensures.value in
    c.in_ok-input.ensures ∙ ap₂ (λ (is : List (List Imported)) (ss : List SummaryModel). input_with c.args.source is ss) imports reached
