-- What a package's part is made from.
use Rattle.std.specs.Prelude.{◌≡◌, refl, ℕ, List, All}
use Rattle.std.specs.Coded.{Coded, code_by, coded×, coded_list}
use Rattle.go_block_core.specs.graph_core.Packages.{trees_of}
use Rattle.go_block_core.specs.graph_core.Workspaces.{PackageModel, coded_package}
use Rattle.go_block_core.specs.declared.imports.Imported.{Imported}
use Rattle.go_block_core.specs.contracts.imports.Imported as imported
use Rattle.go_block_core.specs.Naming.{HaveOneEach}
use Rattle.go_report_core.specs.summary_core.Summaries.{SummaryModel, IsOfOne, path_of}
use Rattle.go_report_core.specs.summary_core.Views.{PathsAreApart}
use Rattle.go_report_core.specs.summary_core.codes.SummaryCodes.{coded_summary}

-- the package, what the imports of each of its files come to, and what the packages tell that it reaches
pub record InputModel : Type 0 where
  pub source : PackageModel
  pub imports : List (List Imported)
  pub reached : List SummaryModel

abbrev pub input_with : PackageModel → List (List Imported) → List SummaryModel → InputModel
input_with source imports reached = record { source = source; imports = imports; reached = reached }

abbrev pub coded_input : Coded InputModel
coded_input = code_by (PackageModel × (List (List Imported) × List SummaryModel)) (coded× coded_package (coded× (coded_list (coded_list imported.the_row.coded)) (coded_list coded_summary))) (λ i. (i.source, (i.imports, i.reached))) (λ p. input_with p.0 p.1.0 p.1.1) (λ _. refl)

-- the path of the package
abbrev pub path_in : InputModel → List ℕ
path_in i = i.source.0

-- these summaries are of other packages than that of a path, each path once
pub record AreOfOthers (path : List ℕ) (reached : List SummaryModel) : Type 0 where
  pub apart : PathsAreApart reached
  pub others : All (λ s. path ≡ path_of s → ⊥) reached

-- each import of each file comes to something, and the summaries are those of other packages
pub record IsInput (i : InputModel) : Type 0 where
  pub imports : HaveOneEach (trees_of i.source.1) i.imports
  pub reached : AreOfOthers (path_in i) i.reached
  pub own : All IsOfOne i.reached
