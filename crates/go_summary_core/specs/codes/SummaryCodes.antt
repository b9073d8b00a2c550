-- How summaries are stored, so that a model may hold one.
use Rattle.std.specs.Prelude.{refl, ℕ, List}
use Rattle.std.specs.Coded.{Coded, code_by, coded×, coded_list, coded_ℕ}
use Rattle.go_declared_core.specs.block_core.Exports.{ExportsModel, coded_exports}
use Rattle.go_table_core.specs.Tables.{PackageTypesModel}
use Rattle.go_table_core.specs.codes.EntryCodes.{coded_package_types}
use Rattle.go_declared_core.specs.Packages.{PackageFacesModel}
use Rattle.go_declared_core.specs.codes.FaceCodes.{coded_package_faces}
use Rattle.go_summary_core.specs.Summaries.{SummaryModel, summary_with}

abbrev pub coded_summary : Coded SummaryModel
coded_summary = code_by (ExportsModel × (PackageTypesModel × (PackageFacesModel × List (List ℕ)))) (coded× coded_exports (coded× coded_package_types (coded× coded_package_faces (coded_list (coded_list coded_ℕ))))) (λ s. (s.exports, (s.types, (s.faces, s.files)))) (λ p. summary_with p.0 p.1.0 p.1.1.0 p.1.1.1) (λ _. refl)
