-- What a package tells the packages that reach it by imports.
--
-- docs/RULES.md, "Summaries". The Go specification, "Import declarations", "Exported identifiers".
use Rattle.std.specs.Prelude.{◌≡◌, ℕ, List}
use Rattle.go_declared_core.specs.graph_core.Workspaces.{PackageModel, names_of_files}
use Rattle.go_declared_core.specs.block_core.Blocks.{BlocksModel, exports_of}
use Rattle.go_declared_core.specs.block_core.Exports.{ExportsModel}
use Rattle.go_table_core.specs.Tables.{PackageTypesModel, AreOf}
use Rattle.go_declared_core.specs.Packages.{PackageFacesModel}

-- its path, the name in its clauses and its exported names with their declarations; all types that it declares, with their methods; its
-- names as others see them and the faces of its declarations; and the names of its files
pub record SummaryModel : Type 0 where
  pub exports : ExportsModel
  pub types : PackageTypesModel
  pub faces : PackageFacesModel
  pub files : List (List ℕ)

abbrev pub summary_with : ExportsModel → PackageTypesModel → PackageFacesModel → List (List ℕ) → SummaryModel
summary_with exports types faces files = record { exports = exports; types = types; faces = faces; files = files }

-- what a package tells that has these blocks, types and faces
abbrev pub summary_of : PackageModel → BlocksModel → PackageTypesModel → PackageFacesModel → SummaryModel
summary_of p b types faces = summary_with (exports_of p b) types faces (names_of_files p.1)

-- the path of the package
abbrev pub path_of : SummaryModel → List ℕ
path_of s = s.exports.path

-- all of a summary is of one package, and so are the types
pub record IsOfOne (s : SummaryModel) : Type 0 where
  pub types : s.types.path ≡ path_of s
  pub faces : s.faces.path ≡ path_of s
  pub own : AreOf (path_of s) s.types.entries
