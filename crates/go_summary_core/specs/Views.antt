-- What a package sees by the summaries of the packages that it reaches.
use Rattle.std.specs.Prelude.{◌≡◌, List, map, AllPairs}
use Rattle.std.specs.List.{flat_map}
use Rattle.go_declared_core.specs.block_core.Exports.{ExportsModel}
use Rattle.go_table_core.specs.Entries.{Entry}
use Rattle.go_declared_core.specs.Packages.{PackageFacesModel}
use Rattle.go_summary_core.specs.Summaries.{SummaryModel, path_of}

-- each path once
abbrev pub PathsAreApart : List SummaryModel → Type 0
PathsAreApart ss = AllPairs (λ s t. path_of s ≡ path_of t → ⊥) ss

-- their types, one package's behind the other's
abbrev pub types_told : List SummaryModel → List Entry
types_told ss = flat_map (λ s. s.types.entries) ss

-- what they show
abbrev pub exports_told : List SummaryModel → List ExportsModel
exports_told ss = map (λ s. s.exports) ss

-- their names and faces
abbrev pub faces_told : List SummaryModel → List PackageFacesModel
faces_told ss = map (λ s. s.faces) ss
