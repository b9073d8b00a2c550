-- The parts of packages by their paths.
use Rattle.std.specs.Prelude.{◌≡◌, ℕ, List, Option, Some, slice_get}
use Rattle.go_graph_core.specs.Imports.{IsNumbered}
use Rattle.go_graph_core.specs.Sources.{SourceModel}
use Rattle.go_graph_core.specs.Workspaces.{PackageModel}
use Rattle.go_emit_core.specs.package_core.PackagePartParts.{PartModel}

-- the package of a path has this part
pub record IsPartAt (ps : List PackageModel) (parts : List (Option PartModel)) (path : List ℕ) (p : PartModel) : Type 0 where
  pub number : ℕ
  pub files : List SourceModel
  pub numbered : IsNumbered ps path number files
  pub there : slice_get parts number ≡ Some (Some p)
