-- Packages outside modules.
use Rattle.std.specs.Prelude.{◌≡◌, ℕ, Bool, false, List}
use Rattle.std.specs.List.{list_any}
use Rattle.go_graph_core.specs.Workspaces.{PackageModel, files_at, is_path_inside}

-- whether a path is that of one of these modules or lies below it
abbrev pub is_inside_any : List (List ℕ) → List ℕ → Bool
is_inside_any modules path = list_any (λ m. is_path_inside m path) modules

-- a path that is inside none of these modules has the same files in both lists, or is in neither
pub record AreSameOutside (modules : List (List ℕ)) (ps qs : List PackageModel) : Type 0 where
  pub each : (path : List ℕ) → is_inside_any modules path ≡ false → files_at qs path ≡ files_at ps path
