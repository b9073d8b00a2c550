-- Packages that are compared, as far as they are.
use Rattle.std.specs.Prelude.{◌≡◌, ◌<◌, ◌≤◌, ℕ, List, length, slice_get}
use Rattle.go_graph_core.specs.Workspaces.{PackageModel}

-- two lists of packages are the same from one number up to another
pub record AreSameFrom (ps qs : List PackageModel) (start k : ℕ) : Type 0 where
  pub begin : start ≤ k
  pub within : k ≤ length ps
  pub same : (n : ℕ) → start ≤ n → n < k → slice_get ps n ≡ slice_get qs n
