-- A test along the elements of a path.
use Rattle.std.proofs.Common.{◌≡◌, ℕ, Bool, List}
use Rattle.std.specs.Prelude.{◌↔◌, IsTrue}
use Rattle.go_path_core.specs.Path.{elements, IsPrefix}
use Rattle.go_graph_core.specs.Workspaces.{is_path_inside}
use Rattle.go_graph_core.proofs.Keeping.{tests_inside}

pub inside_is : (own path : List ℕ) (b : Bool) → IsTrue b ↔ IsPrefix (elements own) (elements path) → b ≡ is_path_inside own path
inside_is own path b is = tests_inside own path b is.0 is.1
