-- Packages in order of path that stand where those of a module do.
use Rattle.std.specs.Prelude.{◌≡◌, ℕ, Bool, not, ◌&&◌, List, [], ◌∷◌, ◌++◌}
use Rattle.std.specs.List.{filter}
use Rattle.std.specs.Ordering.{is_lt}
use Rattle.go_graph_core.specs.Workspaces.{PackageModel, by_bytes}

-- whether a path does not stand before the path of a module, and stands before the text behind all that begin with that path and a slash: `0` is the byte
-- behind the slash
abbrev pub is_path_near : List ℕ → List ℕ → Bool
is_path_near own path = not (is_lt (by_bytes path own)) && is_lt (by_bytes path (own ++ 48 ∷ []))

-- the packages whose paths do
abbrev pub packages_near : List ℕ → List PackageModel → List PackageModel
packages_near own ps = filter (λ p. is_path_near own p.0) ps

-- packages that follow one another in a list
abbrev pub ArePieceOf : List PackageModel → List PackageModel → Type 0
ArePieceOf piece ps = (front : List PackageModel) × (rest : List PackageModel) × (ps ≡ front ++ (piece ++ rest))
