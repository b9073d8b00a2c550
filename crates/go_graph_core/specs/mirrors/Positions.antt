-- Where a path stands.
use Rattle.std.specs.Prelude.{◌≡◌, ◌≤◌, ℕ, List, length, Result, Ok, Err, Some, slice_get}
use Rattle.std.specs.List.{AllWithin}
use Rattle.std.specs.declared.cmp.Ordering.TheVariants.{Less, Greater}
use Rattle.go_graph_core.specs.Workspaces.{PackageModel, by_bytes}

-- the package at that number has the path; or the paths before that number come before it, and the others behind it
abbrev pub IsPosition : List PackageModel → List ℕ → Result ℕ ℕ → Type 0
IsPosition ps path (Ok i) = (p : PackageModel) × (slice_get ps i ≡ Some p) × (p.0 ≡ path)
IsPosition ps path (Err i) = (i ≤ length ps) × AllWithin (λ p. by_bytes p.0 path ≡ Less) ps 0 i × AllWithin (λ p. by_bytes p.0 path ≡ Greater) ps i (length ps)
