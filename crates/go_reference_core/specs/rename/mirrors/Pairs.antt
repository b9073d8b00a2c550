-- Lists that correspond as far as a number.
use Rattle.std.specs.Prelude.{◌≡◌, ◌<◌, ℕ, List, Some, slice_get}
use Rattle.go_graph_core.specs.Workspaces.{PackageModel}
use Rattle.go_query_core.specs.snap_core.Snapshots.{SnapshotModel}
use Rattle.go_reference_core.specs.rename.Moving.{AllPaired, IsMovedFault, IsMovedPart, Moves}

pub record ArePaired {A B : Type 0} (R : ℕ → A → B → Type 0) (xs : List A) (ys : List B) (i : ℕ) : Type 0 where
  pub each : (k : ℕ) (x : A) (y : B) → k < i → slice_get xs k ≡ Some x → slice_get ys k ≡ Some y → R k x y

-- each occurrence has what it had, and each fault stays, where the packages before are these
pub record Stay (m : Moves) (ps : List PackageModel) (s t : SnapshotModel) : Type 0 where
  pub parts : AllPaired (IsMovedPart m ps) s.parts t.parts
  pub faults : AllPaired (λ _. IsMovedFault m) s.faults t.faults
