-- The packages that a package could import.
use Rattle.std.specs.Prelude.{◌≡◌, ◌↔◌, ℕ, List, All, Contains, map, slice_get, Some}
use Rattle.std.specs.List.{AllZip}
use Rattle.std.specs.List.Sorted.{IsStrictlyIncreasing, IsStrictlySortedBy}
use Rattle.std.specs.Ordering.{nat_cmp}
use Rattle.go_import_core.specs.list.Importing.{IsImportable}
use Rattle.go_complete_core.specs.package_core.PackagePartParts.{PartModel}
use Rattle.go_complete_core.specs.snap_core.Snapshots.{SnapshotModel}
use Rattle.go_query_core.specs.Entries.{EntryOf, entry_with}
use Rattle.go_query_core.specs.Parts.{IsPartOf}

-- the entry of the package of a number, as the package of a path sees it
abbrev pub IsEntryOf : SnapshotModel → List ℕ → ℕ → EntryOf → Type 0
IsEntryOf s from number e = (p : PartModel) × (slice_get s.parts number ≡ Some (Some p)) × (e ≡ entry_with s number p from)

-- an entry of the package of a path itself, and one of each package that it could import, in byte order of path, each as it sees them
pub record IsListing (s : SnapshotModel) (from : List ℕ) (own : EntryOf) (importable : List EntryOf) : Type 0 where
  pub of_part : PartModel
  pub number : ℕ
  pub in_workspace : IsPartOf s from number of_part
  pub is_own : own ≡ entry_with s number of_part from
  -- packages are numbered in byte order of path
  pub order : IsStrictlySortedBy nat_cmp (map (λ e. e.number) importable)
  pub each : (n : ℕ) → IsImportable s.sources number n → (e : EntryOf) × Contains importable e × IsEntryOf s from n e
  pub only : All (λ e. IsImportable s.sources number e.number × IsEntryOf s from e.number e) importable

-- an entry of each package that the one of a number could import, in byte order of path
abbrev pub AreEntries : SnapshotModel → ℕ → List ℕ → List EntryOf → Type 0
AreEntries s own from entries = (numbers : List ℕ) × IsStrictlyIncreasing numbers × ((n : ℕ) → Contains numbers n ↔ IsImportable s.sources own n) × AllZip (IsEntryOf s from) numbers entries
