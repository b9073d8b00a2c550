-- Names that are suggested: those that queries give.
use Rattle.std.specs.Prelude.{◌≡◌, ◌⊎◌, ℕ, List, [], map}
use Rattle.go_token_core.specs.text_core.declared.rule.Rule.{Rule}
use Rattle.go_snap_core.specs.Snapshots.{SnapshotModel}
use Rattle.go_package_core.specs.package_part.Inputs.{path_in}
use Rattle.go_query_core.specs.Completing.{IsCompletion, IsUnasked}
use Rattle.go_query_core.specs.Defining.{HasNoPart}
use Rattle.go_query_core.specs.Entries.{EntryOf}
use Rattle.go_query_core.specs.Listing.{IsListing}

-- the names that `complete` gives in place of the identifier at an offset; none where it gives no answer
abbrev pub AreNamesFor : SnapshotModel → List ℕ → List ℕ → ℕ → List (List ℕ) → Type 0
AreNamesFor s path file offset names = IsCompletion s path file offset names ⊎ (((rule : Rule) × IsUnasked s path file offset rule) × (names ≡ []))

-- the path of the package of an entry
abbrev pub entry_path : EntryOf → List ℕ
entry_path e = path_in e.of_part.input

-- the paths of the packages that `list` gives beside the package of a path; none where it gives no answer
abbrev pub AreImportablePaths : SnapshotModel → List ℕ → List (List ℕ) → Type 0
AreImportablePaths s from paths =
    ((own : EntryOf) × (importable : List EntryOf) × IsListing s from own importable × (paths ≡ map entry_path importable))
    ⊎ (HasNoPart s from × (paths ≡ []))
