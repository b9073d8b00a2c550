-- What joins references with definitions.
use Rattle.std.specs.Prelude.{◌≡◌, ℕ, true, List}
use Rattle.go_tree_core.specs.Occurrences.{is_identifier}
use Rattle.go_handle_core.specs.Declarations.{Declaration}
use Rattle.go_query_core.specs.report_core.UsageUsed.{FileUse}
use Rattle.go_query_core.specs.snap_core.Snapshots.{FoundFile, IsFileAt, SnapshotModel}
use Rattle.go_query_core.specs.Defining.{Declares, IsUseIn}
use Rattle.go_reference_core.specs.declared.reference.Reference.{Reference}
use Rattle.go_reference_core.specs.References.{IsReference}

-- an identifier that is used at an offset of a file is a reference of the declaration that `define` answers there
abbrev pub DefinedAreReferences : Type 0
DefinedAreReferences =
    (s : SnapshotModel) (path name : List ℕ) (offset : ℕ) (d : Declaration) (f : FoundFile) (u : FileUse) → IsFileAt s.sources s.parts path name f → IsUseIn f offset u → is_identifier u.role ≡ true → Declares u.outcome d
    → (r : Reference) × IsReference s d r × (r.file ≡ f.number) × (r.offset ≡ u.offset)
