-- Where declarations are used.
--
-- The Go specification, "Declarations and scope", "Qualified identifiers", "Selectors".
use Rattle.std.specs.Prelude.{◌≡◌, ◌↔◌, ◌<◌, ⊤, ℕ, true, List, Some, AllPairs, Contains, slice_get}
use Rattle.go_tree_core.specs.Occurrences.{is_identifier}
use Rattle.go_denote_core.specs.declared.things.Outcome.TheVariants as outcomes
use Rattle.go_handle_core.specs.Declarations.{Declaration}
use Rattle.go_query_core.specs.package_core.PackagePartParts.{FileOf, PartModel}
use Rattle.go_query_core.specs.report_core.UsageUsed.{FileUse, TheOutcome}
use Rattle.go_query_core.specs.snap_core.Snapshots.{SnapshotModel}
use Rattle.go_query_core.specs.Defining.{Declares}
use Rattle.go_reference_core.specs.declared.reference.Reference.{Reference}

-- an outcome is a rule that is broken
abbrev pub IsRefused : TheOutcome → Type 0
IsRefused (outcomes.Declared d) = ⊥
IsRefused (outcomes.Selected d path) = ⊥
IsRefused (outcomes.Refused rule) = ⊤

-- what stands at an occurrence is an identifier that has a declaration
pub record HasDeclaration (d : Declaration) (u : FileUse) : Type 0 where
  pub identifier : is_identifier u.role ≡ true
  pub declares : Declares u.outcome d

-- a file of an assembled package, by its number and that of its package
pub record IsFileOf (s : SnapshotModel) (number file : ℕ) (f : FileOf) : Type 0 where
  pub of_part : PartModel
  pub there : slice_get s.parts number ≡ Some (Some of_part)
  pub in_package : slice_get of_part.content.files file ≡ Some f

-- an occurrence of a file of the snapshot has the declaration, and stands there
pub record IsReference (s : SnapshotModel) (d : Declaration) (r : Reference) : Type 0 where
  pub of_file : FileOf
  pub is_file : IsFileOf s r.«package» r.file of_file
  pub used : FileUse
  pub has : slice_get of_file.answers.uses r.number ≡ Some used
  pub declares : HasDeclaration d used
  pub offset : r.offset ≡ used.offset

-- by package, file and number
pub data IsBefore (r s : Reference) : Type 0 where
  InPackage : r.«package» < s.«package» → IsBefore r s
  InFile : r.«package» ≡ s.«package» → r.file < s.file → IsBefore r s
  ByNumber : r.«package» ≡ s.«package» → r.file ≡ s.file → r.number < s.number → IsBefore r s

-- exactly the references of a declaration, in order, each once
pub record AreReferences (s : SnapshotModel) (d : Declaration) (rs : List Reference) : Type 0 where
  pub ordered : AllPairs IsBefore rs
  pub same : (r : Reference) → Contains rs r ↔ IsReference s d r

-- a reference in the file of two numbers
pub record IsReferenceIn (s : SnapshotModel) (number file : ℕ) (d : Declaration) (r : Reference) : Type 0 where
  pub of_package : r.«package» ≡ number
  pub of_file : r.file ≡ file
  pub is : IsReference s d r

-- exactly those in this file, in order, each once
pub record AreFileReferences (s : SnapshotModel) (number file : ℕ) (d : Declaration) (rs : List Reference) : Type 0 where
  pub ordered : AllPairs IsBefore rs
  pub same : (r : Reference) → Contains rs r ↔ IsReferenceIn s number file d r
