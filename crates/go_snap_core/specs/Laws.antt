-- Laws of snapshots.
use Rattle.std.specs.Prelude.{◌≡◌, ◌≢◌, ◌≤◌, ℕ, List, [], ◌∷◌, length, Option, Some, None, All, AllPairs, Contains, slice_get}
use Rattle.std.specs.Str.{IsUtf8}
use Rattle.go_names_core.specs.local_core.declared.Fault.{Fault}
use Rattle.go_graph_core.specs.Workspaces.{PackageModel, IsReadWorkspace, IsWorkspace}
use Rattle.go_emit_core.specs.package_core.PackagePartParts.{PartModel}
use Rattle.go_report_core.specs.Faults.{IsSaid}
use Rattle.go_report_core.specs.usage.Used.{FileUse}
use Rattle.go_snap_core.specs.declared.fault.PlacedFault.{PlacedFault}
use Rattle.go_snap_core.specs.Faults.{LiesIn, here}
use Rattle.go_snap_core.specs.Snapshots.{IsAnswerAt, IsSnapshot}

-- a workspace has at most one snapshot: parts, with what each is made from and what it has, and faults follow from the trees of all files
abbrev pub OneSnapshot : Type 0
OneSnapshot =
    (ps : List PackageModel) (parts others : List (Option PartModel)) (faults again : List PlacedFault) → IsWorkspace ps → IsSnapshot ps parts faults → IsSnapshot ps others again
    → (parts ≡ others) × (faults ≡ again)

-- each fault lies in a file of the workspace
abbrev pub FaultsLieInFiles : Type 0
FaultsLieInFiles = (ps : List PackageModel) (parts : List (Option PartModel)) (faults : List PlacedFault) → IsSnapshot ps parts faults → All (LiesIn ps) faults

-- where each file has the content of its text, and the files of a package do not assemble, each fault stands in the text of its file, or at its end
abbrev pub UnassembledFaultsLieInTexts : Type 0
UnassembledFaultsLieInTexts =
    (ps : List PackageModel) (parts : List (Option PartModel)) (faults : List PlacedFault) → IsReadWorkspace ps → IsSnapshot ps parts faults → (f : PlacedFault) → Contains faults f → slice_get parts f.«package» ≡ Some None
    → (lies : LiesIn ps f) → IsUtf8 lies.source.text → f.offset ≤ length lies.source.text

-- no two faults are the same
abbrev pub FaultsDiffer : Type 0
FaultsDiffer = (ps : List PackageModel) (parts : List (Option PartModel)) (faults : List PlacedFault) → IsSnapshot ps parts faults → AllPairs (λ f g. f ≢ g) faults

-- an occurrence is refused by a rule, at its place
abbrev pub IsUseRefused : FileUse → Fault → Type 0
IsUseRefused u f = IsSaid (u ∷ []) f

-- the rule that an occurrence of a file is refused by is a fault of this file
abbrev pub RefusalsAreFaults : Type 0
RefusalsAreFaults =
    (ps : List PackageModel) (parts : List (Option PartModel)) (faults : List PlacedFault) → IsSnapshot ps parts faults → (path name : List ℕ) (n : ℕ) (u : FileUse) (at : IsAnswerAt ps parts path name n u) (f : PlacedFault)
    → f.«package» ≡ at.in_workspace.number → f.file ≡ at.number → IsUseRefused u (here f) → Contains faults f

-- in a workspace without a fault each package has a part, and no occurrence is refused: each has a declaration
pub record IsFaultless (ps : List PackageModel) (parts : List (Option PartModel)) : Type 0 where
  pub made : (n : ℕ) (p : PackageModel) → slice_get ps n ≡ Some p → (part : PartModel) × (slice_get parts n ≡ Some (Some part))
  pub declared : (path name : List ℕ) (n : ℕ) (u : FileUse) → IsAnswerAt ps parts path name n u → (f : Fault) → ¬ IsUseRefused u f

abbrev pub NoFaultNoRefusal : Type 0
NoFaultNoRefusal = (ps : List PackageModel) (parts : List (Option PartModel)) → IsWorkspace ps → IsSnapshot ps parts [] → IsFaultless ps parts
