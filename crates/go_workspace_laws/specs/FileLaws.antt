-- What `govisd resolve` tells of a file, and what a snapshot has of the workspace whose one file it is.
--
-- docs/RULES.md, "Packages", "Reported faults", "Whole workspaces", "Output".
use Rattle.std.specs.Prelude.{◌≡◌, ◌↔◌, ◌≤◌, ℕ, true, List, [], ◌∷◌, map, length, Option, Some, None, slice_get}
use Rattle.go_path_core.specs.text_core.declared.rule.Rule.{Rule}
use Rattle.go_path_core.specs.text_core.declared.rule.Rule.TheVariants.{K3, K4, P1, P2}
use Rattle.go_report_core.specs.answer.Outer.{fault}
use Rattle.go_graph_core.specs.Sources.{SourceModel, IsRead}
use Rattle.go_names_core.specs.local_core.declared.Fault.{Fault}
use Rattle.go_report_core.specs.usage.Used.{FileUse}
use Rattle.go_emit_core.specs.package_core.PackagePartParts.{FileOf, PartModel}
use Rattle.go_snap_core.specs.declared.fault.PlacedFault.{PlacedFault}
use Rattle.go_snap_core.specs.Snapshots.{IsAnswerAt, IsSnapshot}
use Rattle.govisd_resolve.specs.Alone.{the_name, the_path, workspace_alone}
use Rattle.govisd_resolve.specs.Reports.{Input, TooLong, NoText, BadToken, NoTree, TooHigh, NoName, AFile, IsInputOfBytes, IsText, is_input_clean}

-- the file that `resolve` takes a text for, as a workspace has it: its content is that of the text
pub record IsFileOf (bytes : List ℕ) (s : SourceModel) : Type 0 where
  pub name : s.name ≡ the_name
  pub text : s.text ≡ bytes
  pub read : IsRead s

-- a fault of the one file of the one package
abbrev pub in_lone_file : Fault → PlacedFault
in_lone_file f = record { «package» = 0; file = 0; offset = f.offset; rule = f.rule }

-- the one package has a part: what stands in its one file is what was found there. The faults are those that are reported of the file, in their order.
-- An occurrence of the file is answered by what was found for its number, and by nothing else
pub record HasFound (s : SourceModel) (parts : List (Option PartModel)) (faults : List PlacedFault) (found : FileOf) : Type 0 where
  pub part : PartModel
  pub parts_are : parts ≡ Some part ∷ []
  pub files_are : part.content.files ≡ found ∷ []
  pub faults_are : faults ≡ map in_lone_file found.report
  pub answers : (n : ℕ) (u : FileUse) → IsAnswerAt (workspace_alone s) parts the_path the_name n u ↔ (slice_get found.answers.uses n ≡ Some u)

-- the one package has no part, and these are the faults, in order
pub record HasNoPart (parts : List (Option PartModel)) (faults : List PlacedFault) (why : List Fault) : Type 0 where
  pub none : parts ≡ None ∷ []
  pub faults_are : faults ≡ map in_lone_file why

-- a file without a tree: K4 of its package, and its own fault
abbrev pub without_tree : ℕ → Rule → List Fault
without_tree offset rule = fault 0 K4 ∷ (fault offset rule ∷ [])

-- what a snapshot has of a file, by what `resolve` takes its text for. Where it has P1 or P2 there is one in the text; which place `resolve` tells is
-- not said here. Nothing is asked of bytes that are too many or no text, of which `resolve` reads no file
abbrev pub HasWhatIsTold : SourceModel → List (Option PartModel) → List PlacedFault → Input → Type 0
HasWhatIsTold s parts faults TooLong = Unit {0}
HasWhatIsTold s parts faults NoText = Unit {0}
HasWhatIsTold s parts faults (BadToken f) = HasNoPart parts faults (without_tree f.offset f.rule)
HasWhatIsTold s parts faults (NoTree offset) = (at : ℕ) × (at ≤ length s.text) × HasNoPart parts faults (without_tree at P1)
HasWhatIsTold s parts faults (TooHigh offset) = (at : ℕ) × (at ≤ length s.text) × HasNoPart parts faults (without_tree at P2)
HasWhatIsTold s parts faults (NoName f) = HasNoPart parts faults (fault f.name.span.start K3 ∷ [])
HasWhatIsTold s parts faults (AFile f found) = HasFound s parts faults found

-- what `resolve` takes a text for is what each snapshot has of the workspace whose one file it is
abbrev pub SnapshotsHaveWhatIsTold : Type 0
SnapshotsHaveWhatIsTold =
    (bytes : List ℕ) (input : Input) (s : SourceModel) (parts : List (Option PartModel)) (faults : List PlacedFault)
    → IsInputOfBytes bytes input → IsFileOf bytes s → IsSnapshot (workspace_alone s) parts faults → HasWhatIsTold s parts faults input

-- so `resolve` ends with a clean report of a text exactly where such a snapshot has no fault
abbrev pub CleanIsFaultless : Type 0
CleanIsFaultless =
    (bytes : List ℕ) (input : Input) (s : SourceModel) (parts : List (Option PartModel)) (faults : List PlacedFault)
    → IsText bytes → IsInputOfBytes bytes input → IsFileOf bytes s → IsSnapshot (workspace_alone s) parts faults → (is_input_clean input ≡ true) ↔ (faults ≡ [])

-- and there is such a workspace, with a snapshot, for each text that `resolve` takes for anything
abbrev pub TextsHaveSnapshots : Type 0
TextsHaveSnapshots =
    (bytes : List ℕ) (input : Input) → IsText bytes → IsInputOfBytes bytes input
    → (s : SourceModel) × IsFileOf bytes s × ((parts : List (Option PartModel)) × ((faults : List PlacedFault) × IsSnapshot (workspace_alone s) parts faults))
