-- What a check of folders answers.
use Rattle.std.specs.Prelude.{◌≡◌, ◌==◌, ℕ, Bool, true, false, List, [], ◌∷◌, ◌++◌, Option, string_bytes, if◌then◌else◌}
use Rattle.go_folder_core.specs.declared.orders.Color.{Color}
use Rattle.go_folder_core.specs.declared.orders.Color.TheVariants as color
use Rattle.go_folder_core.specs.declared.orders.Style.{Style}
use Rattle.go_graph_core.specs.Workspaces.{PackageModel}
use Rattle.go_diagnostic_core.specs.snap_core.declared.fault.PlacedFault.{PlacedFault}
use Rattle.go_emit_core.specs.package_core.PackagePartParts.{PartModel}
use Rattle.go_diagnostic_core.specs.snap_core.Snapshots.{IsSnapshot}
use Rattle.govisd_folders.specs.declared.checking.CheckAnswer.{CheckAnswer}
use Rattle.govisd_folders.specs.declared.looks.Look.{Look}
use Rattle.govisd_folders.specs.declared.telling.Report.{Report}
use Rattle.govisd_disk.specs.Finds.{ReadModel, Refused, Found, IsReadOf}
use Rattle.govisd_disk.specs.Scopes.{ScopeModel}
use Rattle.govisd_folders.specs.Telling.{AreTold}

-- 0 where there is no fault and nothing was left out, and else 1
abbrev pub notes_status : List ℕ → ℕ
notes_status [] = 0
notes_status (n ∷ notes) = 1

abbrev pub status_of : ℕ → List ℕ → ℕ
status_of faults notes = if faults == 0 then notes_status notes else 1

-- nothing was checked: this is said, and nothing is written
pub record NothingIsChecked (said : List ℕ) (a : CheckAnswer) : Type 0 where
  pub status : a.status ≡ 2
  pub text : string_bytes a.text ≡ []
  pub says : string_bytes a.said ≡ said

-- the faults of a snapshot were told: what is written is a report on them, and what is said is what was left out and passed over
pub record SnapshotIsTold (look : Look) (scope : ScopeModel) (given : List ℕ) (ps : List PackageModel) (faults : List PlacedFault) (notes passed : List ℕ) (a : CheckAnswer) : Type 0 where
  pub report : Report
  pub told : AreTold look scope given ps faults report
  pub status : a.status ≡ status_of report.faults notes
  pub text : string_bytes a.text ≡ string_bytes report.text
  pub said : string_bytes a.said ≡ notes ++ passed

-- the packages of a workspace were checked, and the faults of their snapshot told
pub record WorkspaceIsChecked (look : Look) (scope : ScopeModel) (given : List ℕ) (ps : List PackageModel) (notes passed : List ℕ) (a : CheckAnswer) : Type 0 where
  pub parts : List (Option PartModel)
  pub faults : List PlacedFault
  pub snapshot : IsSnapshot ps parts faults
  pub told : SnapshotIsTold look scope given ps faults notes passed a

-- the answer on what came of the reading of a folder
abbrev pub IsAnswerOn : Look → ReadModel → CheckAnswer → Type 0
IsAnswerOn look (Refused said) a = NothingIsChecked said a
IsAnswerOn look (Found own ps scope notes passed) a = (given : List ℕ) × WorkspaceIsChecked look scope given ps notes passed a

-- how faults are written, where it is asked for so: with colours as it is asked for, be it where a terminal reads them
abbrev pub HasColor : Color → Bool → Type 0
HasColor color.Always is = is ≡ true
HasColor color.Never is = is ≡ false
HasColor color.Auto is = Unit {0}

pub record IsLook (style : Style) (look : Look) : Type 0 where
  pub form : look.format ≡ style.format
  pub all : look.all ≡ style.all
  pub color : HasColor style.color look.color
  pub source : style.source ≡ true → look.source ≡ true

-- the answer of a check of a folder, as it was read
pub record IsAnswerOfCheck (folder : List ℕ) (style : Style) (given : Option (List ℕ)) (a : CheckAnswer) : Type 0 where
  pub look : Look
  pub is : IsLook style look
  pub came : ReadModel
  pub read : IsReadOf folder given came
  pub answer : IsAnswerOn look came a
