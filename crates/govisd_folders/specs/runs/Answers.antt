-- What the run of a folder's program answers.
use Rattle.std.specs.Prelude.{ℕ, Bool, true, false, List, [], ◌∷◌, ◌++◌, Option, string_bytes}
use Rattle.go_folder_core.specs.declared.orders.Format.TheVariants as format
use Rattle.go_graph_core.specs.Workspaces.{PackageModel}
use Rattle.go_diagnostic_core.specs.snap_core.declared.fault.PlacedFault.{PlacedFault}
use Rattle.go_emit_core.specs.Emitted.{objects_of}
use Rattle.go_emit_core.specs.package_core.PackagePartParts.{PartModel}
use Rattle.go_emit_core.specs.package_core.PackagePartSlots.{somes}
use Rattle.go_diagnostic_core.specs.snap_core.Snapshots.{IsSnapshot}
use Rattle.govisd_folders.specs.declared.checking.CheckAnswer.{CheckAnswer}
use Rattle.govisd_disk.specs.Finds.{ReadModel, Refused, Found, IsReadOf}
use Rattle.govisd_disk.specs.Scopes.{ScopeModel}
use Rattle.govisd_folders.specs.Telling.{AreTold}
use Rattle.govisd_folders.specs.declared.looks.Look.{Look}
use Rattle.govisd_folders.specs.declared.telling.Report.{Report}
use Rattle.govisd_folders.specs.runs.Outcomes.{NothingRan}
use Rattle.govisd_folders.specs.runs.Runs.{AnswersMain}

-- there is no fault, and nothing was left out
abbrev pub is_clean : {A : Type 0} → List A → List ℕ → Bool
is_clean [] [] = true
is_clean [] (n ∷ notes) = false
is_clean (f ∷ faults) notes = false

-- lines alone, without colours and the source, of the faults that follow from none
abbrev pub plain_look : Look
plain_look = record { format = format.Text; all = false; color = false; source = false }

-- nothing ran: what was left out, what was passed over, and the faults of the module are said
pub record TellsFaults (own : List ℕ) (ps : List PackageModel) (faults : List PlacedFault) (notes passed : List ℕ) (a : CheckAnswer) : Type 0 where
  pub report : Report
  pub are : AreTold plain_look (own, []) [] ps faults report
  pub says : NothingRan (notes ++ passed ++ string_bytes report.text) a

-- the answer on a snapshot, by whether it is clean
abbrev pub AnswersSnapshot : Bool → List ℕ → ScopeModel → Option (List ℕ) → ℕ → List ℕ → List PackageModel → List (Option PartModel) → List PlacedFault → List ℕ → List ℕ → CheckAnswer → Type 0
AnswersSnapshot true folder scope main steps own ps parts faults notes passed a = AnswersMain folder scope ps (objects_of (somes parts)) passed main steps a
AnswersSnapshot false folder scope main steps own ps parts faults notes passed a = TellsFaults own ps faults notes passed a

-- the packages of a workspace were compiled: where nothing is amiss its program ran from the objects of the snapshot
pub record WorkspaceIsRun (folder : List ℕ) (scope : ScopeModel) (main : Option (List ℕ)) (steps : ℕ) (own : List ℕ) (ps : List PackageModel) (notes passed : List ℕ) (a : CheckAnswer) : Type 0 where
  pub parts : List (Option PartModel)
  pub faults : List PlacedFault
  pub snapshot : IsSnapshot ps parts faults
  pub answer : AnswersSnapshot (is_clean faults notes) folder scope main steps own ps parts faults notes passed a

-- the answer on what came of the reading of a folder
abbrev pub IsRunOn : List ℕ → Option (List ℕ) → ℕ → ReadModel → CheckAnswer → Type 0
IsRunOn folder main steps (Refused said) a = NothingRan said a
IsRunOn folder main steps (Found own ps scope notes passed) a = WorkspaceIsRun folder scope main steps own ps notes passed a

-- the answer of a run of a folder's program, as the folder was read
pub record IsAnswerOfRun (folder : List ℕ) (given main : Option (List ℕ)) (steps : ℕ) (a : CheckAnswer) : Type 0 where
  pub came : ReadModel
  pub read : IsReadOf folder given came
  pub answer : IsRunOn folder main steps came a
