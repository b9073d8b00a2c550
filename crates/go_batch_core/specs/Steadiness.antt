-- What of a snapshot is as it was in the batch that runs behind it.
use Rattle.std.specs.Prelude.{◌≡◌, ◌↔◌, ℕ, Bool, true, false, List, Option, Some, ⊤, length, replicate, slice_get}
use Rattle.go_block_core.specs.graph_core.Workspaces.{PackageModel}
use Rattle.go_block_core.specs.graph_core.declared.imports.ImportAt.{ImportAt}
use Rattle.go_block_core.specs.graph_core.declared.imports.ImportOutcome.{ImportOutcome}
use Rattle.go_block_core.specs.graph_core.Imports.{IsOutcome}
use Rattle.go_summary_core.specs.Summaries.{SummaryModel}
use Rattle.go_package_core.specs.package_part.Inputs.{InputModel, path_in}
use Rattle.go_package_core.specs.package_part.Parts.{IsPart, PartModel}
use Rattle.go_snap_core.specs.Snapshots.{IsPartAt, SnapshotModel}
use Rattle.go_snap_core.specs.whole_workspace.Inputs.{IsInputAt, ReachesPackage, Tells}
use Rattle.go_locality_laws.specs.Beside.{TellsTypes}
use Rattle.go_batch_core.specs.Batches.{BatchModel, HasImports, StandsOnInputs}
use Rattle.go_batch_core.specs.declared.retold.Retold.{Retold}
use Rattle.go_batch_core.specs.declared.retold.Retold.TheVariants as retolds
use Rattle.go_batch_core.specs.declared.slot.Slot.TheVariants.{Taken, Finished}

-- marks by the numbers of packages: those that are the ones of the snapshot, those that are finished and tell something else, those that are finished and
-- tell other types, those that were handed out with the input of their earlier part, and those that were handed out with this part over another input
pub record SteadyModel : Type 0 where
  pub same : List Bool
  pub moved : List Bool
  pub retyped : List Bool
  pub kept : List Bool
  pub stood : List Bool

abbrev pub steady_with : List Bool → List Bool → List Bool → List Bool → List Bool → SteadyModel
steady_with same moved retyped kept stood = record { same = same; moved = moved; retyped = retyped; kept = kept; stood = stood }

-- what a part tells beside what another told

abbrev pub is_moved : Retold → Bool
is_moved retolds.Same = false
is_moved retolds.SameTypes = true
is_moved retolds.OtherTypes = true

abbrev pub is_retyped : Retold → Bool
is_retyped retolds.Same = false
is_retyped retolds.SameTypes = false
is_retyped retolds.OtherTypes = true

-- that of a summary beside an earlier one
abbrev pub IsRetoldOf : Retold → SummaryModel → SummaryModel → Type 0
IsRetoldOf retolds.Same earlier s = s ≡ earlier
IsRetoldOf retolds.SameTypes earlier s = earlier.types ≡ s.types
IsRetoldOf retolds.OtherTypes earlier s = ⊤

-- that of a part beside the one that the package of a number had
abbrev pub IsRetold : Retold → List (Option PartModel) → ℕ → PartModel → Type 0
IsRetold retolds.Same parts n p = Tells parts n p.content.summary
IsRetold retolds.SameTypes parts n p = TellsTypes parts n p.content.summary
IsRetold retolds.OtherTypes parts n p = ⊤

-- the package of a number had this part
abbrev pub WasAt : List (Option PartModel) → ℕ → PartModel → Type 0
WasAt parts n p = slice_get parts n ≡ Some (Some p)

-- the package of a number is the same in two workspaces, what its imports come to there they come to here, and it reaches the same numbers
pub record IsSameAt (qs ps : List PackageModel) (n : ℕ) : Type 0 where
  pub source : slice_get qs n ≡ slice_get ps n
  pub outcomes : (at : ImportAt) (o : ImportOutcome) → at.«package» ≡ n → IsOutcome qs at o → IsOutcome ps at o
  pub reaches : (m : ℕ) → ReachesPackage qs n m ↔ ReachesPackage ps n m

-- each marked one is
abbrev pub AreSameAt : List PackageModel → List PackageModel → List Bool → Type 0
AreSameAt qs ps marks = (n : ℕ) → slice_get marks n ≡ Some true → IsSameAt qs ps n

-- the package of a number of these is the one of the snapshot, and if it has a part, that is made of the input of its earlier one
pub record IsAgainAt (s : SnapshotModel) (ps : List PackageModel) (parts : List (Option PartModel)) (n : ℕ) : Type 0 where
  pub earlier : PartModel
  pub was : WasAt s.parts n earlier
  pub source : slice_get ps n ≡ Some earlier.input.source
  pub made : (p : PartModel) → WasAt parts n p → earlier.input ≡ p.input

-- each marked one is
abbrev pub AreAgain : SnapshotModel → List PackageModel → List (Option PartModel) → List Bool → Type 0
AreAgain s ps parts marks = (n : ℕ) → slice_get marks n ≡ Some true → IsAgainAt s ps parts n

-- the part that the package of a number had in a snapshot has what an input of the same files gives
pub record IsStoodFor (s : SnapshotModel) (n : ℕ) (i : InputModel) : Type 0 where
  pub part : PartModel
  pub was : WasAt s.parts n part
  pub source : part.input.source ≡ i.source
  pub made : IsPart i part.content

-- the marks say which packages are the same as in the snapshot; a finished package without a mark tells what it told, and one without the other mark the
-- types that it told; a marked one that is taken was handed out with the input of its earlier part; one that is finished then has a part of this input; one
-- that was handed out with its earlier part over another input has what this part has; and none has a part that is not finished
pub record IsSteady (s : SnapshotModel) (b : BatchModel) (m : SteadyModel) : Type 0 where
  pub same : AreSameAt s.sources b.sources m.same
  pub many : length m.moved ≡ length b.slots
  pub moved : (n : ℕ) (p : PartModel) → slice_get b.parts n ≡ Some (Some p) → (slice_get m.moved n ≡ Some true → ⊥) → Tells s.parts n p.content.summary
  pub many_types : length m.retyped ≡ length b.slots
  pub retyped : (n : ℕ) (p : PartModel) → slice_get b.parts n ≡ Some (Some p) → (slice_get m.retyped n ≡ Some true → ⊥) → TellsTypes s.parts n p.content.summary
  pub kept : (n number : ℕ) (i : InputModel) → slice_get b.slots n ≡ Some (Taken number i) → slice_get m.kept n ≡ Some true → (p : PartModel) × WasAt s.parts n p × (p.input ≡ i)
  pub stood : (n number : ℕ) (i : InputModel) → slice_get b.slots n ≡ Some (Taken number i) → slice_get m.stood n ≡ Some true → IsStoodFor s n i
  pub again : AreAgain s b.sources b.parts m.kept
  pub finished : (n : ℕ) (p : PartModel) → WasAt b.parts n p → slice_get b.slots n ≡ Some Finished

-- no package is finished or handed out yet
pub record BeginsSteady (qs ps : List PackageModel) (m : SteadyModel) : Type 0 where
  pub same : AreSameAt qs ps m.same
  pub many : length m.same ≡ length ps
  pub moved : m.moved ≡ replicate (length m.same) false
  pub retyped : m.retyped ≡ replicate (length m.same) false
  pub kept : m.kept ≡ replicate (length m.same) false
  pub stood : m.stood ≡ replicate (length m.same) false

-- the earlier part of the package of a number: its imports come to what they came to, and it has what each input gives that the batch gives the package
pub record StandsAt (s : SnapshotModel) (b : BatchModel) (n : ℕ) (p : PartModel) : Type 0 where
  pub was : WasAt s.parts n p
  pub of_path : IsPartAt s.sources s.parts (path_in p.input) p
  pub imports : HasImports b n p.input
  pub over : StandsOnInputs b n p.content

-- the earlier part of the package of a number, whose input is the one that the batch gives the package
pub record StaysAt (s : SnapshotModel) (b : BatchModel) (n : ℕ) (p : PartModel) : Type 0 where
  pub was : WasAt s.parts n p
  pub of_path : IsPartAt s.sources s.parts (path_in p.input) p
  pub input : IsInputAt b.sources b.parts n p.input

-- the package of a number reaches none that is marked, where this is so
abbrev pub ReachesNoneIf : Bool → List PackageModel → ℕ → List Bool → Type 0
ReachesNoneIf is ps n marks = is ≡ true → (m : ℕ) → ReachesPackage ps n m → slice_get marks m ≡ Some true → ⊥
