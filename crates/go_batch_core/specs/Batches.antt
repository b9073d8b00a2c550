-- A batch: the workspace that it compiles, what is done with the action of each package, and the parts that are there.
use Rattle.std.specs.Prelude.{◌≡◌, ℕ, ◌+◌, Bool, true, false, if◌then◌else◌, List, [], ◌∷◌, Option, Some, None, length, slice_get, slice_set}
use Rattle.go_digraph_core.specs.declared.cycle.edge.Edge.{Edge}
use Rattle.go_block_core.specs.graph_core.Workspaces.{PackageModel}
use Rattle.go_block_core.specs.graph_core.Packages.{trees_of}
use Rattle.go_block_core.specs.graph_core.Plans.{IsAssembledAt}
use Rattle.go_block_core.specs.Naming.{AreInPackage}
use Rattle.go_package_core.specs.package_part.Inputs.{InputModel, IsInput}
use Rattle.go_package_core.specs.package_part.Parts.{ContentOf, IsPart, PartModel}
use Rattle.go_snap_core.specs.whole_workspace.Inputs.{ComesTo, IsInputAt, IsPassingImport}
use Rattle.go_batch_core.specs.declared.batch.Ending.{Ending}
use Rattle.go_batch_core.specs.declared.batch.Next.{Next}
use Rattle.go_batch_core.specs.declared.slot.Slot.{Slot}
use Rattle.go_batch_core.specs.declared.tell.Tell.{Tell}
use Rattle.go_batch_core.specs.declared.slot.Slot.TheVariants.{NoAction, Untaken, Taken, Finished}

-- packages by their numbers in the workspace
pub record BatchModel : Type 0 where
  pub sources : List PackageModel
  pub slots : List Slot
  pub parts : List (Option PartModel)

abbrev pub batch_with : List PackageModel → List Slot → List (Option PartModel) → BatchModel
batch_with sources slots parts = record { sources = sources; slots = slots; parts = parts }

-- the action is not finished
abbrev pub is_left : Slot → Bool
is_left NoAction = false
is_left Untaken = true
is_left (Taken number input) = true
is_left Finished = false

abbrev pub unfinished : List Slot → ℕ
unfinished [] = 0
unfinished (s ∷ ss) = if is_left s then 1 + unfinished ss else unfinished ss

-- how many actions are not finished
abbrev pub actions_left : BatchModel → ℕ
actions_left b = unfinished b.slots

-- the actions of the packages that this package imports are finished
abbrev pub AreImportsFinished : List PackageModel → List Slot → ℕ → Type 0
AreImportsFinished ps slots n = (e : Edge) → IsPassingImport ps e → e.from ≡ n → slice_get slots e.to ≡ Some Finished

-- the action of a package is not taken, and those that it waits for are finished
pub record IsReady (b : BatchModel) (n : ℕ) : Type 0 where
  pub untaken : slice_get b.slots n ≡ Some Untaken
  pub imports : AreImportsFinished b.sources b.slots n

-- an action for each assembled package of this workspace, and none is taken
pub record IsBegun (ps : List PackageModel) (b : BatchModel) : Type 0 where
  pub sources : b.sources ≡ ps
  pub assembled : (n : ℕ) → IsAssembledAt ps n → slice_get b.slots n ≡ Some Untaken
  pub others : (n : ℕ) (s : Slot) → slice_get b.slots n ≡ Some s → (IsAssembledAt ps n → ⊥) → s ≡ NoAction
  pub many : length b.slots ≡ length ps
  pub parts : (n : ℕ) (o : Option PartModel) → slice_get b.parts n ≡ Some o → o ≡ None

-- an action that is ready, with its input, which is the one that is awaited
pub record IsNext (b : BatchModel) (x : Next) : Type 0 where
  pub ready : IsReady b x.place
  pub input : IsInputAt b.sources b.parts x.place x.input
  pub awaited : x.awaited ≡ x.input

-- an input has the files of the package of a number, and what its imports come to in the batch
pub record HasImports (b : BatchModel) (n : ℕ) (i : InputModel) : Type 0 where
  pub numbered : slice_get b.sources n ≡ Some i.source
  pub imports : AreInPackage (ComesTo b.sources b.parts) n (trees_of i.source.1) i.imports

-- each input that the package of a number has in the batch gives this content
pub record StandsOnInputs (b : BatchModel) (n : ℕ) (c : ContentOf) : Type 0 where
  pub each : (i : InputModel) → IsInput i → IsInputAt b.sources b.parts n i → IsPart i c

-- a ready action is handed out under a number, with its input
pub record HandsOut (b : BatchModel) (number : ℕ) (input : InputModel) (after : BatchModel) : Type 0 where
  pub place : ℕ
  pub ready : IsReady b place
  pub of_package : IsInputAt b.sources b.parts place input
  pub slots : after ≡ record b { slots = slice_set b.slots place (Taken number input) }

-- no action is ready
abbrev pub NoneReady : BatchModel → Type 0
NoneReady b = (n : ℕ) → IsReady b n → ⊥

-- the package's action was taken under this number, with the input of this part, and is not finished
abbrev pub Awaits : BatchModel → ℕ → ℕ → PartModel → Type 0
Awaits b n number part = slice_get b.slots n ≡ Some (Taken number part.input)

abbrev pub with_part : BatchModel → ℕ → PartModel → BatchModel
with_part b n part = batch_with b.sources (slice_set b.slots n Finished) (slice_set b.parts n (Some part))

-- an action that was taken is finished by a part of its input
pub record Gets (b : BatchModel) (number : ℕ) (part : PartModel) (after : BatchModel) : Type 0 where
  pub place : ℕ
  pub awaits : Awaits b place number part
  pub slots : after ≡ with_part b place part

-- no action was taken under this number with the input of this part, and is not finished
abbrev pub IsForeign : BatchModel → ℕ → PartModel → Type 0
IsForeign b number part = (n : ℕ) → Awaits b n number part → ⊥

-- each input that is awaited under this number is this one
abbrev pub IsKnown : BatchModel → ℕ → InputModel → Type 0
IsKnown b number input = (n : ℕ) (i : InputModel) → slice_get b.slots n ≡ Some (Taken number i) → i ≡ input

abbrev pub tell : ℕ → PartModel → Tell
tell place part = record { place = place; part = part }

-- an action that was taken ends by a part
pub record IsEnding (b : BatchModel) (e : Ending) : Type 0 where
  pub number : ℕ
  pub awaits : Awaits b e.place number e.part
  pub tells : e.tell ≡ tell e.place e.part

-- where actions are left, one is ready
abbrev pub IsBusy : BatchModel → Type 0
IsBusy b = (actions_left b ≡ 0 → ⊥) → NoneReady b → ⊥
