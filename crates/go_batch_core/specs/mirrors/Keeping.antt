-- What a batch keeps.
use Rattle.std.specs.Prelude.{◌≡◌, ◌≤◌, ◌+◌, ℕ, List, Option, Some, None, ⊤, map, length, slice_get}
use Rattle.go_block_core.specs.graph_core.Workspaces.{PackageModel, AreAllRead}
use Rattle.go_block_core.specs.graph_core.Plans.{AreImporters, IsAssembledAt, PlanModel}
use Rattle.go_digraph_core.specs.reach.Numbers.{Numbers}
use Rattle.go_summary_core.specs.Summaries.{SummaryModel}
use Rattle.go_package_core.specs.package_part.Parts.{PartModel, IsPart}
use Rattle.go_snap_core.specs.whole_workspace.Inputs.{IsInputAt}
use Rattle.go_snap_core.specs.make.Telling.{told_of}
use Rattle.go_digraph_core.specs.declared.ready_queue.mark.Mark.{Mark}
use Rattle.go_digraph_core.specs.declared.ready_queue.mark.Mark.TheVariants as mark
use Rattle.go_digraph_core.specs.ready_queue.Turns.{TurnsModel}
use Rattle.go_batch_core.specs.declared.slot.Slot.{Slot}
use Rattle.go_batch_core.specs.declared.slot.Slot.TheVariants.{NoAction, Untaken, Taken, Finished}
use Rattle.go_batch_core.specs.Batches.{AreImportsFinished, actions_left, batch_with}
pub use Rattle.go_batch_core.specs.Planning.{IsPlanned}
use Rattle.go_batch_core.specs.declared.tell.Tell.{Tell}
use Rattle.go_batch_core.specs.mirrors.Tells.{AreWithin, with_tells}

abbrev pub mark_of : Slot → Mark
mark_of NoAction = mark.Absent
mark_of Untaken = mark.Waiting
mark_of (Taken number input) = mark.Taken
mark_of Finished = mark.Finished

-- nothing is done with the action
abbrev pub IsFreshSlot : Slot → Type 0
IsFreshSlot NoAction = ⊤
IsFreshSlot Untaken = ⊤
IsFreshSlot (Taken number input) = ⊥
IsFreshSlot Finished = ⊥

pub record AreFreshSlots (slots : List Slot) : Type 0 where
  pub each : (n : ℕ) (s : Slot) → slice_get slots n ≡ Some s → IsFreshSlot s

-- the files of the package whose part is awaited are as they are read
abbrev pub IsReadSlot : Slot → Type 0
IsReadSlot NoAction = ⊤
IsReadSlot Untaken = ⊤
IsReadSlot (Taken number input) = AreAllRead input.source
IsReadSlot Finished = ⊤

-- what a part is there for is finished, and made of what the workspace and the other parts give
abbrev pub IsSlotRight : List PackageModel → List Slot → List (Option PartModel) → ℕ → Slot → Option PartModel → Type 0
IsSlotRight ps slots parts n NoAction None = IsAssembledAt ps n → ⊥
IsSlotRight ps slots parts n Untaken None = IsAssembledAt ps n
IsSlotRight ps slots parts n (Taken number input) None = IsAssembledAt ps n × IsInputAt ps parts n input × AreImportsFinished ps slots n
IsSlotRight ps slots parts n Finished (Some p) = IsAssembledAt ps n × IsInputAt ps parts n p.input × AreImportsFinished ps slots n × IsPart p.input p.content
IsSlotRight ps slots parts n NoAction (Some p) = ⊥
IsSlotRight ps slots parts n Untaken (Some p) = ⊥
IsSlotRight ps slots parts n (Taken number input) (Some p) = ⊥
IsSlotRight ps slots parts n Finished None = ⊥

pub record IsRight (ps : List PackageModel) (slots : List Slot) (parts : List (Option PartModel)) (n : ℕ) (s : Slot) : Type 0 where
  pub part : Option PartModel
  pub there : slice_get parts n ≡ Some part
  pub right : IsSlotRight ps slots parts n s part

pub record AreRight (ps : List PackageModel) (slots : List Slot) (parts : List (Option PartModel)) : Type 0 where
  pub many : length slots ≡ length ps
  pub many_parts : length parts ≡ length ps
  pub each : (n : ℕ) (s : Slot) → slice_get slots n ≡ Some s → IsRight ps slots parts n s

pub record IsKept (ps : List PackageModel) (plan : PlanModel) (sets : List Numbers) (turns : TurnsModel) (slots : List Slot) (parts : List (Option PartModel)) (told : List (Option SummaryModel)) (untold : List Tell) (room left : ℕ) : Type 0 where
  pub plans : IsPlanned ps plan sets
  pub importers : AreImporters plan turns.needing
  pub rows : length turns.needing ≡ length plan.outcomes
  pub marks : turns.marks ≡ map mark_of slots
  pub right : AreRight ps slots parts
  pub tells : with_tells told untold ≡ told_of parts
  pub within : AreWithin (length told) untold
  pub has_room : length untold + left ≤ room
  pub counted : left ≡ actions_left (batch_with ps slots parts)
