-- What actions of one batch know of one another: of each path they see one summary.
use Rattle.std.specs.Prelude.{◌≡◌, ◌<◌, ◌≤◌, ◌⊎◌, ℕ, List, Option, Some, None, ⊤, Contains, length, slice_get}
use Rattle.go_batch_core.specs.summary_core.Summaries.{SummaryModel, path_of}
use Rattle.go_submit_core.specs.package_core.PackagePartInputs.{InputModel}
use Rattle.go_submit_core.specs.package_core.PackagePartParts.{PartModel}
use Rattle.go_submit_core.specs.snap_core.WholeWorkspaceInputs.{Tells}
use Rattle.go_batch_core.specs.seen.Sights.{Agrees, IsOf}
use Rattle.go_batch_core.specs.Batches.{BatchModel}
use Rattle.go_batch_core.specs.Telling.{IsToldOnce}
use Rattle.go_batch_core.specs.declared.slot.Slot.TheVariants.{Finished, Taken}
use Rattle.go_sched_core.specs.declared.event.Action.{Action}
use Rattle.go_sched_core.specs.declared.running.Running.{Running}

-- what the packages of the batch that runs tell is one summary for each path
abbrev pub RunsOnce : Option Running → Type 0
RunsOnce None = ⊤
RunsOnce (Some r) = IsToldOnce r.batch

-- the generation of the batch that runs was given
abbrev pub IsGeneration : Option Running → ℕ → Type 0
IsGeneration None generations = ⊤
IsGeneration (Some r) generations = r.generation ≤ generations

-- a package that is finished tells this
pub record IsToldAt (b : BatchModel) (s : SummaryModel) : Type 0 where
  pub place : ℕ
  pub slot : slice_get b.slots place ≡ Some Finished
  pub tells : Tells b.parts place s

-- the package of a place has a part of an input
pub record IsEndedAt (b : BatchModel) (place : ℕ) (input : InputModel) : Type 0 where
  pub slot : slice_get b.slots place ≡ Some Finished
  pub part : PartModel
  pub there : slice_get b.parts place ≡ Some (Some part)
  pub made : part.input ≡ input

-- the package of a place is taken under a number with an input, or has a part of it
pub record IsOwnAt (b : BatchModel) (place number : ℕ) (input : InputModel) : Type 0 where
  pub within : place < length b.parts
  pub is : (slice_get b.slots place ≡ Some (Taken number input)) ⊎ IsEndedAt b place input

-- what an input reaches is told in a batch, and its package is taken with it, or has a part of it
pub record IsToldIn (b : BatchModel) (number : ℕ) (input : InputModel) : Type 0 where
  pub reached : (s : SummaryModel) → Contains input.reached s → IsToldAt b s
  pub place : ℕ
  pub own : IsOwnAt b place number input

-- while the batch of a generation runs, this is so of an action of it
abbrev pub WhileRuns : Option Running → ℕ → ℕ → InputModel → Type 0
WhileRuns None generation number input = ⊤
WhileRuns (Some r) generation number input = r.generation ≡ generation → IsToldIn r.batch number input

-- a summary that is of the one input, and one of its path that the other reaches are one
abbrev pub AgreeOf : InputModel → InputModel → Type 0
AgreeOf i j = (s r : SummaryModel) → IsOf i s → Contains j.reached r → path_of s ≡ path_of r → s ≡ r

-- an action agrees with each of these that is of its generation
abbrev pub KnowsOthers : List Action → Action → Type 0
KnowsOthers log a = (k : ℕ) (b : Action) → slice_get log k ≡ Some b → b.generation ≡ a.generation → AgreeOf b.input a.input

-- a summary is of the input of one of these actions, of a generation
pub record IsOfAction (log : List Action) (generation : ℕ) (s : SummaryModel) : Type 0 where
  pub place : ℕ
  pub action : Action
  pub there : slice_get log place ≡ Some action
  pub same : action.generation ≡ generation
  pub is : IsOf action.input s

-- each of these summaries is
abbrev pub AreOfActions : List Action → ℕ → List SummaryModel → Type 0
AreOfActions log generation ss = (s : SummaryModel) → Contains ss s → IsOfAction log generation s

-- an action is one of these
abbrev pub IsListed : List Action → Action → Type 0
IsListed log a = (k : ℕ) × (slice_get log k ≡ Some a)

-- what is seen for an action: what is of actions of its generation, and of each path that its input reaches no other summary than is reached
pub record Serves (log : List Action) (a : Action) (ss : List SummaryModel) : Type 0 where
  pub of_actions : AreOfActions log a.generation ss
  pub agrees : Agrees ss a.input.reached
