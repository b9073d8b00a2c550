-- Which nodes of a graph may be taken.
use Rattle.std.specs.Prelude.{◌≡◌, ℕ, Bool, true, false, List, Some, Contains, slice_get}
use Rattle.go_digraph_core.specs.declared.ready_queue.mark.Mark.{Mark}
use Rattle.go_digraph_core.specs.declared.ready_queue.mark.Mark.TheVariants.{Absent, Waiting, Taken, Finished}

-- what is done with each node, and for each node those that need it, once for each need
pub record TurnsModel : Type 0 where
  pub marks : List Mark
  pub needing : List (List ℕ)

abbrev pub turns_with : List Mark → List (List ℕ) → TurnsModel
turns_with marks needing = record { marks = marks; needing = needing }

abbrev pub is_waiting : Mark → Bool
is_waiting Absent = false
is_waiting Waiting = true
is_waiting Taken = false
is_waiting Finished = false

-- the one node needs the other
abbrev pub Needs : List (List ℕ) → ℕ → ℕ → Type 0
Needs needing node other = (row : List ℕ) × (slice_get needing other ≡ Some row) × Contains row node

-- it is not taken yet, and what it needs is finished
pub record IsReady (t : TurnsModel) (node : ℕ) : Type 0 where
  pub waits : slice_get t.marks node ≡ Some Waiting
  pub needs : (other : ℕ) → Needs t.needing node other → slice_get t.marks other ≡ Some Finished
