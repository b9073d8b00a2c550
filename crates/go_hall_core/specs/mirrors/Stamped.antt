-- The actions that a hall stamped.
use Rattle.std.specs.Prelude.{◌≡◌, ◌≤◌, ℕ, List, Some, slice_get}
use Rattle.go_sched_core.specs.Outs.{AreNumbered, KnowsInput}
use Rattle.go_sched_core.specs.Service.{Service}
use Rattle.go_sched_core.specs.Sights.{IsGeneration, WhileRuns}
use Rattle.go_sched_core.specs.declared.event.Action.{Action}

-- the action's number and its generation were given; where it is not finished, it was handed out with its input; and while its batch runs, what it reaches is
-- told there
pub record IsStamped (s : Service) (a : Action) : Type 0 where
  pub given : a.number ≤ s.actions
  pub knows : KnowsInput s a.number a.input
  pub generation : a.generation ≤ s.generations
  pub told : WhileRuns s.running a.generation a.number a.input

pub record AreStamped (stamped : List Action) (s : Service) : Type 0 where
  pub numbered : AreNumbered s
  pub generation : IsGeneration s.running s.generations
  pub each : (k : ℕ) (a : Action) → slice_get stamped k ≡ Some a → IsStamped s a
