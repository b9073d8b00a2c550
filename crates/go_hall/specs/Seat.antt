-- What a contract sees of a session.
use Rattle.std.specs.Prelude.{ℕ, List, Option, Some, None}
use Rattle.go_hall_core.specs.submit_core.Trees.{TreeModel}
use Rattle.go_hall_core.specs.sched_core.declared.event.SessionId.{SessionId}
use Rattle.go_hall_core.specs.submit_core.declared.published.PublishedBatch.{PublishedBatch}
use Rattle.go_hall_core.specs.board_core.Views.{newcomer}
use Rattle.go_hall_core.specs.board_core.declared.rule.View.{View}

-- the session's number, its draft, what it saw of the board and was told of it, and how often it submitted
pub record Seat : Type 0 where
  pub id : SessionId
  pub draft : TreeModel
  pub seen : List PublishedBatch
  pub told : List PublishedBatch
  pub submits : ℕ

abbrev pub seat_with : SessionId → TreeModel → List PublishedBatch → List PublishedBatch → ℕ → Seat
seat_with id draft seen told submits = record { id = id; draft = draft; seen = seen; told = told; submits = submits }

abbrev pub view_by : {X : Type 0} → (X → View) → Option X → View
view_by f None = newcomer
view_by f (Some x) = f x
