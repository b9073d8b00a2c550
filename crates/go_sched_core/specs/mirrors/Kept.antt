-- What the core keeps.
use Rattle.std.specs.Prelude.{◌≡◌, ◌≤◌, ℕ, List, length, Option, Some, None, ⊤}
use Rattle.go_submit_core.specs.Published.{sources_of}
use Rattle.go_submit_core.specs.Submitted.{submitted}
use Rattle.go_sched_core.specs.declared.event.Held.{Held}
use Rattle.go_submit_core.specs.declared.published.PublishedBatch.{PublishedBatch}
use Rattle.go_batch_core.specs.Steadiness.{SteadyModel}
use Rattle.go_batch_core.specs.declared.planned.Planned.{Planned}
use Rattle.go_sched_core.specs.declared.running.Running.{Running}
use Rattle.go_sched_core.specs.mirrors.Beside.{IsPlannedFor, SteadyRuns}

-- the running batch compiles what is published with what was submitted
abbrev pub RunsOn : List PublishedBatch → Option Running → Type 0
RunsOn bs None = ⊤
RunsOn bs (Some r) = r.batch.sources ≡ submitted (sources_of bs) r.submissions

pub record IsKept (held : List Held) (room : ℕ) (bs : List PublishedBatch) (running : Option Running) (planned : Option Planned) (steady : Option SteadyModel) : Type 0 where
  pub few : length held ≤ 32
  pub has_room : 32 ≤ room
  pub runs : RunsOn bs running
  pub plans : IsPlannedFor bs planned
  pub steady_is : SteadyRuns bs running steady
