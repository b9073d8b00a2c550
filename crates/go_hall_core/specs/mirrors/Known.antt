-- What an action knows of those that were stamped before it, and what was seen for them.
use Rattle.std.specs.Prelude.{◌≡◌, ℕ, Bool, true, List}
use Rattle.go_package_core.specs.summary_core.Summaries.{SummaryModel}
use Rattle.go_sched_core.specs.Sights.{IsListed, KnowsOthers}
use Rattle.go_sched_core.specs.declared.event.Action.{Action}

-- an action, and those that were stamped up to it
pub record KnownModel : Type 0 where
  pub action : Action
  pub log : List Action

abbrev pub known_with : Action → List Action → KnownModel
known_with action log = record { action = action; log = log }

-- the action agrees with those of its generation, and stands among them where that is marked
pub record IsKnown (listed : Bool) (log : List Action) (a : Action) : Type 0 where
  pub there : listed ≡ true → IsListed log a
  pub known : KnowsOthers log a

-- what was seen for actions of a generation
pub record GatheredModel : Type 0 where
  pub sight : List SummaryModel
  pub generation : ℕ
  pub log : List Action

abbrev pub gathered_with : List SummaryModel → ℕ → List Action → GatheredModel
gathered_with sight generation log = record { sight = sight; generation = generation; log = log }
