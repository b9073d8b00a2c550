-- How many opens and submits stand in a history.
use Rattle.std.specs.Prelude.{ℕ, ◌+◌, List, [], ◌∷◌}
use Rattle.go_sched_core.specs.declared.event.Event.{Event}
use Rattle.go_sched_core.specs.declared.event.Event.TheVariants.{Open, Submit}

abbrev pub open_count : Event → ℕ
open_count (Open m) = 1
open_count _ = 0

abbrev pub submit_count : Event → ℕ
submit_count (Submit id tree) = 1
submit_count _ = 0

abbrev pub opens_in : List Event → ℕ
opens_in [] = 0
opens_in (e ∷ es) = open_count e + opens_in es

abbrev pub submits_in : List Event → ℕ
submits_in [] = 0
submits_in (e ∷ es) = submit_count e + submits_in es
