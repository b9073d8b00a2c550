-- The search for the occurrence that covers a place, step by step.
use Rattle.std.specs.Prelude.{ℕ, ◌+◌, ◌-◌, ◌^◌, min, if◌then◌else◌}
use Rattle.go_tree_core.specs.declared.occurrence.Occ.{Occ}
use Rattle.go_tree_core.specs.declared.seek.Sought.{Sought}
use Rattle.go_tree_core.specs.declared.seek.Sought.TheVariants.{Found, Passed}
use Rattle.go_tree_core.specs.Occurrences.{covers}

-- the number after this one, among those of the machine
abbrev pub counted : ℕ → ℕ
counted passed = min (passed + 1) (2 ^ 64 - 1)

-- what a search has come to behind one more occurrence: the number of the first that covers the place,
-- or else how many have been passed
abbrev pub sought_next : ℕ → Sought → Occ → Sought
sought_next offset (Found n) o = Found n
sought_next offset (Passed p) o = if covers offset o then Found p else Passed (counted p)
