-- Shares that are compiled.
use Rattle.std.specs.Prelude.{◌≡◌, List, Option, Vec, map}
use Rattle.std.specs.declared.alloc.Global.{Global}
use Rattle.go_package_core.specs.package_part.Inputs.{InputModel}
use Rattle.go_package_core.specs.package_part.Parts.{PartModel}
use Rattle.go_parallel_core.specs.declared.shares.Work.{Work}
use Rattle.go_parallel_core.specs.declared.shares.Work.TheVariants.{Begun, Ended}
use Rattle.go_parallel_core.specs.Seen.{IsBeside}
use Rattle.go_parallel_core.specs.Told.{AreAllTold, input_of, summary_in}

-- inputs, as they are given away
abbrev pub items_of : Vec InputModel Global → List InputModel
items_of v = v.items

-- the inputs of a share
abbrev pub inputs_of : Work → List InputModel
inputs_of (Begun h) = h.promise.inputs.value.items
inputs_of (Ended d) = map input_of d.parts.items

-- it was begun over all that is told, or all that is told is seen after it, and what its parts tell
abbrev pub IsWorkIn : List (Option PartModel) → Work → Type 0
IsWorkIn parts (Begun h) = AreAllTold parts h.promise.sight.value
IsWorkIn parts (Ended d) = IsBeside parts (map summary_in d.parts.items) d.sight
