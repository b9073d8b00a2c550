use Rattle.std.proofs.Common.{◌≡◌, ◌≤◌, List, Option, length}
use Rattle.std.specs.Prelude.{vec_capacity}
use Rattle.std.specs.List.Sorted.{IsPermutation}
use Rattle.go_emit_core.specs.package_core.PackagePartParts.{PartModel}
use Rattle.go_snap_core.specs.whole_workspace.Inputs.{AreParts}
use Rattle.go_snap_core.proofs.Putting.{IsPut}
use Rattle.go_snap_core.proofs.snapshot.put_parts.Given as goal
use Rattle.go_emit_core.specs.package_core.PackagePartSlots.{somes}

abbrev pub invariant-loop-part : goal.invariant-loop-part
invariant-loop-part l =
    ((all : List (Option PartModel)) → AreParts l.packages all → IsPermutation (somes all) l.initial.parts.items → IsPut all l.slots l.parts.items)
    × (length l.slots ≡ length l.packages)
    × (length l.initial.parts.items ≤ vec_capacity l.parts)

abbrev pub decreases-loop-part : goal.decreases-loop-part
decreases-loop-part l = length l.parts.items
