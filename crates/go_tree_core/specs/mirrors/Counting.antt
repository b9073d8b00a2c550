-- The search for where the occurrence of a number begins, step by step.
use Rattle.std.specs.Prelude.{◌-◌, nat_eq, if◌then◌else◌}
use Rattle.go_tree_core.specs.declared.occurrence.Occ.{Occ}
use Rattle.go_tree_core.specs.declared.renaming.Counted.{Counted}
use Rattle.go_tree_core.specs.declared.renaming.Counted.TheVariants.{Begins, Left}

-- what a search has come to behind one more occurrence: where the one that is sought begins, or else how many stand before it
abbrev pub counted_next : Counted → Occ → Counted
counted_next (Begins start) o = Begins start
counted_next (Left left) o = if nat_eq left 0 then Begins o.span.start else Left (left - 1)
