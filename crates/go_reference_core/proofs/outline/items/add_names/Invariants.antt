use Rattle.std.proofs.Common.{◌≡◌, ◌++◌, ◌∷◌, [], map, take}
use Rattle.std.specs.List.{flat_map}
use Rattle.go_reference_core.specs.outline.Outlines.{entry, entry_shown}
use Rattle.go_reference_core.proofs.OutlineListed.{next_entries}
use Rattle.go_reference_core.proofs.outline.items.add_names.Given as goal

abbrev pub invariant-loop-next : goal.invariant-loop-next
invariant-loop-next l =
    map entry_shown l.entries.items ≡ map entry_shown l.fn.entries.items ++ (entry l.idents.first l.kind l.is_member l.part.start l.part.end l.part.end ∷ [] ++ flat_map (next_entries l.kind l.is_member l.part.start l.part.end) (take l.next-index l.next-items))
