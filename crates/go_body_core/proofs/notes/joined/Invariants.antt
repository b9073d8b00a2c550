use Rattle.std.proofs.Common.{◌≡◌, ◌++◌}
use Rattle.std.specs.Vec.Iter.{into_iter_items}
use Rattle.go_body_core.specs.Notes.{all_uses, noted_faults, all_locals}
use Rattle.go_body_core.proofs.notes.joined.Given as goal

abbrev pub invariant-loop-next : goal.invariant-loop-next
invariant-loop-next l =
    (l.all.uses.items ++ all_uses (into_iter_items l.next-iterator) ≡ all_uses l.fn.notes.items)
    × (l.all.faults.items ++ noted_faults (into_iter_items l.next-iterator) ≡ noted_faults l.fn.notes.items)
    × (l.all.locals.items ++ all_locals (into_iter_items l.next-iterator) ≡ all_locals l.fn.notes.items)
