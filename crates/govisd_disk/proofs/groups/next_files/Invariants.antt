use Rattle.std.proofs.Common.{◌≡◌, ◌++◌, length}
use Rattle.std.specs.Vec.Iter.{into_iter_items}
use Rattle.govisd_disk.proofs.groups.next_files.Given as goal

abbrev pub invariant-loop : goal.invariant-loop
invariant-loop l = (length l.taken.items ≡ l.counter) × (l.taken.items ++ into_iter_items l.files ≡ into_iter_items l.initial.files)
