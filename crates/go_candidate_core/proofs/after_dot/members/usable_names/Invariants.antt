use Rattle.std.proofs.Common.{◌≡◌, ◌++◌}
use Rattle.std.specs.Vec.Iter.{into_iter_items}
use Rattle.go_candidate_core.specs.after_dot.mirrors.Usable.{usable_names}
use Rattle.go_candidate_core.proofs.after_dot.members.usable_names.Given as goal

abbrev pub invariant-listed : goal.invariant-listed
invariant-listed l = (goal.iterator-listed).can_next l.name-iterator × (goal.iterator-listed).is_finite l.name-iterator × (l.names.items ++ usable_names l.usage l.is_addressable (into_iter_items l.name-iterator) ≡ usable_names l.usage l.is_addressable l.fn.listed.items)
