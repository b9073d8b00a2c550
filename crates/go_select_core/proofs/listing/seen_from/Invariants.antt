use Rattle.std.proofs.Common.{◌≡◌, ◌++◌}
use Rattle.std.specs.Vec.Iter.{into_iter_items}
use Rattle.go_select_core.specs.mirrors.Listings.{seen_of}
use Rattle.go_select_core.proofs.listing.seen_from.Given as goal

abbrev pub invariant-found : goal.invariant-found
invariant-found l = (goal.iterator-found).can_next l.selected-iterator × (goal.iterator-found).is_finite l.selected-iterator × (l.listed.items ++ seen_of l.from (into_iter_items l.selected-iterator) ≡ seen_of l.from l.fn.found.items)
