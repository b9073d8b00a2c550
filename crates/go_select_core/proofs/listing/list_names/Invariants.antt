use Rattle.std.proofs.Common.{◌≡◌, ◌++◌}
use Rattle.go_select_core.specs.mirrors.Names.{names_shown}
use Rattle.go_select_core.specs.mirrors.Listings.{listed_of}
use Rattle.go_select_core.proofs.listing.list_names.Given as goal

abbrev pub invariant-names : goal.invariant-names
invariant-names l =
    (goal.iterator-names).can_next l.known-iterator × (goal.iterator-names).is_finite l.known-iterator
    × (l.listed.items ++ listed_of l.survey.levels.trails l.survey.levels.types.items l.by_pointer l.with_methods (names_shown l.known-iterator) ≡ listed_of l.survey.levels.trails l.survey.levels.types.items l.by_pointer l.with_methods (names_shown l.survey.names.known.entries))
