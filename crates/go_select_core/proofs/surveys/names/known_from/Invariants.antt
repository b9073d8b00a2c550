use Rattle.std.proofs.Common.{◌≡◌, ℕ, List}
use Rattle.go_select_core.specs.mirrors.Names.{identifier_of, names_shown, known_of}
use Rattle.go_select_core.specs.surveys.mirrors.Seen.{seen_of, first_seen}
use Rattle.go_select_core.proofs.surveys.names.known_from.Given as goal

abbrev pub invariant-names : goal.invariant-names
invariant-names l =
    (goal.iterator-names).can_next l.id-iterator × (goal.iterator-names).is_finite l.id-iterator
    × ((n : List ℕ) → first_seen (seen_of l.known.entries n) (known_of (names_shown l.id-iterator) (identifier_of n l.from)) ≡ known_of (names_shown l.names.known.entries) (identifier_of n l.from))
