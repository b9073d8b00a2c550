use Rattle.std.proofs.Common.{◌≡◌, ◌||◌, ℕ, List}
use Rattle.go_select_core.specs.mirrors.Names.{names_shown}
use Rattle.go_select_core.specs.surveys.mirrors.Seen.{has_word, has_hidden}
use Rattle.go_select_core.proofs.surveys.names.hidden_in.Given as goal

abbrev pub invariant-names : goal.invariant-names
invariant-names l =
    (goal.iterator-names).can_next l.id-iterator × (goal.iterator-names).is_finite l.id-iterator
    × ((n : List ℕ) → (has_word l.hidden.keys n || has_hidden (names_shown l.id-iterator) n) ≡ has_hidden (names_shown l.names.known.entries) n)
