use Rattle.std.proofs.Common.{◌≡◌, ℕ, List, map, drop}
use Rattle.go_denote_core.specs.composite.Marks.{name_number_from}
use Rattle.go_denote_core.specs.composite.mirrors.Numbers.{number_of, first_known}
use Rattle.go_denote_core.proofs.composite.marks.numbers_of.Given as goal

abbrev pub invariant-loop-at : goal.invariant-loop-at
invariant-loop-at l =
    (n : List ℕ) → first_known (number_of l.numbers.entries n) (name_number_from l.at (map (λ m. m.now) (drop l.at l.names.items)) n) ≡ name_number_from 0 (map (λ m. m.now) l.names.items) n
