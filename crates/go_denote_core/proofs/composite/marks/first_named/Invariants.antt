use Rattle.std.proofs.Common.{◌≡◌, map, drop}
use Rattle.go_denote_core.specs.composite.Marks.{name_number_from}
use Rattle.go_denote_core.proofs.composite.marks.first_named.Given as goal

abbrev pub invariant-loop-at : goal.invariant-loop-at
invariant-loop-at l = name_number_from l.at (map (λ m. m.now) (drop l.at l.names.items)) l.name ≡ name_number_from 0 (map (λ m. m.now) l.names.items) l.name
