use Rattle.std.proofs.Common.{◌≡◌, ◌++◌, drop, map}
use Rattle.go_machine_core.specs.link.mirrors.Numbering.{found_in}
use Rattle.go_machine_core.proofs.link.functions.callees_of.Given as goal

abbrev pub invariant-loop-reference : goal.invariant-loop-reference
invariant-loop-reference g l =
    map (λ d. found_in l.numbers.entries (g.P.Places.place_of l.places d)) l.references
    ≡ l.callees.items ++ map (λ d. found_in l.numbers.entries (g.P.Places.place_of l.places d)) (drop l.reference-index l.references)
