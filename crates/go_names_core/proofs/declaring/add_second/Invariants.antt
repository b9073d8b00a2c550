use Rattle.std.proofs.Common.{◌≡◌, ◌++◌, map, length, drop}
use Rattle.go_names_core.specs.mirrors.Declaring.{faults_of_second}
use Rattle.go_names_core.proofs.declaring.add_second.Given as goal

abbrev pub invariant-loop-ident : goal.invariant-loop-ident
invariant-loop-ident l =
    l.fn.faults.items ++ faults_of_second l.is_short l.shorts (map (λ i. i.now) l.idents) ≡ l.faults.items ++ faults_of_second l.is_short (drop (length l.yielded) l.shorts) (map (λ i. i.now) (drop (length l.yielded) l.idents))
