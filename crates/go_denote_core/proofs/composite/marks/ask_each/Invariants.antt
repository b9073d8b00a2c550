use Rattle.std.proofs.Common.{◌≡◌, map, take}
use Rattle.go_denote_core.specs.composite.Marks.{type_fields}
use Rattle.go_denote_core.specs.composite.mirrors.Numbers.{asked_mark}
use Rattle.go_denote_core.proofs.composite.marks.ask_each.Given as goal

abbrev pub invariant-loop-name : goal.invariant-loop-name
invariant-loop-name g l = l.all.items ≡ map (asked_mark (map (λ n. n.now) l.again.keys) (type_fields (g.E.Literals.literals l.env) l.t)) (map (λ n. n.now) (take l.name-index l.names))
