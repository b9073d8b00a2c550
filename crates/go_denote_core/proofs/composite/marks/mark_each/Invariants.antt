use Rattle.std.proofs.Common.{◌≡◌, map, take}
use Rattle.go_denote_core.specs.composite.mirrors.Numbers.{mark_by}
use Rattle.go_denote_core.proofs.composite.marks.mark_each.Given as goal

abbrev pub invariant-loop-name : goal.invariant-loop-name
invariant-loop-name l = l.all.items ≡ map (mark_by (map (λ n. n.now) l.again.keys) l.numbers.entries) (map (λ n. n.now) (take l.name-index l.names))
