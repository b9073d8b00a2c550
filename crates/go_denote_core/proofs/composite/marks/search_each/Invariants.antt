use Rattle.std.proofs.Common.{◌≡◌, map, take}
use Rattle.go_denote_core.specs.composite.mirrors.Numbers.{searched_mark}
use Rattle.go_denote_core.proofs.composite.marks.search_each.Given as goal

abbrev pub invariant-loop-name : goal.invariant-loop-name
invariant-loop-name l = l.all.items ≡ map (searched_mark (map (λ n. n.now) l.again.keys) (map (λ n. n.now) l.fields.items)) (map (λ n. n.now) (take l.name-index l.names))
