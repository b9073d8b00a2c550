use Rattle.std.proofs.Common.{◌≡◌, ◌++◌, map, take, drop}
use Rattle.go_scope_stack.proofs.name_list.NameList.to_list.Given as goal

abbrev pub invariant-loop-name : goal.invariant-loop-name
invariant-loop-name l = map (λ n. n.now) l.list.items ≡ map (λ n. n.now) (take l.name-index l.name-items)

abbrev pub invariant-loop-other : goal.invariant-loop-other
invariant-loop-other l = map (λ n. n.now) l.list.items ++ map (λ n. n.now) (drop l.other-index l.other-items) ≡ l.self
