use Rattle.std.proofs.Common.{◌≡◌, map, drop}
use Rattle.go_scope_stack.specs.Blocks.{list_names}
use Rattle.go_scope_stack.proofs.name_list.NameList.add_all.Given as goal

abbrev pub invariant-loop-name : goal.invariant-loop-name
invariant-loop-name l = list_names l.self (map (λ n. n.now) (drop l.name-index l.more)) ≡ list_names l.fn.self (map (λ n. n.now) l.more)
