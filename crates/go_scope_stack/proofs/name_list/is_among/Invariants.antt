use Rattle.std.proofs.Common.{◌≡◌, map, drop}
use Rattle.go_scope_stack.specs.Blocks.{is_listed}
use Rattle.go_scope_stack.proofs.name_list.is_among.Given as goal

abbrev pub invariant-loop-other : goal.invariant-loop-other
invariant-loop-other l = is_listed (map (λ n. n.now) (drop l.other-index l.names)) l.name ≡ is_listed (map (λ n. n.now) l.names) l.name
