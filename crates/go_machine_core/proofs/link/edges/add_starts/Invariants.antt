use Rattle.std.proofs.Common.{◌≡◌, ◌++◌, drop, map}
use Rattle.go_machine_core.specs.link.Reaching.{edge}
use Rattle.go_machine_core.proofs.link.edges.add_starts.Given as goal

abbrev pub invariant-loop-start : goal.invariant-loop-start
invariant-loop-start l = l.fn.edges.items ++ map (edge l.from) l.starts ≡ l.edges.items ++ map (edge l.from) (drop l.start-index l.starts)
