use Rattle.std.proofs.Common.{◌∷◌, map, take}
use Rattle.go_cursor_core.specs.mirrors.Searching.{Declares}
use Rattle.go_cursor_core.proofs.search.declare_idents.Given as goal

abbrev pub invariant-loop-next : goal.invariant-loop-next
invariant-loop-next l = Declares l.fn.search (l.names.first ∷ map (λ n. n.ident) (take l.next-index l.next-items)) l.search
