use Rattle.std.proofs.Common.{◌≡◌, ◌++◌, [], ◌∷◌, drop}
use Rattle.go_expr_core.specs.Looks.{everywhere}
use Rattle.go_stmt_core.specs.piece.Targets.{short_targets}
use Rattle.go_stmt_core.specs.piece.mirrors.Later.{later_idents}
use Rattle.go_stmt_core.proofs.piece.shorts.short_targets.Given as goal

abbrev pub invariant-loop-next : goal.invariant-loop-next
invariant-loop-next g l =
    let looks = everywhere (g.E.TypeLooks.types l.env) (g.E.Names.names l.env) (g.E.Literals.literals l.env) (g.E.Exprs.written l.env) in
    l.all.items ++ short_targets looks l.flags l.seen (later_idents (drop l.next-index l.next-items)) ≡ short_targets looks l.firsts [] (l.names.first ∷ later_idents l.next-items)
