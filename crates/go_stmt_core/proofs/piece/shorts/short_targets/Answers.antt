use Rattle.std.proofs.Common.{[], ◌∷◌, sym, ap, ◌∙◌}
use Rattle.go_expr_core.specs.Looks.{everywhere}
use Rattle.go_stmt_core.specs.piece.Targets.{short_targets}
use Rattle.go_stmt_core.specs.piece.mirrors.Later.{later_idents}
use Rattle.go_stmt_core.proofs.PieceListing.{names_listed}
use Rattle.go_stmt_core.proofs.PieceTurns.{short_ends}
use Rattle.go_stmt_core.proofs.piece.shorts.short_targets.Goals as goal

pub returns : goal.returns
returns g c =
    let looks = everywhere (g.E.TypeLooks.types c.args.env.now) (g.E.Names.names c.args.env.now) (g.E.Literals.literals c.args.env.now) (g.E.Exprs.written c.args.env.now) in
    let names = c.args.names.now in
    short_ends looks c.loop-next.flags.now c.loop-next.seen c.deref-next-items.result.now c.loop-next.next-index c.loop-next-test.false c.loop-next.all.items _ c.loop-next.invariant
    ∙ (ap (λ l. short_targets looks c.args.firsts.now [] (names.first ∷ later_idents l)) c.deref-next-items.ensures.value
    ∙ ap (short_targets looks c.args.firsts.now []) (sym (names_listed names.first names.more.items)))
