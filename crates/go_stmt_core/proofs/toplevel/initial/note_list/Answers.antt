use Rattle.go_expr_core.specs.Looks.{everywhere}
use Rattle.go_stmt_core.proofs.ToplevelLists.{all_listed}
use Rattle.go_stmt_core.proofs.toplevel.initial.note_list.Goals as goal

pub returns : goal.returns
returns g c =
    let looks = everywhere (g.E.TypeLooks.types c.args.env.now) (g.E.Names.names c.args.env.now) (g.E.Literals.literals c.args.env.now) (g.E.Exprs.written c.args.env.now) in
    let es = c.args.exprs.now in
    all_listed looks es.first es.more.items c.deref-next-items.result.now c.loop-next.next-index c.args.faults.now.items _ c.loop-next-test.false c.deref-next-items.ensures.value c.loop-next.invariant
