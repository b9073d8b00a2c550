use Rattle.go_expr_core.specs.Looks.{everywhere}
use Rattle.go_expr_core.proofs.Steps.{ok_adds}
use Rattle.go_stmt_core.proofs.PieceHeads.{listed_types, listed_faults}
use Rattle.go_stmt_core.proofs.piece.headers.add_results.Goals as goal

pub returns-in-Listed-clause-types : goal.returns-in-Listed-clause-types
returns-in-Listed-clause-types g c =
    let looks = everywhere (g.E.TypeLooks.types c.args.env.now) (g.E.Names.names c.args.env.now) (g.E.Literals.literals c.args.env.now) (g.E.Exprs.written c.args.env.now) in
    ok_adds c.add_params.result c.add_params.new.types.items c.args.types.now.items _ _ (listed_types looks c.args.is_each c.args.results.now c.in-Listed.params c.in-Listed.is) c.add_params.ensures.types

pub returns-in-Listed-clause-faults : goal.returns-in-Listed-clause-faults
returns-in-Listed-clause-faults g c =
    let looks = everywhere (g.E.TypeLooks.types c.args.env.now) (g.E.Names.names c.args.env.now) (g.E.Literals.literals c.args.env.now) (g.E.Exprs.written c.args.env.now) in
    ok_adds c.add_params.result c.add_params.new.faults.items c.args.faults.now.items _ _ (listed_faults looks c.args.results.now c.in-Listed.params c.in-Listed.is) c.add_params.ensures.faults
