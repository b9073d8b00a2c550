use Rattle.go_expr_core.specs.Looks.{everywhere}
use Rattle.go_expr_core.proofs.Steps.{selector_noted}
use Rattle.go_expr_core.proofs.names.check_selector.Goals as goal

pub returns-clause-uses : goal.returns-clause-uses
returns-clause-uses g c =
    let looks = everywhere (g.E.TypeLooks.types c.args.env.now) (g.E.Names.names c.args.env.now) (g.E.Literals.literals c.args.env.now) (g.E.Exprs.written c.args.env.now) in
    selector_noted c.note_answer.result looks c.args.usage c.args.dot.now c.args.ident.now c.as_str.result.now c.in_ok-answer.answer c.args.uses.now.items c.note_answer.new.uses.items
    c.as_str.ensures c.in_ok-answer.ensures c.note_answer.ensures.uses
