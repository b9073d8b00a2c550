use Rattle.std.proofs.Common.{ap, ◌∙◌}
use Rattle.go_tree_nodes.specs.declared.exprs.Key.{Key}
use Rattle.go_expr_core.specs.Looks.{everywhere}
use Rattle.go_expr_core.proofs.Steps.{key_noted}
use Rattle.go_expr_core.proofs.elements.check_key.Goals as goal

pub returns-in_ok-note_use-in-Some-clause-uses : goal.returns-in_ok-note_use-in-Some-clause-uses
returns-in_ok-note_use-in-Some-clause-uses g c =
    let looks = everywhere (g.E.TypeLooks.types c.args.env.now) (g.E.Names.names c.args.env.now) (g.E.Literals.literals c.args.env.now) (g.E.Exprs.written c.args.env.now) in
    key_noted looks c.args.t.now c.args.is_mixed c.args.mark c.args.key.now c.in-Some.key c.deref-in-Some.result.now c.as_str.result.now c.in_ok-answer-in-Some.answer c.args.uses.now.items c.note_use.new.uses.items
    c.in-Some.is (c.as_str.ensures ∙ ap (λ (k : Key). k.name.name) c.deref.ensures) c.deref-in-Some.ensures c.in_ok-answer-in-Some.ensures c.in_ok-note_use-in-Some.ensures
