use Rattle.std.proofs.Common.{◌≡◌, ap, sym, subst, ◌∙◌}
use Rattle.std.specs.Prelude.{IfOk, Option, Some}
use Rattle.go_tree_nodes.specs.declared.exprs.CallExpr.{out-CallExpr}
use Rattle.go_tree_nodes.specs.Shapes.{shape}
use Rattle.go_expr_core.specs.denote_core.declared.things.Stand.TheVariants as stands
use Rattle.go_expr_core.specs.Looks.{everywhere}
use Rattle.go_expr_core.specs.Denoting.{denoted}
use Rattle.go_expr_core.proofs.Arms.{call_denoted, call_has_uses, call_has_faults}
use Rattle.go_tree_nodes.proofs.ShapeLemmas.{call_form, literal_form, struct_form}
use Rattle.go_expr_core.proofs.Steps.{both}
use Rattle.go_stmt_core.specs.piece.Statements as statements
use Rattle.go_stmt_core.proofs.piece.statements.+check_with_callee.Goals as goal

pub returns-in_ok-denoted-in-Call-clause-callee : goal.returns-in_ok-denoted-in-Call-clause-callee
returns-in_ok-denoted-in-Call-clause-callee g t c =
    let looks = everywhere (g.E.TypeLooks.types c.args.env.now) (g.E.Names.names c.args.env.now) (g.E.Literals.literals c.args.env.now) (g.E.Exprs.written c.args.env.now) in
    ap (λ d. Some d) (c.in_ok-callee-in-Call.ensures.denoted ∙ ap (λ x. denoted looks stands.Callee (shape (out-CallExpr x).callee)) c.deref.ensures)
    ∙ sym (ap (statements.callee_of looks) (call_form c.args.expr.now c.in-Call.call c.in-Call.is))

pub returns-in_ok-denoted-in-Call-clause-denoted : goal.returns-in_ok-denoted-in-Call-clause-denoted
returns-in_ok-denoted-in-Call-clause-denoted g t c =
    let looks = everywhere (g.E.TypeLooks.types c.args.env.now) (g.E.Names.names c.args.env.now) (g.E.Literals.literals c.args.env.now) (g.E.Exprs.written c.args.env.now) in
    c.in_ok-denoted-in-Call.ensures.denoted ∙ call_denoted looks stands.«Value» c.args.expr.now c.in-Call.call c.in-Call.is c.deref.result.now c.deref-in-Call.result.now c.deref-in-Call-2.result.now c.deref.ensures c.deref-in-Call.ensures c.deref-in-Call-2.ensures c.in_ok-callee-in-Call.callee c.in_ok-callee-in-Call.ensures.denoted

pub returns-in_ok-denoted-in-Call-clause-uses : goal.returns-in_ok-denoted-in-Call-clause-uses
returns-in_ok-denoted-in-Call-clause-uses g t c =
    let looks = everywhere (g.E.TypeLooks.types c.args.env.now) (g.E.Names.names c.args.env.now) (g.E.Literals.literals c.args.env.now) (g.E.Exprs.written c.args.env.now) in
    both _ _ _ _ _ _ c.in_ok-callee-in-Call.ensures.uses c.in_ok-denoted-in-Call.ensures.uses (call_has_uses looks stands.«Value» c.args.expr.now c.in-Call.call c.in-Call.is c.deref.result.now c.deref-in-Call.result.now c.deref-in-Call-2.result.now c.deref.ensures c.deref-in-Call.ensures c.deref-in-Call-2.ensures c.in_ok-callee-in-Call.callee c.in_ok-callee-in-Call.ensures.denoted)

pub returns-in_ok-denoted-in-Call-clause-faults : goal.returns-in_ok-denoted-in-Call-clause-faults
returns-in_ok-denoted-in-Call-clause-faults g t c =
    let looks = everywhere (g.E.TypeLooks.types c.args.env.now) (g.E.Names.names c.args.env.now) (g.E.Literals.literals c.args.env.now) (g.E.Exprs.written c.args.env.now) in
    both _ _ _ _ _ _ c.in_ok-callee-in-Call.ensures.faults c.in_ok-denoted-in-Call.ensures.faults (call_has_faults looks stands.«Value» c.args.expr.now c.in-Call.call c.in-Call.is c.deref.result.now c.deref-in-Call.result.now c.deref-in-Call-2.result.now c.deref.ensures c.deref-in-Call.ensures c.deref-in-Call-2.ensures)

pub returns-in-Literal-clause-callee : goal.returns-in-Literal-clause-callee
returns-in-Literal-clause-callee g t c =
    let looks = everywhere (g.E.TypeLooks.types c.args.env.now) (g.E.Names.names c.args.env.now) (g.E.Literals.literals c.args.env.now) (g.E.Exprs.written c.args.env.now) in
    subst (λ (o : Option _). IfOk c.check_other.result (λ a. a.callee ≡ o)) (sym (ap (statements.callee_of looks) (literal_form c.args.expr.now _ c.in-Literal.is))) c.check_other.ensures.callee

pub returns-in-StructLiteral-clause-callee : goal.returns-in-StructLiteral-clause-callee
returns-in-StructLiteral-clause-callee g t c =
    let looks = everywhere (g.E.TypeLooks.types c.args.env.now) (g.E.Names.names c.args.env.now) (g.E.Literals.literals c.args.env.now) (g.E.Exprs.written c.args.env.now) in
    subst (λ (o : Option _). IfOk c.check_other-in-StructLiteral.result (λ a. a.callee ≡ o)) (sym (ap (statements.callee_of looks) (struct_form c.args.expr.now _ c.in-StructLiteral.is))) c.check_other-in-StructLiteral.ensures.callee
