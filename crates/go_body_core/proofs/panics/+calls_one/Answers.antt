use Rattle.std.proofs.Common.{nat_eq, sym, ap, ◌∙◌}
use Rattle.std.specs.HashSet.{contains}
use Rattle.go_tree_nodes.specs.declared.exprs.CallExpr.{out-CallExpr}
use Rattle.go_tree_nodes.specs.Shapes.{shape}
use Rattle.go_tree_nodes.proofs.ShapeLemmas.{call_parts, literal_parts, struct_literal_parts}
use Rattle.go_body_core.specs.Ends.{names_one, calls_one}
use Rattle.go_body_core.proofs.panics.+calls_one.Goals as goal

pub returns-in-Call : goal.returns-in-Call
returns-in-Call t c =
    let at = contains nat_eq c.args.offsets.now in
    c.names_one.ensures ∙ (ap (λ x. names_one at (shape (out-CallExpr x).callee)) c.deref.ensures ∙ sym (ap (λ e. calls_one at (shape e)) c.in-Call.is ∙ ap (calls_one at) (call_parts c.in-Call.call.value)))

pub returns-in-Literal : goal.returns-in-Literal
returns-in-Literal t c = let at = contains nat_eq c.args.offsets.now in sym (ap (λ e. calls_one at (shape e)) c.in-Literal.is ∙ ap (calls_one at) (literal_parts c.in-Literal.field-0.value))

pub returns-in-StructLiteral : goal.returns-in-StructLiteral
returns-in-StructLiteral t c = let at = contains nat_eq c.args.offsets.now in sym (ap (λ e. calls_one at (shape e)) c.in-StructLiteral.is ∙ ap (calls_one at) (struct_literal_parts c.in-StructLiteral.field-0.value))
