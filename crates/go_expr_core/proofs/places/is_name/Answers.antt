use Rattle.std.proofs.Common.{ap, sym}
use Rattle.go_expr_core.specs.Places as places
use Rattle.go_tree_nodes.proofs.ShapeLemmas.{call_form, literal_form, struct_form}
use Rattle.go_expr_core.proofs.places.is_name.Goals as goal

pub returns-in-Call : goal.returns-in-Call
returns-in-Call c = sym (ap (places.is_name) (call_form c.args.expr.now _ c.in-Call.is))

pub returns-in-Literal : goal.returns-in-Literal
returns-in-Literal c = sym (ap (places.is_name) (literal_form c.args.expr.now _ c.in-Literal.is))

pub returns-in-StructLiteral : goal.returns-in-StructLiteral
returns-in-StructLiteral c = sym (ap (places.is_name) (struct_form c.args.expr.now _ c.in-StructLiteral.is))
