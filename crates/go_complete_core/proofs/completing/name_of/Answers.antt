use Rattle.std.proofs.Common.{ap, sym}
use Rattle.go_tree_nodes.proofs.ShapeLemmas.{call_form, literal_form, struct_form}
use Rattle.go_complete_core.specs.mirrors.Answering.{name_of}
use Rattle.go_complete_core.proofs.completing.name_of.Goals as goal

pub returns-in-Call : goal.returns-in-Call
returns-in-Call c = sym (ap name_of (call_form c.args.expr.now _ c.in-Call.is))

pub returns-in-Literal : goal.returns-in-Literal
returns-in-Literal c = sym (ap name_of (literal_form c.args.expr.now _ c.in-Literal.is))

pub returns-in-StructLiteral : goal.returns-in-StructLiteral
returns-in-StructLiteral c = sym (ap name_of (struct_form c.args.expr.now _ c.in-StructLiteral.is))
