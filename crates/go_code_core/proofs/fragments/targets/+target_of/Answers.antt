use Rattle.std.proofs.Common.{sym, ap}
use Rattle.go_code_core.specs.fragments.Names.{frame_of, slot_assigned}
use Rattle.go_tree_nodes.proofs.ShapeLemmas.{call_form, literal_form, struct_form}
use Rattle.go_code_core.proofs.fragments.targets.+target_of.Goals as goal

pub returns-in-Call : goal.returns-in-Call
returns-in-Call g t c = sym (ap (slot_assigned (frame_of (g.N.CodeNames.looks c.args.frame.now.names.now) c.args.frame.now.slots.now)) (call_form c.args.expr.now c.in-Call.field-0 c.in-Call.is))

pub returns-in-Literal : goal.returns-in-Literal
returns-in-Literal g t c = sym (ap (slot_assigned (frame_of (g.N.CodeNames.looks c.args.frame.now.names.now) c.args.frame.now.slots.now)) (literal_form c.args.expr.now c.in-Literal.field-0 c.in-Literal.is))

pub returns-in-StructLiteral : goal.returns-in-StructLiteral
returns-in-StructLiteral g t c = sym (ap (slot_assigned (frame_of (g.N.CodeNames.looks c.args.frame.now.names.now) c.args.frame.now.slots.now)) (struct_form c.args.expr.now c.in-StructLiteral.field-0 c.in-StructLiteral.is))
