use Rattle.std.proofs.Common.{sym, ap, ◌∙◌}
use Rattle.go_tree_nodes.specs.Shapes.{shape}
use Rattle.go_tree_nodes.proofs.ShapeLemmas.{call_parts, literal_parts, struct_literal_parts}
use Rattle.go_local_core.specs.walks.Ends.{is_blank_target}
use Rattle.go_local_core.proofs.walks.terminating.+is_blank_target.Goals as goal

pub returns-in-Call : goal.returns-in-Call
returns-in-Call t c = sym (ap (λ e. is_blank_target (shape e)) c.in-Call.is ∙ ap is_blank_target (call_parts c.in-Call.field-0.value))

pub returns-in-Literal : goal.returns-in-Literal
returns-in-Literal t c = sym (ap (λ e. is_blank_target (shape e)) c.in-Literal.is ∙ ap is_blank_target (literal_parts c.in-Literal.field-0.value))

pub returns-in-StructLiteral : goal.returns-in-StructLiteral
returns-in-StructLiteral t c = sym (ap (λ e. is_blank_target (shape e)) c.in-StructLiteral.is ∙ ap is_blank_target (struct_literal_parts c.in-StructLiteral.field-0.value))
