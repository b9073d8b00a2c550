-- Where the code searches.
use Rattle.std.specs.Prelude.{Result, Ok, Err}
use Rattle.go_path_core.specs.text_core.declared.rule.Rule.{Rule}
use Rattle.go_term_core.specs.Shapes.{shape}
use Rattle.go_select_core.specs.declared.levels.operand.Operand.{Operand}
use Rattle.go_select_core.specs.declared.levels.operand.Operand.TheVariants as operands
use Rattle.go_select_core.specs.levels.Selectors.{Searched, Refused, In, FieldsIn}

abbrev pub operand_shown : Operand → Searched
operand_shown (operands.In t by_pointer) = In (shape t.now) by_pointer
operand_shown (operands.FieldsIn t) = FieldsIn (shape t.now)

abbrev pub searched_shown : Result Operand Rule → Searched
searched_shown (Err rule) = Refused rule
searched_shown (Ok o) = operand_shown o
