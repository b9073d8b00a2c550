use Rattle.std.proofs.Common.{sym, ap, ◌∙◌}
use Rattle.go_term_core.specs.Shapes.{shape}
use Rattle.go_embed_core.specs.table_core.Entries.{find_entry}
use Rattle.go_select_core.specs.levels.Selectors.{In, FieldsIn}
use Rattle.go_select_core.specs.levels.mirrors.Operands.{operand_shown}
use Rattle.go_select_core.proofs.LevelsAnswering.{answers, answers_refused}
use Rattle.go_select_core.proofs.levels.search.select.Goals as goal

pub returns-in-Ok-In : goal.returns-in-Ok-In
returns-in-Ok-In c =
    let w = c.in-Ok-In in
    answers (find_entry c.args.table.now) (shape c.args.term.now) (In (shape w.start.now) w.by_pointer) c.args.name.now c.args.from.now c.select_in.result (sym c.eq.ensures ∙ c.if-eq.false) (sym (ap operand_shown w.field-0-is) ∙ w.ensures) c.select_in.ensures

pub returns-in-Ok-FieldsIn : goal.returns-in-Ok-FieldsIn
returns-in-Ok-FieldsIn c =
    let w = c.in-Ok-FieldsIn in
    answers (find_entry c.args.table.now) (shape c.args.term.now) (FieldsIn (shape w.start.now)) c.args.name.now c.args.from.now c.select_field.result (sym c.eq.ensures ∙ c.if-eq.false) (sym (ap operand_shown w.field-0-is) ∙ w.ensures) c.select_field.ensures

pub returns-in-Err : goal.returns-in-Err
returns-in-Err c = answers_refused (find_entry c.args.table.now) (shape c.args.term.now) c.args.name.now c.args.from.now c.in-Err.rule (sym c.eq.ensures ∙ c.if-eq.false) c.in-Err.ensures
