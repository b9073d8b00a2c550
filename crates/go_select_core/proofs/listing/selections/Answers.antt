use Rattle.std.proofs.Common.{true, false, sym, ap, ◌∙◌}
use Rattle.std.proofs.lemmas.Result.{IfOk-weaker}
use Rattle.go_term_core.specs.Shapes.{shape}
use Rattle.go_embed_core.specs.table_core.Entries.{find_entry}
use Rattle.go_select_core.specs.Selections.{AreSelections}
use Rattle.go_select_core.specs.levels.mirrors.Operands.{operand_shown}
use Rattle.go_select_core.specs.mirrors.Listings.{AreSelectionsIn}
use Rattle.go_select_core.proofs.ListedNames.{selections_in_type, selections_of_fields, selections_of_none}
use Rattle.go_select_core.proofs.listing.selections.Goals as goal

pub returns-in-Ok-In : goal.returns-in-Ok-In
returns-in-Ok-In c =
    let look = find_entry c.args.table.now in
    let w = c.in-Ok-In in
    IfOk-weaker c.selections_in.result (λ found. AreSelectionsIn look (shape w.start.now) w.by_pointer true found.items) (λ found. AreSelections look (shape c.args.term.now) found.items)
    (λ found h. selections_in_type look (shape c.args.term.now) (shape w.start.now) w.by_pointer found.items (sym (ap operand_shown w.field-0-is) ∙ w.ensures) h) c.selections_in.ensures

pub returns-in-Ok-FieldsIn : goal.returns-in-Ok-FieldsIn
returns-in-Ok-FieldsIn c =
    let look = find_entry c.args.table.now in
    let w = c.in-Ok-FieldsIn in
    IfOk-weaker c.selections_in-in-Ok-FieldsIn.result (λ found. AreSelectionsIn look (shape w.start.now) true false found.items) (λ found. AreSelections look (shape c.args.term.now) found.items)
    (λ found h. selections_of_fields look (shape c.args.term.now) (shape w.start.now) found.items (sym (ap operand_shown w.field-0-is) ∙ w.ensures) h) c.selections_in-in-Ok-FieldsIn.ensures

pub returns-in-Err : goal.returns-in-Err
returns-in-Err c = selections_of_none (find_entry c.args.table.now) (shape c.args.term.now) c.in-Err.field-0 _ c.in-Err.ensures c.new.ensures.items
