use Rattle.std.proofs.Common.{sym, ap, ◌∙◌}
use Rattle.go_term_core.specs.Shapes.{fields_in}
use Rattle.go_table_core.specs.mirrors.Ordered.{spelled_before}
use Rattle.go_table_core.proofs.Ordering.{item_before, no_item_before}
use Rattle.go_table_core.proofs.fields.first_is_before.Goals as goal

pub returns-in-Some-get : goal.returns-in-Some-get
returns-in-Some-get c = λ ls.
    c.is_before.ensures
    ∙ (item_before ls c.args.fields.now c.in-Some.spelling.first c.in-Some-get.field c.args.place c.in-Some-get.ensures.lookup
    ∙ ap (λ o. spelled_before (fields_in ls c.args.fields.now) o c.args.place) (sym c.in-Some.is))

pub returns-in-None : goal.returns-in-None
returns-in-None c = λ ls.
    no_item_before ls c.args.fields.now c.in-Some.spelling.first c.args.place c.in-None.ensures.lookup
    ∙ ap (λ o. spelled_before (fields_in ls c.args.fields.now) o c.args.place) (sym c.in-Some.is)
