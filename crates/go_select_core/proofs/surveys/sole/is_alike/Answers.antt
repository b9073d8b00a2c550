use Rattle.go_term_core.specs.Shapes.{shape}
use Rattle.go_embed_core.specs.table_core.Entries.{find_entry}
use Rattle.go_select_core.specs.surveys.SoleShown.{sole_shown}
use Rattle.go_select_core.proofs.SurveysAlike.{alike_same, alike_over, stars_same}
use Rattle.go_select_core.proofs.surveys.sole.is_alike.Goals as goal

pub steps-init : goal.steps-init
steps-init c = λ h. h

pub returns-then-is_same_name : goal.returns-then-is_same_name
returns-then-is_same_name c =
    c.steps.invariant (alike_same (find_entry c.args.table.now) c.args.name.now c.args.from.now (shape c.steps.x.now) (shape c.steps.y.now) c.if-is_same_name.ensures)

pub steps-preserved : goal.steps-preserved
steps-preserved c = λ h.
    let e = c.in-Some.e in
    let f = c.in-Some-sole_embedded.f in
    c.steps.invariant
    (alike_over (find_entry c.args.table.now) c.args.name.now c.args.from.now (shape c.steps.x.now) (shape c.steps.y.now) (sole_shown e) (sole_shown f) c.in-Some.ensures c.in-Some-sole_embedded.ensures c.if-e-f.false
    (stars_same e.pointer f.pointer c.if-e-f-2.false) h)
