use Rattle.std.proofs.Common.{length, ap, sym, ◌∙◌}
use Rattle.go_term_core.specs.Shapes.{fields_in, line_shapes}
use Rattle.go_env_core.specs.Fields.{fields_seen}
use Rattle.go_env_core.specs.mirrors.Seen.{hider_shown, some_seen}
use Rattle.go_env_core.proofs.Seeing.{all_counted, kept_counted}
use Rattle.go_env_core.proofs.fields.field_count.Goals as goal

pub returns-in-Some-hider : goal.returns-in-Some-hider
returns-in-Some-hider c s =
    let x = c.in-Some.seen in
    c.count_kept.ensures
    ∙ (sym (kept_counted s (hider_shown x.hider) x.home.now (line_shapes x.lines.now) x.fields.now) ∙ ap (λ o. length (some_seen s o)) (sym c.in-Some.is))

pub returns-in-None : goal.returns-in-None
returns-in-None c s =
    let x = c.in-Some.seen in
    all_counted s x.home.now (line_shapes x.lines.now) x.fields.now
    ∙ (ap (λ h. length (fields_seen s (hider_shown h) x.home.now (fields_in (line_shapes x.lines.now) x.fields.now))) (sym c.in-None.is) ∙ ap (λ o. length (some_seen s o)) (sym c.in-Some.is))
