use Rattle.go_term_core.specs.Shapes.{line_shapes}
use Rattle.std.proofs.Common.{ap, sym, ◌∙◌}
use Rattle.go_env_core.specs.Fields.{fields_seen}
use Rattle.go_term_core.specs.Shapes.{fields_in}
use Rattle.std.specs.Prelude.{slice_get}
use Rattle.go_env_core.specs.mirrors.Seen.{hider_shown}
use Rattle.go_env_core.proofs.Seeing.{listed_numbered}
use Rattle.go_env_core.proofs.fields.numbered.Goals as goal

pub returns-in-None : goal.returns-in-None
returns-in-None c s =
    let x = c.args.seen.now in
    listed_numbered s x.home.now (line_shapes x.lines.now) x.fields.now c.args.at c.item.result c.item.ensures
    ∙ ap (λ h. slice_get (fields_seen s (hider_shown h) x.home.now (fields_in (line_shapes x.lines.now) x.fields.now)) c.args.at) (sym c.in-None.is)
