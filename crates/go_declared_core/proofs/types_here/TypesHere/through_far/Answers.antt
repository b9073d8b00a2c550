use Rattle.std.proofs.Common.{sym, ap, ◌∙◌}
use Rattle.std.specs.Prelude.{option_map}
use Rattle.go_term_core.specs.Shapes.{shape}
use Rattle.go_typexpr_core.specs.aliases.Aliases.{far_alone}
use Rattle.go_typexpr_core.proofs.EntryTargeting.{through_none, through_some}
use Rattle.go_declared_core.specs.Here.{far_type}
use Rattle.go_declared_core.proofs.types_here.TypesHere.through_far.Goals as goal

pub returns-in-Some : goal.returns-in-Some
returns-in-Some g c =
    let here = c.args.self.now in
    through_some (far_alone here.path.now (far_type here.faces.now)) (shape c.args.term) (shape c.in-Some.target) (ap (option_map shape) (sym c.in-Some.is) ∙ c.in_ok-target.ensures)

pub returns-in-None : goal.returns-in-None
returns-in-None g c =
    let here = c.args.self.now in
    through_none (far_alone here.path.now (far_type here.faces.now)) (shape c.args.term) (ap (option_map shape) (sym c.in-None.is) ∙ c.in_ok-target.ensures)
