use Rattle.std.proofs.Common.{sym, ap, ◌∙◌}
use Rattle.std.specs.Prelude.{option_map}
use Rattle.go_term_core.specs.Shapes.{shape}
use Rattle.go_typexpr_core.proofs.EntryTargeting.{through_none, through_some}
use Rattle.go_typexpr_core.proofs.entry.file_names.through_target.Goals as goal

pub returns-in-Some : goal.returns-in-Some
returns-in-Some g c = through_some (g.P.ImportedNames.shows c.args.imported.now).target (shape c.args.term) (shape c.in-Some.target) (ap (option_map shape) (sym c.in-Some.is) ∙ c.in_ok-target.ensures)

pub returns-in-None : goal.returns-in-None
returns-in-None g c = through_none (g.P.ImportedNames.shows c.args.imported.now).target (shape c.args.term) (ap (option_map shape) (sym c.in-None.is) ∙ c.in_ok-target.ensures)
