use Rattle.std.proofs.Common.{sym, ◌∙◌}
use Rattle.go_select_core.proofs.SurveysNoting.{name_added}
use Rattle.go_select_core.proofs.surveys.names.put.Goals as goal

pub returns-in-Ok : goal.returns-in-Ok
returns-in-Ok c = name_added c.args.known.now.entries c.insert.new.self.entries c.args.name c.args.new (sym c.if-contains_key.false ∙ c.contains_key.ensures) c.in-Ok.ensures.updates.0
