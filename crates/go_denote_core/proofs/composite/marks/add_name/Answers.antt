use Rattle.std.proofs.Common.{sym, ◌∙◌}
use Rattle.go_denote_core.proofs.CompositeMarking.{name_known, name_added}
use Rattle.go_denote_core.proofs.composite.marks.add_name.Goals as goal

pub returns-then-contains_key : goal.returns-then-contains_key
returns-then-contains_key c = name_known c.args.numbers.now.entries c.args.name.now c.args.at (sym c.if-contains_key.true ∙ c.contains_key.ensures)

pub returns-in-Ok : goal.returns-in-Ok
returns-in-Ok c = name_added c.args.numbers.now.entries c.insert.new.self.entries c.args.name c.args.at (sym c.if-contains_key.false ∙ c.contains_key.ensures) c.in-Ok.ensures.updates.0
