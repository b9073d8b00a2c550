use Rattle.std.proofs.Common.{ap, ◌∙◌}
use Rattle.go_table_core.specs.Entries.{Entry}
use Rattle.go_table_core.proofs.entry.DefinedType.underlying.Goals as goal

pub returns : goal.returns
returns c = c.term.ensures ∙ (c.deref.ensures ∙ ap (λ (e : Entry). e.term) c.self.view_is)
