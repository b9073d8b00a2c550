use Rattle.std.proofs.Common.{take, ap, ◌∙◌}
use Rattle.go_collections_core.specs.name_table.Named.{entries_named}
use Rattle.go_collections_core.proofs.NameTableEntries.{named_take, table_first}
use Rattle.go_collections_core.proofs.name_table.named.NameTable.truncate.Goals as goal

pub invariant_of-self : goal.invariant_of-self
invariant_of-self g c = table_first c.self.inside.places.slots.items c.self.inside.places.more c.self.inside.entries.items c.truncate.new.self.items c.args.len c.truncate.ensures.items c.self.invariant

pub returns : goal.returns
returns g c = ap entries_named c.truncate.ensures.items ∙ (named_take c.self.inside.entries.items c.args.len ∙ ap (λ t. take c.args.len t.names) c.self.view_is)
