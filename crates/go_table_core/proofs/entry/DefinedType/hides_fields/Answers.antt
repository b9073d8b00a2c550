use Rattle.std.proofs.Common.{subst}
use Rattle.go_table_core.specs.Entries.{Entry}
use Rattle.go_table_core.specs.Shown.{HidesRightly}
use Rattle.go_table_core.proofs.entry.DefinedType.hides_fields.Goals as goal

pub returns : goal.returns
returns c = subst (λ (e : Entry). HidesRightly c.self.inside.hides e) c.self.view_is c.self.invariant.hiding
