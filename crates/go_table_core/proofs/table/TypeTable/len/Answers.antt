use Rattle.std.proofs.Common.{All, subst}
use Rattle.go_term_core.specs.Shapes.{shape}
use Rattle.go_table_core.specs.Entries.{IsUnnamed}
use Rattle.go_table_core.proofs.Finding.{table_plain}
use Rattle.go_table_core.proofs.table.TypeTable.len.Goals as goal

pub returns-clause-plain : goal.returns-clause-plain
returns-clause-plain c = subst (λ es. All (λ e. IsUnnamed e.term) es) c.self.view_is (table_plain c.self.inside.len c.self.inside.packages.names (shape c.self.inside.nothing) c.self.invariant)
