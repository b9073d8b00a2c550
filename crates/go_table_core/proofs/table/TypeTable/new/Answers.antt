use Rattle.std.proofs.Common.{List, ℕ, refl, sym, subst}
use Rattle.go_term_core.specs.Terms.{NoType}
use Rattle.go_table_core.specs.declared.table.Numbered.{Numbered}
use Rattle.go_table_core.specs.mirrors.Holding.{IsTable}
use Rattle.go_table_core.proofs.table.TypeTable.new.Goals as goal

pub invariant_of-result : goal.invariant_of-result
invariant_of-result c = subst (λ (ps : List (List ℕ × Numbered)). IsTable 0 ps NoType) (sym c.new.ensures) (record { kept = tt; none = refl; counted = refl })
