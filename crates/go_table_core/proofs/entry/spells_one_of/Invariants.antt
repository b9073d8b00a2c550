use Rattle.std.proofs.Common.{◌≡◌, drop, map}
use Rattle.go_table_core.specs.Shown.{member_shown}
use Rattle.go_table_core.specs.mirrors.Spots.{spells_some}
use Rattle.go_table_core.specs.Methods.{term_fields}
use Rattle.go_table_core.proofs.entry.spells_one_of.Given as goal

abbrev pub invariant-loop-method : goal.invariant-loop-method
invariant-loop-method l = spells_some (map member_shown (drop l.method-index l.methods)) (term_fields l.underlying) ≡ spells_some (map member_shown l.methods) (term_fields l.underlying)
