use Rattle.std.proofs.Common.{◌≡◌, drop}
use Rattle.std.specs.List.{position_from}
use Rattle.std.specs.Map.{lookup}
use Rattle.go_emit_core.specs.declared.lookup.decl_table.DeclSpot.{DeclSpot}
use Rattle.go_emit_core.specs.lookup.mirrors.Spotting.{same_key}
use Rattle.go_emit_core.proofs.lookup.decl_table.numbers_of.Given as goal

abbrev pub invariant-loop-number : goal.invariant-loop-number
invariant-loop-number l = (k : DeclSpot) → lookup (same_key k) l.numbers.entries ≡ position_from (λ i. same_key k i.spot) l.number (drop l.number l.items)
