use Rattle.go_wire_core.proofs.ByRefusal.{by_refusal}
use Rattle.go_wire_core.proofs.laws.refuses_by_table.Goals as goal

pub returns : goal.returns
returns c = by_refusal
