use Rattle.go_wire_core.proofs.Noting.{asks_in_order}
use Rattle.go_wire_core.proofs.laws.asks_in_order.Goals as goal

pub returns : goal.returns
returns g c = asks_in_order g.D.Desk.answers
