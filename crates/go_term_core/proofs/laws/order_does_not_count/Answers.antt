use Rattle.go_term_core.proofs.Meanings.{order_does_not_count}
use Rattle.go_term_core.proofs.laws.order_does_not_count.Goals as goal

pub returns : goal.returns
returns c = order_does_not_count
