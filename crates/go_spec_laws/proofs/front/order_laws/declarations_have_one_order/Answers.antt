use Rattle.go_spec_laws.proofs.FrontOrderLemmas as law
use Rattle.go_spec_laws.proofs.front.order_laws.declarations_have_one_order.Goals as goal

pub returns : goal.returns
returns c = law.declarations_have_one_order
