use Rattle.go_digraph_core.proofs.ChainBack.{endless_leads_back}
use Rattle.go_digraph_core.proofs.chain.laws.endless_leads_back.Goals as goal

pub returns : goal.returns
returns c = endless_leads_back
