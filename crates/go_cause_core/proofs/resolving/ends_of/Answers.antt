use Rattle.std.proofs.Common.{subst, sym}
use Rattle.go_digraph_core.specs.chain.Chains.{AllInside}
use Rattle.go_cause_core.proofs.resolving.ends_of.Goals as goal

pub chain_ends-requires : goal.chain_ends-requires
chain_ends-requires c = subst AllInside (sym c.deref.ensures.value) c.in_ok-next.ensures
