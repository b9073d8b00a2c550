use Rattle.std.proofs.lemmas.Result.{on_ok_weaker}
use Rattle.go_block_core.proofs.BlockLemmas.{two_faults}
use Rattle.go_block_core.proofs.package_block.add_bound.Goals as goal

pub returns : goal.returns
returns c = record {
  table = on_ok_weaker c.add_fault_if-2.result (λ added. c.in_ok-is_second.ensures.table) c.add_fault_if-2.ensures;
  faults = on_ok_weaker c.add_fault_if-2.result
      (λ added. two_faults c.args.faults.now.items _ _ _ _ c.in_ok-is_second.ensures.had c.has-is_hidden.ensures c.in_ok-add_fault_if.ensures added)
      c.add_fault_if-2.ensures;
}
