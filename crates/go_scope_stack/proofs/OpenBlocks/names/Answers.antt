use Rattle.std.proofs.Common.{◌≡◌, [], map, ap, ◌∙◌}
use Rattle.std.proofs.lemmas.Result.{IfOk-weaker}
use Rattle.go_scope_stack.specs.Blocks.{block_of, all_names, list_names}
use Rattle.go_scope_stack.proofs.Names.{names_step, names_end, names_found, names_once}
use Rattle.go_scope_stack.proofs.OpenBlocks.names.Goals as goal

pub loop-block-preserved : goal.loop-block-preserved
loop-block-preserved c = names_step block_of c.deref-block-items.result.now c.loop-block.block-index c.block-item.result _ _ _ c.loop-block-test.true c.block-item.is c.in_ok-add_block_names.ensures.ok c.loop-block.invariant

pub returns-clause-found : goal.returns-clause-found
returns-clause-found c =
    let value : c.loop-block.names ≡ list_names [] (all_names c.args.self.now) = names_end block_of c.deref-block-items.result.now c.loop-block.block-index _ _ c.loop-block-test.false c.loop-block.invariant ∙ (ap (λ blocks. list_names [] (all_names (map block_of blocks))) c.deref-block-items.ensures.value ∙ ap (λ blocks. list_names [] (all_names blocks)) c.self.view_is) in
    IfOk-weaker c.to_list.result _ _ (λ list same name. names_found c.args.self.now _ name (same ∙ value)) c.to_list.ensures.ok

pub returns-clause-once : goal.returns-clause-once
returns-clause-once c =
    let value : c.loop-block.names ≡ list_names [] (all_names c.args.self.now) = names_end block_of c.deref-block-items.result.now c.loop-block.block-index _ _ c.loop-block-test.false c.loop-block.invariant ∙ (ap (λ blocks. list_names [] (all_names (map block_of blocks))) c.deref-block-items.ensures.value ∙ ap (λ blocks. list_names [] (all_names blocks)) c.self.view_is) in
    IfOk-weaker c.to_list.result _ _ (λ list same. names_once (all_names c.args.self.now) _ (same ∙ value)) c.to_list.ensures.ok
