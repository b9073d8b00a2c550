use Rattle.std.proofs.Common.{◌≡◌, ◌+◌, ◌-◌, length, ap, ◌∙◌}
use Rattle.std.proofs.lemmas.Result.{IfOk-weaker, IfErr-weaker, on_ok_weaker}
use Rattle.go_scope_stack.specs.Blocks.{innermost, with_innermost, block_of, block_after, short_names, named, names_in}
use Rattle.go_scope_stack.proofs.Shorts.{wrong_in}
use Rattle.go_scope_stack.proofs.Tables.{last_place, len_as_list, map-set_last, same_last, top_is}
use Rattle.go_scope_stack.proofs.OpenBlocks.declare_short.Goals as goal

places : (c : goal.After-self-1) → c.len-top.result - 1 + 1 ≡ length c.self.inside.blocks.items
places c = last_place block_of c.self.inside.blocks.items c.args.self.now c.len-top.result (len_as_list c.self.inside.blocks c.len-top.result c.len-top.ensures) c.self.view_is c.requires

pub returns-clause-shorts : goal.returns-clause-shorts
returns-clause-shorts c = IfOk-weaker c.declare_each.result _ _ (λ short h. (h.0 ∙ ap (λ b. short_names b (names_in (named c.args.names.now))) (top_is block_of c.self.inside.blocks.items c.args.self.now (c.len-top.result - 1) c.index_mut.result.now c.self.view_is (places c) c.index_mut.ensures.value), h.1)) c.declare_each.ensures.shorts

pub returns-clause-ok : goal.returns-clause-ok
returns-clause-ok c = on_ok_weaker c.declare_each.result
    (λ h. map-set_last block_of c.self.inside.blocks.items (c.len-top.result - 1) c.declare_each.new.block (places c)
    ∙ (ap (λ o. with_innermost o (block_of c.declare_each.new.block)) c.self.view_is
    ∙ ap (with_innermost c.args.self.now) (h ∙ ap (λ b. block_after b (named c.args.names.now)) (top_is block_of c.self.inside.blocks.items c.args.self.now (c.len-top.result - 1) c.index_mut.result.now c.self.view_is (places c) c.index_mut.ensures.value))))
    c.declare_each.ensures.ok

pub returns-clause-err : goal.returns-clause-err
returns-clause-err c = IfErr-weaker c.declare_each.result _ _ (λ rule h. (same_last block_of c.self.inside.blocks.items c.args.self.now (c.len-top.result - 1) c.index_mut.result.now c.declare_each.new.block c.self.view_is (places c) c.index_mut.ensures.value h.0, wrong_in (block_of c.index_mut.result.now) (innermost c.args.self.now) (names_in (named c.args.names.now)) (top_is block_of c.self.inside.blocks.items c.args.self.now (c.len-top.result - 1) c.index_mut.result.now c.self.view_is (places c) c.index_mut.ensures.value) h.1)) c.declare_each.ensures.err
