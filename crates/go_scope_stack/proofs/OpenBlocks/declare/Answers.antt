use Rattle.std.proofs.Common.{◌≡◌, ◌+◌, ◌-◌, ◌&&◌, not, is_some, length, sym, ap, ◌∙◌, if◌then◌else◌, ◌∷◌, [], ◌++◌}
use Rattle.std.proofs.lemmas.Result.{IfOk-weaker, IfErr-weaker}
use Rattle.go_scope_stack.specs.Blocks.{in_block, innermost, with_innermost, block_of}
use Rattle.go_scope_stack.proofs.Tables.{with_innermost-same, last_place, len_as_list, declared_last, same_last, top_is, taken_err}
use Rattle.go_scope_stack.proofs.OpenBlocks.declare.Goals as goal

pub returns-then-eq-clause-ok : goal.returns-then-eq-clause-ok
returns-then-eq-clause-ok c =
    let blank = sym c.eq.ensures ∙ c.if-eq.true in (
      ap (λ b. not b && is_some (in_block (innermost c.args.self.now) c.args.name.now)) blank,
      sym (ap (λ b. with_innermost c.args.self.now (if b then innermost c.args.self.now else innermost c.args.self.now ++ (c.args.name.now, c.args.id) ∷ [])) blank ∙ with_innermost-same c.args.self.now),
    )

places : (c : goal.After-self-1) → c.len-top.result - 1 + 1 ≡ length c.self.inside.blocks.items
places c = last_place block_of c.self.inside.blocks.items c.args.self.now c.len-top.result (len_as_list c.self.inside.blocks c.len-top.result c.len-top.ensures) c.self.view_is c.requires

pub returns-clause-ok : goal.returns-clause-ok
returns-clause-ok c = IfOk-weaker c.declare_in.result _ _ (λ u h. declared_last block_of c.self.inside.blocks.items c.args.self.now (c.len-top.result - 1) c.index_mut.result.now c.declare_in.new.block c.args.name.now c.args.id c.self.view_is (places c) c.index_mut.ensures.value (sym c.eq.ensures ∙ c.if-eq.false) h.0 h.1) c.declare_in.ensures.ok

pub returns-clause-err : goal.returns-clause-err
returns-clause-err c = IfErr-weaker c.declare_in.result _ _ (λ rule h. (same_last block_of c.self.inside.blocks.items c.args.self.now (c.len-top.result - 1) c.index_mut.result.now c.declare_in.new.block c.self.view_is (places c) c.index_mut.ensures.value h.0, taken_err _ c.args.self.now c.args.name.now (top_is block_of c.self.inside.blocks.items c.args.self.now (c.len-top.result - 1) c.index_mut.result.now c.self.view_is (places c) c.index_mut.ensures.value) (sym c.eq.ensures ∙ c.if-eq.false) h.1)) c.declare_in.ensures.err
