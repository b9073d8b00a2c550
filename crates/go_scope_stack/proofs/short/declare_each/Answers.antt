use Rattle.std.proofs.Common.{◌≡◌, [], inl, inr, refl, sym, ap, ◌∙◌, take}
use Rattle.std.proofs.lemmas.List.{take_all}
use Rattle.go_scope_stack.specs.Blocks.{block_of, named, names_in, short_names, any_new}
use Rattle.go_scope_stack.proofs.News.{any_is_new}
use Rattle.go_scope_stack.proofs.Tables.{undone, on_ok_at, on_err_at}
use Rattle.go_scope_stack.proofs.Shorts.{after_step, seen_step, shorts_step}
use Rattle.go_scope_stack.proofs.short.declare_each.Goals as goal

pub loop-name-preserved : goal.loop-name-preserved
loop-name-preserved c =
    let ok = sym c.is_err.ensures.value ∙ c.if-is_err.false in
    let before = c.loop-name.invariant in
    record {
      block = after_step c.args.names.now (block_of c.args.block.now) (block_of c.loop-name.block) c.loop-name.seen c.loop-name.name-index (record { ref_ptr = (0, 0); now = [] }, record { 0 = 0 }) c.loop-name-test.true before.block before.seen (block_of c.declare_new.new.block) (on_ok_at c.declare_new.result ok c.declare_new.ensures.block);
      seen = seen_step c.args.names.now (block_of c.args.block.now) (block_of c.loop-name.block) c.loop-name.seen c.loop-name.name-index (record { ref_ptr = (0, 0); now = [] }, record { 0 = 0 }) c.loop-name-test.true before.block before.seen c.declare_new.new.seen (on_ok_at c.declare_new.result ok c.declare_new.ensures.seen);
      shorts = shorts_step c.args.names.now (block_of c.args.block.now) (block_of c.loop-name.block) c.loop-name.seen c.loop-name.name-index (record { ref_ptr = (0, 0); now = [] }, record { 0 = 0 }) c.loop-name-test.true before.block before.seen c.loop-name.shorts.items c.declare_new.new.shorts.items before.shorts (on_ok_at c.declare_new.result ok c.declare_new.ensures.noted);
      before = before.before;
    }

pub returns-then-is_err-clause-err : goal.returns-then-is_err-clause-err
returns-then-is_err-clause-err c =
    let err = sym c.is_err.ensures.value ∙ c.if-is_err.true in
    (undone c.args.block.now c.declare_new.new.block c.truncate.new.self (named (take c.loop-name.name-index c.args.names.now)) c.len-before.result c.loop-name.invariant.before (on_err_at c.declare_new.result err c.declare_new.ensures.err ∙ c.loop-name.invariant.block) c.truncate.ensures, inl (refl, any_is_new (block_of c.args.block.now) (names_in (named c.args.names.now)) ∙ (sym c.can_declare_any.ensures ∙ c.if-not-can_declare_any.false)))

pub returns-then-not-can_declare_any-clause-err : goal.returns-then-not-can_declare_any-clause-err
returns-then-not-can_declare_any-clause-err c = (refl, inr (refl, any_is_new (block_of c.args.block.now) (names_in (named c.args.names.now)) ∙ (sym c.can_declare_any.ensures ∙ c.if-not-can_declare_any.true)))

pub returns-clause-shorts : goal.returns-clause-shorts
returns-clause-shorts c =
    let names = names_in (named c.args.names.now) in
    let said : c.loop-name.shorts.items ≡ short_names (block_of c.args.block.now) names = c.loop-name.invariant.shorts ∙ ap (λ l. short_names (block_of c.args.block.now) (names_in (named l))) (take_all c.loop-name.name-index c.args.names.now c.loop-name-test.false) in
    (said, ap any_new said ∙ (any_is_new (block_of c.args.block.now) names ∙ (sym c.can_declare_any.ensures ∙ c.if-not-can_declare_any.false)))
