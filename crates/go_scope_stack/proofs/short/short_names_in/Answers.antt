use Rattle.std.proofs.Common.{[], sym, ◌∙◌}
use Rattle.go_scope_stack.specs.Blocks.{block_of}
use Rattle.go_scope_stack.proofs.Tables.{on_ok_at}
use Rattle.go_scope_stack.proofs.Shorts.{told_seen, told_shorts}
use Rattle.go_scope_stack.proofs.short.short_names_in.Goals as goal

pub loop-name-preserved : goal.loop-name-preserved
loop-name-preserved c =
    let ok = sym c.is_err.ensures.value ∙ c.if-is_err.false in
    let before = c.loop-name.invariant in
    record {
      seen = told_seen (block_of c.args.block.now) c.args.names.now c.loop-name.name-index (record { ref_ptr = (0, 0); now = [] }) c.loop-name-test.true c.loop-name.seen before.seen c.note_short.new.seen (on_ok_at c.note_short.result ok c.note_short.ensures.seen);
      shorts = told_shorts (block_of c.args.block.now) c.args.names.now c.loop-name.name-index (record { ref_ptr = (0, 0); now = [] }) c.loop-name-test.true c.loop-name.seen before.seen c.loop-name.shorts.items c.note_short.new.shorts.items before.shorts (on_ok_at c.note_short.result ok c.note_short.ensures.noted);
    }
