use Rattle.std.proofs.Common.{◌+◌, ◌-◌, ◌^◌, length, map, arith}
use Rattle.go_lsp_core.specs.edits.Edits.{part_of}
use Rattle.go_lsp_core.proofs.EditsEditing.{edit_at, edit_is}
use Rattle.go_lsp_core.proofs.EditsKeeping.{at_least, gained_end, gained_least, gained_more, gained_stop, lost_below, lost_end, lost_least, lost_more, lost_stop, moved_at, order_at, sum_known}
use Rattle.go_lsp_core.proofs.edits.moving.moved.Goals as goal

-- the parts before the offset have no more bytes than there are
pub overflow_sub-offset : goal.overflow_sub-offset
overflow_sub-offset c =
    let es = c.args.edits.now in
    let i = c.loop-edit.edit-index in
    let n = c.args.offset in
    let below = lost_below 0 (map part_of es) n c.requires (omega arith) in
    let all = lost_stop es i n (edit_at es i) c.loop-edit-test.true (edit_is es i c.loop-edit-test.true) c.loop-edit.lost _ c.if-offset-edit.true c.loop-edit.invariant.losses in
    omega (arith, below, all)

pub overflow_sub-offset-2 : goal.overflow_sub-offset-2
overflow_sub-offset-2 c =
    let es = c.args.edits.now in
    let n = c.args.offset in
    let below = lost_below 0 (map part_of es) n c.requires (omega arith) in
    let all = lost_end es c.loop-edit.edit-index n c.loop-edit.lost _ c.loop-edit-test.false c.loop-edit.invariant.losses in
    omega (arith, below, all)

pub returns-then-offset-edit : goal.returns-then-offset-edit
returns-then-offset-edit c =
    let es = c.args.edits.now in
    let n = c.args.offset in
    let i = c.loop-edit.edit-index in
    let x = edit_at es i in
    let is = edit_is es i c.loop-edit-test.true in
    let losses = lost_stop es i n x c.loop-edit-test.true is c.loop-edit.lost _ c.if-offset-edit.true c.loop-edit.invariant.losses in
    let gains = gained_stop es i n x c.loop-edit-test.true is c.loop-edit.gained _ c.if-offset-edit.true c.loop-edit.invariant.gains in
    sum_known (2 ^ 64) c.checked_add.result _ _ (moved_at (map part_of es) n c.loop-edit.lost c.loop-edit.gained losses gains) c.checked_add.ensures

pub returns-in_err-grown : goal.returns-in_err-grown
returns-in_err-grown c =
    let es = c.args.edits.now in
    let i = c.loop-edit.edit-index in
    let n = c.args.offset in
    let x = edit_at es i in
    let least = gained_least es i n x c.loop-edit-test.true (edit_is es i c.loop-edit-test.true) c.loop-edit.gained _ c.if-offset-edit.false c.loop-edit.invariant.gains in
    let far = at_least (2 ^ 64) (c.loop-edit.gained + length x.new.now) c.in_err-grown.ensures in
    rw c.from_residual.ensures (omega (arith, least, far))

pub overflow_sub-lost : goal.overflow_sub-lost
overflow_sub-lost c =
    let es = c.args.edits.now in
    let i = c.loop-edit.edit-index in
    order_at 0 es i (edit_at es i) c.requires c.loop-edit-test.true (edit_is es i c.loop-edit-test.true)

pub overflow_add-lost : goal.overflow_add-lost
overflow_add-lost c =
    let es = c.args.edits.now in
    let i = c.loop-edit.edit-index in
    let n = c.args.offset in
    let below = lost_below 0 (map part_of es) n c.requires (omega arith) in
    let least = lost_least es i n (edit_at es i) c.loop-edit-test.true (edit_is es i c.loop-edit-test.true) c.loop-edit.lost _ c.if-offset-edit.false c.loop-edit.invariant.losses in
    let top = c.ranges.offset.fits in
    omega (arith, below, least, top)

pub loop-edit-preserved : goal.loop-edit-preserved
loop-edit-preserved c =
    let es = c.args.edits.now in
    let n = c.args.offset in
    let i = c.loop-edit.edit-index in
    let x = edit_at es i in
    let is = edit_is es i c.loop-edit-test.true in
    let grown = c.in_ok-grown.ensures in
    let sum = grown.1 in
    record {
      losses = lost_more es i n x c.loop-edit-test.true is c.loop-edit.lost _ _ c.if-offset-edit.false (omega arith) c.loop-edit.invariant.losses;
      gains = gained_more es i n x c.loop-edit-test.true is c.loop-edit.gained c.in_ok-grown.grown _ c.if-offset-edit.false (omega (arith, sum)) c.loop-edit.invariant.gains;
    }

pub returns : goal.returns
returns c =
    let es = c.args.edits.now in
    let n = c.args.offset in
    let losses = lost_end es c.loop-edit.edit-index n c.loop-edit.lost _ c.loop-edit-test.false c.loop-edit.invariant.losses in
    let gains = gained_end es c.loop-edit.edit-index n c.loop-edit.gained _ c.loop-edit-test.false c.loop-edit.invariant.gains in
    sum_known (2 ^ 64) c.checked_add-2.result _ _ (moved_at (map part_of es) n c.loop-edit.lost c.loop-edit.gained losses gains) c.checked_add-2.ensures
