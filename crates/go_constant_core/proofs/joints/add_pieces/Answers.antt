use Rattle.std.proofs.Common.{rules, ◌≤◌, length}
use Rattle.std.proofs.lemmas.Result.{on_ok_weaker}
use Rattle.go_constant_core.proofs.Joined.{all_more, two_more}
use Rattle.go_constant_core.proofs.joints.add_pieces.Goals as goal

pub returns-then-len-back-le-BLOCK : goal.returns-then-len-back-le-BLOCK
returns-then-len-back-le-BLOCK c =
    let past : length c.args.back.now ≤ c.loop-piece.piece-index = search rules in
    on_ok_weaker c.add-then-len-back-le-BLOCK.result
    (λ e. all_more c.args.blocks.now.items c.add-then-len-back-le-BLOCK.new.all.items c.args.front.items c.args.back.now c.loop-piece.front.items c.in_ok-new.field-0 c.loop-piece.piece-index past c.loop-piece.invariant c.in_ok-new.ensures e)
    c.add-then-len-back-le-BLOCK.ensures

pub returns : goal.returns
returns c =
    on_ok_weaker c.add-3.result
    (λ e. two_more c.args.blocks.now.items c.add-2.new.all.items c.add-3.new.all.items c.args.front.items c.args.back.now c.in_ok-shared_pieces.field-0.items c.in_ok-new-2.field-0 c.in_ok-new-3.field-0 c.in_ok-new-2.ensures c.in_ok-add-2.ensures c.in_ok-shared_pieces.ensures c.in_ok-new-3.ensures e)
    c.add-3.ensures
