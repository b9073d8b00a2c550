use Rattle.std.specs.List.{concat}
use Rattle.go_constant_core.proofs.Joined.{between}
use Rattle.go_constant_core.proofs.joints.met.Goals as goal

pub returns : goal.returns
returns c =
    between c.in_ok-blocks.blocks.items c.add_blocks.new.blocks.items c.add_joint.new.blocks.items c.add_blocks-2.new.blocks.items c.args.front.now c.args.back.now
    (concat c.pieces.result.now) (concat c.pieces-2.result.now) c.args.last.now c.args.first.now
    c.in_ok-blocks.ensures.items c.in_ok-add_blocks.ensures c.pieces.ensures c.pieces-2.ensures c.in_ok-add_joint.ensures c.in_ok-add_blocks-2.ensures
