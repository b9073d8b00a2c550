use Rattle.std.proofs.Common.{subst}
use Rattle.go_block_core.specs.graph_core.Workspaces.{IsWorkspace}
use Rattle.go_parallel_core.proofs.Handing.{handed_more}
use Rattle.go_parallel_core.proofs.levels.hand_out_ready.Goals as goal

pub loop-action-preserved : goal.loop-action-preserved
loop-action-preserved c =
    handed_more c.tell.new.self c.loop-action.batch c.hand_out.new.batch c.loop-action.places.items c.push.new.self.items c.loop-action.inputs.items c.push-in-loop-action.new.self.items c.in-Some.place c.in_ok-input.input (subst IsWorkspace c.sources.ensures c.packages-packages.ensures.well) c.loop-action.invariant c.in-Some.ensures.untaken
    c.in_ok-input.ensures.handed c.in_ok-input.ensures.numbered c.in_ok-input.ensures.held c.in_ok-push.ensures.items c.in_ok-push-2.ensures.items
