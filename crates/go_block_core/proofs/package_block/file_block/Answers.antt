use Rattle.std.proofs.Common.{[], ◌++◌, map, sym, ap, ◌∙◌, append-nil}
use Rattle.std.specs.Vec.Iter.{into_iter_items}
use Rattle.go_block_core.specs.Tables.{block_of}
use Rattle.go_block_core.specs.Holding.{bound_block}
use Rattle.go_block_core.specs.Faults.{bound_faults}
use Rattle.go_block_core.specs.mirrors.Shown.{bound_shown}
use Rattle.go_block_core.proofs.BlockLemmas.{bound_step, bound_faults_step}
use Rattle.go_block_core.proofs.package_block.file_block.Goals as goal

pub loop-bound-preserved : goal.loop-bound-preserved
loop-bound-preserved c =
    let before = c.loop-bound.invariant in
    let left = ap (map bound_shown) c.in-Some.ensures.steps.0 in (
      bound_step (block_of c.loop-bound.table) _ _ (bound_shown c.in-Some.bound) _ (map bound_shown (into_iter_items c.next.new.self)) left c.in-Ok.ensures.table before.0,
      bound_faults_step (block_of c.args.names.now) c.args.file (block_of c.loop-bound.table) _ (bound_shown c.in-Some.bound) _ (map bound_shown (into_iter_items c.next.new.self)) c.loop-bound.faults.items _ _ left c.in-Ok.ensures.table c.in-Ok.ensures.faults before.1,
    )
