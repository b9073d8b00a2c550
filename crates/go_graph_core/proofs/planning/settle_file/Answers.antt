use Rattle.std.proofs.Common.{subst, arith}
use Rattle.go_graph_core.specs.declared.imports.ImportOutcome.{ImportOutcome}
use Rattle.go_graph_core.specs.declared.imports.ImportOutcome.TheVariants.{Package}
use Rattle.go_graph_core.specs.mirrors.Targets.{IsSettled}
use Rattle.go_graph_core.proofs.Zips.{all_so_far, one_more_so_far}
use Rattle.go_graph_core.proofs.planning.settle_file.Goals as goal

pub loop-target-preserved : goal.loop-target-preserved
loop-target-preserved c =
    let i = c.loop-target.target-index in
    let R = IsSettled c.args.ranked.now.ranks c.args.from in
    one_more_so_far R c.args.targets.now c.loop-target.targets i (Package 0) c.settled.result c.loop-target-test.true c.loop-target.invariant
    (subst (λ (t : ImportOutcome). R t c.settled.result) (c.loop-target.invariant.2 i (Package 0) (omega arith)) c.settled.ensures)

pub returns : goal.returns
returns c = all_so_far (IsSettled c.args.ranked.now.ranks c.args.from) c.args.targets.now c.loop-target.targets c.loop-target.target-index c.loop-target-test.false c.loop-target.invariant
