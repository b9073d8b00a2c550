use Rattle.std.proofs.Common.{arith}
use Rattle.go_token_core.proofs.EmptyLemmas.{filled, emptied}
use Rattle.go_body_core.proofs.FileRunning.{none_yet, run_more, none_left}
use Rattle.go_body_core.proofs.file.runs.runs_of.Goals as goal

pub turns-init : goal.turns-init
turns-init c = none_yet (record { decls = c.args.decls; functions = c.args.functions }) c.new-runs.result.items c.new-runs.ensures.items c.requires

pub turns-smaller : goal.turns-smaller
turns-smaller c =
    let some = c.first_run.ensures.some (filled c.turns.left.decls.now c.turns-test.ensures) in
    omega (arith, some, c.divided-apart.ensures.smaller)

pub turns-preserved : goal.turns-preserved
turns-preserved c =
    let apart = c.divided-apart in
    run_more c.args.decls.now c.args.functions.now c.turns.left apart.result.0 apart.result.1 c.turns.runs.items c.add.new.all.items apart.ensures.decls apart.ensures.functions apart.ensures.first apart.ensures.rest c.in_ok-add.ensures
    c.turns.invariant

pub returns : goal.returns
returns c = none_left c.args.decls.now c.args.functions.now c.turns.left c.turns.runs.items (emptied c.turns.left.decls.now c.turns-test.ensures) c.turns.invariant
