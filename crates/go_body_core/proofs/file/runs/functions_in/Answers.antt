use Rattle.std.proofs.Common.{arith}
use Rattle.go_body_core.proofs.FileRunning.{funcs_more}
use Rattle.go_body_core.proofs.file.runs.functions_in.Goals as goal

pub loop-top-preserved : goal.loop-top-preserved
loop-top-preserved c =
    let few = c.function_count-count.ensures.few in
    let before = c.loop-top.invariant.few in
    record {
      counted = funcs_more c.args.decls.now c.loop-top.top-index c.top-item.result c.loop-top.count c.function_count-count.result c.loop-top-test.true c.top-item.is c.loop-top.invariant.counted c.function_count-count.ensures.count;
      few = omega (arith, few, before);
    }
