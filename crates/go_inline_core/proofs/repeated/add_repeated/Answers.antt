use Rattle.go_inline_core.proofs.FaultLemmas.{repeated_step}
use Rattle.go_inline_core.proofs.repeated.add_repeated.Goals as goal

pub loop-ident-preserved : goal.loop-ident-preserved
loop-ident-preserved c = repeated_step c.args.idents.now c.loop-ident.ident-index c.ident-item.result c.loop-ident.seen c.pass.new.seen c.loop-ident.faults.items c.pass.new.faults.items _ c.loop-ident-test.true c.ident-item.is c.in_ok-pass.ensures.names c.in_ok-pass.ensures.faults c.loop-ident.invariant
