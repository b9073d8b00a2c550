use Rattle.std.proofs.Common.{arith}
use Rattle.go_session_core.proofs.QueriesListed.{one_more}
use Rattle.go_session_core.proofs.queries.faults.faults_in.Goals as goal

pub loop-number-preserved : goal.loop-number-preserved
loop-number-preserved c =
    one_more c.args.own.now c.args.snapshot.now.sources c.args.snapshot.now.faults c.loop-number.number c.fault_of.result.now c.loop-number.found.items c.keep.new.faults.items c.in_ok-one.one
    (omega (arith, c.loop-number-test.true, c.fault_count-number-end.ensures)) c.fault_of.ensures c.in_ok-one.ensures c.in_ok-keep.ensures c.loop-number.invariant
