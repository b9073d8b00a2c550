use Rattle.govisd_resolve.specs.told_lines.Lines.{fault_line}
use Rattle.govisd_resolve.proofs.ToldLinesLineLemmas.{lines_more, lines_all}
use Rattle.govisd_resolve.proofs.told_lines.lines.push_faults.Goals as goal

pub loop-fault-preserved : goal.loop-fault-preserved
loop-fault-preserved c = lines_more fault_line c.args.faults.now c.loop-fault.fault-index _ c.args.out.now.items c.loop-fault.out.items c.push_fault.new.out.items c.loop-fault-test.true c.loop-fault.invariant c.in_ok-push_fault.ensures

pub returns : goal.returns
returns c = lines_all fault_line c.args.faults.now c.loop-fault.fault-index c.args.out.now.items c.loop-fault.out.items c.loop-fault-test.false c.loop-fault.invariant
