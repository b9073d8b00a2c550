use Rattle.std.proofs.Common.{map}
use Rattle.go_summary_core.specs.typexpr_core.EntryOutlines.{outline_shown}
use Rattle.go_report_core.specs.type_faults.Places.{located}
use Rattle.go_report_core.proofs.TypeFaultsAdding.{item_step_or, plain_end}
use Rattle.go_report_core.proofs.type_faults.places.add_faults.Goals as goal

pub loop-fault-preserved : goal.loop-fault-preserved
loop-fault-preserved c =
    item_step_or (λ f. f) (λ f. located (map outline_shown c.args.outlines.now) f.place f.rule) c.args.found.now c.loop-fault.fault-index _ c.args.faults.now.items _ _ c.loop-fault-test.true c.in_ok-add_fault.ensures c.loop-fault.invariant

pub returns : goal.returns
returns c =
    plain_end (λ f. located (map outline_shown c.args.outlines.now) f.place f.rule) c.args.found.now c.loop-fault.fault-index c.args.faults.now.items _ c.loop-fault-test.false c.loop-fault.invariant
