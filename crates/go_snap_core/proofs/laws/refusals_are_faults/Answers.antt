use Rattle.go_snap_core.proofs.Lying.{no_fault_no_refusal, refusals_are_faults}
use Rattle.go_snap_core.proofs.laws.refusals_are_faults.Goals as goal

pub returns : goal.returns
returns c = record { faults = refusals_are_faults; none = no_fault_no_refusal }
