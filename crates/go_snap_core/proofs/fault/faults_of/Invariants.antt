use Rattle.go_snap_core.specs.Snapshots.{contents_of}
use Rattle.go_snap_core.specs.mirrors.Reports.{AreFaultsTo}
use Rattle.go_snap_core.proofs.fault.faults_of.Given as goal

abbrev pub invariant-loop-package : goal.invariant-loop-package
invariant-loop-package l = AreFaultsTo l.workspace (contents_of l.parts) l.«package» l.faults.items
