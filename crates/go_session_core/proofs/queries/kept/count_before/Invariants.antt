use Rattle.std.proofs.Common.{◌≡◌, ◌-◌, ◌≤◌, length}
use Rattle.go_session_core.proofs.QueriesInsides.{AreBefore, AreBehind}
use Rattle.go_session_core.proofs.queries.kept.count_before.Given as goal

abbrev pub invariant-halves : goal.invariant-halves
invariant-halves l = record { order : l.low ≤ l.high; within : l.high ≤ length l.snapshot.sources; before : AreBefore l.snapshot.sources l.text l.low; behind : AreBehind l.snapshot.sources l.text l.high }

abbrev pub decreases-halves : goal.decreases-halves
decreases-halves l = l.high - l.low
