use Rattle.std.proofs.Common.{◌≡◌, ◌-◌, ◌≤◌, ◌++◌, List, drop, length}
use Rattle.std.specs.Borrow.{Bor}
use Rattle.std.specs.List.{flat_map}
use Rattle.go_package_core.proofs.split.pieces_of.Given as goal

abbrev pub invariant-loop-start : goal.invariant-loop-start
invariant-loop-start g l = record {
  all : flat_map (λ (q : Bor (List _)). q.now) l.pieces.items ++ drop l.start l.tasks ≡ l.tasks;
  within : l.start ≤ length l.tasks;
}

abbrev pub decreases-loop-start : goal.decreases-loop-start
decreases-loop-start g l = length l.tasks - l.start
