use Rattle.std.proofs.Common.{◌≡◌, length}
use Rattle.go_batch_core.specs.Steadiness.{AreSameAt}
use Rattle.go_batch_core.proofs.over.stays.Given as goal

abbrev pub invariant-loop-number : goal.invariant-loop-number
invariant-loop-number l = (length l.marks.items ≡ l.number) × AreSameAt l.earlier l.current l.marks.items
