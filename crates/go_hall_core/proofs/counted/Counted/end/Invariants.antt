use Rattle.std.proofs.Common.{◌≡◌, ◌+◌, length}
use Rattle.std.specs.List.{sum_by}
use Rattle.go_hall_core.proofs.counted.Counted.end.Given as goal

abbrev pub invariant-loop-one : goal.invariant-loop-one
invariant-loop-one g l = (l.rest.parts ≡ l.initial.rest.parts + length l.yielded) × (l.rest.amount ≡ sum_by (λ s. s.count) l.yielded) × (l.book.total ≡ l.initial.book.total) × (l.initial.rest.amount ≡ 0)
