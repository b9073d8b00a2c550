use Rattle.std.proofs.Common.{◌≡◌, ◌+◌, drop, nat_lt}
use Rattle.std.specs.List.{prefix_len}
use Rattle.go_emit_core.proofs.functions.passed.Given as goal

abbrev pub invariant-loop-place : goal.invariant-loop-place
invariant-loop-place l = l.place + prefix_len (λ u. nat_lt u.offset l.bound) (drop l.place l.answers) ≡ l.from + prefix_len (λ u. nat_lt u.offset l.bound) (drop l.from l.answers)
