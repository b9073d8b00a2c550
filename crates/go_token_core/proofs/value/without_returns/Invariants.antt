use Rattle.std.proofs.Common.{◌≡◌, ◌++◌, length}
use Rattle.go_token_core.specs.Values.{raw_value}
use Rattle.go_token_core.proofs.value.without_returns.Given as goal

abbrev pub invariant-loop-rest : goal.invariant-loop-rest
invariant-loop-rest l = l.value.items ++ raw_value l.rest ≡ raw_value l.text

abbrev pub decreases-loop-rest : goal.decreases-loop-rest
decreases-loop-rest l = length l.rest
