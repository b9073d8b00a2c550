use Rattle.std.proofs.Common.{◌≡◌, ◌++◌, length}
use Rattle.go_token_core.specs.Values.{quoted_value}
use Rattle.go_token_core.proofs.value.unquote.Given as goal

abbrev pub invariant-loop-rest : goal.invariant-loop-rest
invariant-loop-rest l = l.value.items ++ quoted_value l.rest 0 ≡ quoted_value l.text 0

abbrev pub decreases-loop-rest : goal.decreases-loop-rest
decreases-loop-rest l = length l.rest
