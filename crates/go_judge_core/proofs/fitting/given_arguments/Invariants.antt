use Rattle.std.proofs.Common.{◌≡◌, map, take}
use Rattle.go_judge_core.specs.Misfits.{given_shown}
use Rattle.go_judge_core.proofs.fitting.given_arguments.Given as goal

abbrev pub invariant-loop-value : goal.invariant-loop-value
invariant-loop-value l = l.all.items ≡ map given_shown (take l.value-index l.values)
