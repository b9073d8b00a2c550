use Rattle.std.proofs.Common.{◌≡◌, take}
use Rattle.go_branch_core.proofs.walk.again.Given as goal

abbrev pub invariant-loop-meaning : goal.invariant-loop-meaning
invariant-loop-meaning g l = l.same.items ≡ take l.meaning-index l.meanings
