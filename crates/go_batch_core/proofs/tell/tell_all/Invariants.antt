use Rattle.std.proofs.Common.{◌≡◌, take}
use Rattle.go_batch_core.specs.mirrors.Tells.{with_tells}
use Rattle.go_batch_core.proofs.tell.tell_all.Given as goal

abbrev pub invariant-loop-tell : goal.invariant-loop-tell
invariant-loop-tell l = l.told ≡ with_tells l.initial.told (take l.tell-index l.untold)
