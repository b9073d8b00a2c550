use Rattle.std.proofs.Common.{◌≡◌, map, take}
use Rattle.go_judge_core.specs.Misfits.{wanted_shown}
use Rattle.go_judge_core.proofs.fitting.all_lent.Given as goal

abbrev pub invariant-loop-t : goal.invariant-loop-t
invariant-loop-t l = l.all.items ≡ map wanted_shown (take l.t-index l.wanted)
