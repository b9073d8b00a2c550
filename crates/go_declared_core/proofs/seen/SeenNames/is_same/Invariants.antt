use Rattle.std.proofs.Common.{◌≡◌, take}
use Rattle.go_declared_core.proofs.seen.SeenNames.is_same.Given as goal

abbrev pub invariant-loop-place : goal.invariant-loop-place
invariant-loop-place l = take l.place l.self ≡ take l.place l.other
