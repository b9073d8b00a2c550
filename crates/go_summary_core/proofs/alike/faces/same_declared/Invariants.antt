use Rattle.std.proofs.Common.{◌≡◌, take, map}
use Rattle.go_declared_core.specs.Held.{declared_shown}
use Rattle.go_summary_core.proofs.alike.faces.same_declared.Given as goal

abbrev pub invariant-loop-place : goal.invariant-loop-place
invariant-loop-place l = map declared_shown (take l.place l.faces) ≡ map declared_shown (take l.place l.others)
