use Rattle.std.proofs.Common.{◌≡◌, take}
use Rattle.go_summary_core.proofs.alike.names.same_names.Given as goal

abbrev pub invariant-loop-place : goal.invariant-loop-place
invariant-loop-place l = take l.place l.names ≡ take l.place l.others
