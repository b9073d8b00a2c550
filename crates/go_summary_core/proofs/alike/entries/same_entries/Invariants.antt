use Rattle.std.proofs.Common.{◌≡◌, take}
use Rattle.go_summary_core.proofs.alike.entries.same_entries.Given as goal

abbrev pub invariant-loop-place : goal.invariant-loop-place
invariant-loop-place l = take l.place l.types ≡ take l.place l.others
