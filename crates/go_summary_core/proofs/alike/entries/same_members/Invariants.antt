use Rattle.std.proofs.Common.{◌≡◌, take, map}
use Rattle.go_table_core.specs.Shown.{member_shown}
use Rattle.go_summary_core.proofs.alike.entries.same_members.Given as goal

abbrev pub invariant-loop-place : goal.invariant-loop-place
invariant-loop-place l = map member_shown (take l.place l.methods) ≡ map member_shown (take l.place l.others)
