use Rattle.std.proofs.Common.{◌≡◌, take, map}
use Rattle.go_import_core.specs.head.Heads.{spelled_head_of_file}
use Rattle.go_import_core.proofs.head.heads.same_heads.Given as goal

abbrev pub invariant-loop-place : goal.invariant-loop-place
invariant-loop-place l = map spelled_head_of_file (take l.place l.files) ≡ map spelled_head_of_file (take l.place l.others)
