use Rattle.std.proofs.Common.{◌≡◌, take, map}
use Rattle.go_import_core.proofs.head.heads.same_lines.Given as goal

abbrev pub invariant-loop-place : goal.invariant-loop-place
invariant-loop-place l = map (λ l. l.spec.path.spelled) (take l.place l.lines) ≡ map (λ l. l.spec.path.spelled) (take l.place l.others)
