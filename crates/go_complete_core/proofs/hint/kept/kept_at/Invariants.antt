use Rattle.std.proofs.Common.{◌≡◌, drop, map}
use Rattle.go_package_core.specs.Checked.{local_shown}
use Rattle.go_complete_core.specs.hint.Kept.{kept_at}
use Rattle.go_complete_core.proofs.hint.kept.kept_at.Given as goal

abbrev pub invariant-loop-local : goal.invariant-loop-local
invariant-loop-local l = kept_at (map local_shown (drop l.local-index l.kept)) l.offset ≡ kept_at (map local_shown l.kept) l.offset
