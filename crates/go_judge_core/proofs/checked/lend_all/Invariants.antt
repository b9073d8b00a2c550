use Rattle.std.proofs.Common.{◌≡◌, map, take}
use Rattle.std.specs.Option.{option_map}
use Rattle.go_env_core.specs.declared_core.Faces.{face_shown}
use Rattle.go_judge_core.proofs.checked.lend_all.Given as goal

abbrev pub invariant-loop-face : goal.invariant-loop-face
invariant-loop-face l = l.lent.items ≡ map (option_map face_shown) (take l.face-index l.declared)
