use Rattle.std.proofs.Common.{◌≡◌, map, take}
use Rattle.std.specs.Option.{option_map}
use Rattle.go_summary_core.specs.declared_core.Faces.{face_shown}
use Rattle.go_report_core.proofs.answer.faces.held_faces.Given as goal

abbrev pub invariant-loop-face : goal.invariant-loop-face
invariant-loop-face l = map (option_map face_shown) l.held.items ≡ take l.face-index l.known
