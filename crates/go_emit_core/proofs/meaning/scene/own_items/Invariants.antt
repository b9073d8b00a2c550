use Rattle.std.proofs.Common.{◌≡◌, ◌++◌, drop, map}
use Rattle.std.specs.Option.{option_map}
use Rattle.go_declared_core.specs.Faces.{face_shown}
use Rattle.go_emit_core.specs.meaning.Scenes.{own_spotted}
use Rattle.go_emit_core.specs.lookup.mirrors.Spotting.{item_shown}
use Rattle.go_emit_core.proofs.meaning.scene.own_items.Given as goal

abbrev pub invariant-loop-place : goal.invariant-loop-place
invariant-loop-place l =
    map item_shown l.items.items ++ own_spotted l.types l.path (drop l.place l.decls) (map (option_map face_shown) (drop l.place l.declared)) ≡ own_spotted l.types l.path l.decls (map (option_map face_shown) l.declared)
