use Rattle.std.proofs.Common.{length, refl}
use Rattle.std.proofs.lemmas.Option.{slice_get_read}
use Rattle.go_env_core.specs.Scenes.{scene_shown}
use Rattle.go_digraph_core.specs.needs.Needs.{known_in}
use Rattle.go_package_values.proofs.Standing.{declared}
use Rattle.go_package_values.proofs.stage.StageNeeding.value_of.Goals as goal

pub returns-in-Some : goal.returns-in-Some
returns-in-Some g c =
    let s = c.args.self.now in
    let p = c.in-Some.placed.now in
    let read = slice_get_read s.decls.now (length s.decls.now) c.args.node p refl c.in-Some.ensures.lookup.3.0 c.in-Some.ensures.lookup.1 in
    declared (scene_shown s.scene.now) s.decls.now p c.args.node (known_in c.args.known.now) c.form_face.result read c.form_face.ensures
