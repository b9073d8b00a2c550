use Rattle.std.proofs.Common.{map}
use Rattle.std.specs.Option.{option_map}
use Rattle.go_summary_core.specs.declared_core.Faces.{face_shown}
use Rattle.go_body_core.specs.env_core.Scenes.{scene_shown}
use Rattle.go_candidate_core.specs.at_place.Arounds.{scene_at}
use Rattle.go_candidate_core.specs.at_place.Locals.{local_shown}
use Rattle.go_candidate_core.specs.at_place.Types.{noted_shown}
use Rattle.go_candidate_core.proofs.AtPlaceJudging.{seen_same}
use Rattle.go_candidate_core.proofs.at_place.naming.around_at.Goals as goal

pub returns : goal.returns
returns g c =
    let h = c.args.here in
    let at = c.args.at.now in
    seen_same (map local_shown c.args.locals.now) (map noted_shown c.args.types.now) (scene_shown h.scene.now) (scene_at at) h.file at.file h.known.now (map (option_map face_shown) at.declared.now) h.names.now.locals.now h.names.now.scopes.now
    c.requires.scene c.requires.file c.requires.known c.requires.top c.requires.scopes
