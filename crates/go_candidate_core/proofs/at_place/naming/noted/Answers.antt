use Rattle.std.proofs.Common.{List, ℕ, map, subst}
use Rattle.go_tree_nodes.specs.TypeShapes.{shape_type}
use Rattle.go_body_core.specs.typexpr_core.EntryMeanings.{file_meaning}
use Rattle.go_body_core.specs.function.Stands.{kinds_in_scene}
use Rattle.go_candidate_core.specs.at_place.Arounds.{scene_at}
use Rattle.go_candidate_core.specs.at_place.Locals.{local_shown}
use Rattle.go_candidate_core.specs.at_place.Types.{AreNoted, meaning_around, noted_shown}
use Rattle.go_candidate_core.proofs.at_place.naming.noted.Goals as goal

pub returns : goal.returns
returns g c =
    let at = c.args.at.now in
    subst (λ (p : List ℕ). AreNoted (kinds_in_scene (scene_at at)) (record { path = p; file = at.file; places = at.places.now }) (meaning_around (map local_shown c.args.locals.now) (file_meaning (g.P.ImportedNames.shows at.imported.now) p at.blocks.now at.file)) (map (λ t. shape_type t.now) c.args.trees.now) (map noted_shown c.in_ok-types.types.items))
    c.path-path.ensures c.in_ok-types.ensures
