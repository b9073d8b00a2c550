use Rattle.std.proofs.Common.{map, sym, ap, subst, ◌∙◌}
use Rattle.go_tree_nodes.specs.Shapes.{shape, items_of}
use Rattle.go_cursor_core.specs.Shown.{literal_shown}
use Rattle.go_cursor_core.specs.Used.{SpotTree, BehindSpot, KeySpot}
use Rattle.go_body_core.specs.env_core.Looks.{TheLooks}
use Rattle.go_body_core.specs.env_core.Scenes.{scene_shown}
use Rattle.go_candidate_core.specs.at_place.Arounds.{ListsAround, asked_shown, place_looks}
use Rattle.go_candidate_core.specs.at_place.Locals.{local_shown}
use Rattle.go_candidate_core.specs.at_place.Types.{noted_shown}
use Rattle.go_candidate_core.proofs.at_place.naming.judged.Goals as goal

pub around_at-around-requires-clause-scene : goal.around_at-around-requires-clause-scene
around_at-around-requires-clause-scene g c = ap scene_shown c.stand-here.ensures.scene ∙ c.scene_of-scene.ensures

pub around_at-around-requires-clause-known : goal.around_at-around-requires-clause-known
around_at-around-requires-clause-known g c = c.stand-here.ensures.known ∙ (c.deref.ensures.value ∙ c.in_ok-known.ensures)

pub around_at-around-requires-clause-scopes : goal.around_at-around-requires-clause-scopes
around_at-around-requires-clause-scopes g c = ap (λ o. o.scopes.now) c.stand-here.ensures.names ∙ (c.outer_names-names.ensures.scopes ∙ c.begin-scopes.ensures)

pub around_at-around-requires-clause-top : goal.around_at-around-requires-clause-top
around_at-around-requires-clause-top g c = ap (λ o. o.locals.now) c.stand-here.ensures.names ∙ c.outer_names-names.ensures.locals

pub returns-in-Behind : goal.returns-in-Behind
returns-in-Behind g c =
    let looks = place_looks g.P.ImportedNames.shows c.args.at.now (map noted_shown c.args.types.now) (map local_shown c.args.locals.now) in
    let names = c.in_ok-names-in-Behind.names.items in
    subst (λ (s : SpotTree). ListsAround looks s names) (sym (ap asked_shown c.in-Behind.is)) (subst (λ (l : TheLooks). ListsAround l (BehindSpot c.in-Behind.usage c.in-Behind.place (shape c.in-Behind.operand.now)) names) c.around_at-around.ensures c.in_ok-names-in-Behind.ensures)

pub returns : goal.returns
returns g c =
    let looks = place_looks g.P.ImportedNames.shows c.args.at.now (map noted_shown c.args.types.now) (map local_shown c.args.locals.now) in
    let names = c.in_ok-names-in-Key.names.items in
    subst (λ (s : SpotTree). ListsAround looks s names) (sym (ap asked_shown c.in-Key.is)) (subst (λ (l : TheLooks). ListsAround l (KeySpot (literal_shown c.in-Key.of) (items_of c.in-Key.elements.now) c.in-Key.number) names) c.around_at-around.ensures c.in_ok-names-in-Key.ensures)
