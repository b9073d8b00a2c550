use Rattle.std.proofs.Common.{Bor, List, ℕ, map, ap, ◌∙◌}
use Rattle.go_tree_nodes.specs.Shapes.{items_of}
use Rattle.go_cursor_core.specs.Shown.{literal_shown}
use Rattle.go_body_core.specs.env_core.Looks.{here_look}
use Rattle.go_body_core.specs.env_core.Scenes.{scene_shown}
use Rattle.go_candidate_core.specs.at_place.Locals.{local_shown}
use Rattle.go_candidate_core.specs.at_place.Types.{noted_rules, noted_shown}
use Rattle.go_candidate_core.proofs.AtPlaceJudging.{key_lists}
use Rattle.go_candidate_core.proofs.at_place.naming.keys.Goals as goal

pub returns : goal.returns
returns c =
    let a = c.args.around.now in
    let s = scene_shown a.here.scene.now in
    key_lists s a.here.file a.here.known.now (noted_rules s.types (map noted_shown a.types.now)) (λ name. here_look a.here name 0) (map local_shown a.locals.now) (literal_shown c.args.of) (items_of c.args.elements.now) c.args.at c.in_ok-t.t c.in_ok-mixed.mixed
    _ (map (λ n. n.now) c.in_ok-names.names.items) c.in_ok-copies.copies.items c.in_ok-t.ensures c.in_ok-mixed.ensures (ap (map (λ (n : Bor (List ℕ)). n.now)) c.deref.ensures.value ∙ c.in_ok-others.ensures)
    (c.in_ok-copies.ensures ∙ ap (map (λ (n : Bor (List ℕ)). n.now)) c.deref-2.ensures.value) c.in_ok-names.ensures
