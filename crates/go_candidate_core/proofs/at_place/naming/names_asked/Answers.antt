use Rattle.std.proofs.Common.{List, map, rules, subst}
use Rattle.go_tree_nodes.specs.Trees.{TypeTree}
use Rattle.go_candidate_core.specs.at_place.Arounds.{AreNotedAt, ListsAround, asked_shown, place_looks, stand_shown}
use Rattle.go_candidate_core.specs.at_place.Locals.{local_shown}
use Rattle.go_candidate_core.specs.at_place.Types.{noted_shown}
use Rattle.go_candidate_core.specs.declared.at_place.types.NotedType.{NotedType}
use Rattle.go_candidate_core.proofs.AtPlaceAgreeing.{names_there}
use Rattle.go_candidate_core.proofs.at_place.naming.names_asked.Goals as goal

pub returns : goal.returns
returns g c =
    let shows = g.P.ImportedNames.shows in
    let at = c.args.at.now in
    let locals = map local_shown c.args.locals.now in
    let noted = map noted_shown c.in_ok-types.types.items in
    names_there (stand_shown shows at) locals (asked_shown c.args.asked) noted c.in_ok-names.names.items
    (subst (λ (l : List TypeTree). AreNotedAt shows at locals l noted) (search rules) c.in_ok-types.ensures)
    (subst (λ (l : List NotedType). ListsAround (place_looks shows at (map noted_shown l) locals) (asked_shown c.args.asked) c.in_ok-names.names.items) c.deref-2.ensures.value c.in_ok-names.ensures)
