use Rattle.std.proofs.Common.{List, ◌≡◌, true, false, map, sym, ap, subst, ◌∙◌}
use Rattle.go_names_core.specs.local_core.mirrors.Walk.{look_in}
use Rattle.go_package_core.specs.body_core.FunctionStands.{looks_where, outer_meanings}
use Rattle.go_tree_nodes.specs.declared.exprs.«Item» as declared_item
use Rattle.go_tree_nodes.specs.Shapes.{items_of}
use Rattle.go_cursor_core.specs.Shown.{literal_shown, spot_shown}
use Rattle.go_cursor_core.specs.Used.{SpotTree, KeySpot}
use Rattle.go_candidate_core.specs.at_place.Arounds.{NamesAround, stand_shown}
use Rattle.go_candidate_core.specs.at_place.Locals.{local_shown}
use Rattle.go_candidate_core.proofs.AtPlaceJudging.{name_rests}
use Rattle.go_complete_core.proofs.hint.hints.names_at.Goals as goal

pub returns-in_ok-names-in-Behind : goal.returns-in_ok-names-in-Behind
returns-in_ok-names-in-Behind g c =
    subst (λ (s : SpotTree). NamesAround g.P.ImportedNames.shows c.args.place.now (map local_shown c.args.locals.now) s c.in_ok-names-in-Behind.names.items) (sym (ap spot_shown c.in-Behind.is)) c.in_ok-names-in-Behind.ensures

pub returns-in_ok-names-in-Key : goal.returns-in_ok-names-in-Key
returns-in_ok-names-in-Key g c =
    subst (λ (s : SpotTree). NamesAround g.P.ImportedNames.shows c.args.place.now (map local_shown c.args.locals.now) s c.in_ok-names-in-Key.names.items) (sym (ap spot_shown c.in-Key.is))
    (subst (λ (l : List declared_item.Item). NamesAround g.P.ImportedNames.shows c.args.place.now (map local_shown c.args.locals.now) (KeySpot (literal_shown c.in-Key.of) (items_of l) c.in-Key.at) c.in_ok-names-in-Key.names.items) c.deref.ensures.value c.in_ok-names-in-Key.ensures)

pub returns-in-Name : goal.returns-in-Name
returns-in-Name g c =
    subst (λ (s : SpotTree). NamesAround g.P.ImportedNames.shows c.args.place.now (map local_shown c.args.locals.now) s c.new.result.items) (sym (ap spot_shown c.in-Name.is)) (λ rests. (let lie : false ≡ true = rests in absurd cc))

pub returns-in-BehindName : goal.returns-in-BehindName
returns-in-BehindName g c =
    let st = stand_shown g.P.ImportedNames.shows c.args.place.now in
    let looks = looks_where st (look_in (outer_meanings st) (map local_shown c.args.locals.now)) in
    subst (λ (s : SpotTree). NamesAround g.P.ImportedNames.shows c.args.place.now (map local_shown c.args.locals.now) s c.new-in-BehindName.result.items) (sym (ap spot_shown c.in-BehindName.is))
    (λ rests. (let lie : false ≡ true = sym (name_rests looks c.in-BehindName.field-0.now) ∙ rests in absurd cc))
