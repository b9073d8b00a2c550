use Rattle.std.proofs.Common.{◌≡◌, ◌++◌, List, map, ap, ◌∙◌}
use Rattle.std.specs.Prelude.{option_map}
use Rattle.go_object_core.specs.declared.object.FunctionCode.{FunctionCode}
use Rattle.go_object_core.specs.declared.object.Object.{Object}
use Rattle.go_object_core.specs.Objects.{function_shown, object_shown}
use Rattle.go_machine_core.specs.link.Functions.{place_shown}
use Rattle.go_machine_core.proofs.LinkLaying.{places_more}
use Rattle.go_machine_core.proofs.link.functions.places_of.Goals as goal

pub loop-object-preserved : goal.loop-object-preserved
loop-object-preserved g c =
    let place = g.P.Places.place_of c.args.places.now in
    let old = map (option_map place_shown) c.loop-object.found.items in
    places_more object_shown place _ old (map (option_map place_shown) c.add_places.new.found.items) c.args.objects.now c.loop-object.object-index c.object-item.result c.loop-object-test.true
    (c.in_ok-add_places.ensures
    ∙ (ap (λ (fs : List (FunctionCode g.row.D.Denot)). old ++ map (λ f. place f.declaration) (map function_shown fs)) c.deref.ensures.value
    ∙ ap (λ (o : Object g.row.D.Denot). old ++ map (λ f. place f.declaration) (object_shown o).functions) c.object-item.is))
    c.loop-object.invariant
