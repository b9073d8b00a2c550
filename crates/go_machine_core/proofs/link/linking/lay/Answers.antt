use Rattle.std.proofs.Common.{◌≡◌, ◌++◌, ◌+◌, List, ◌∷◌, [], length, map, sym, ap, ◌∙◌}
use Rattle.std.proofs.lemmas.List.{length-append, length-map}
use Rattle.go_collections_core.specs.spelling_index.Spelled.{places_of as spelled_places}
use Rattle.go_object_core.specs.declared.object.Object.{Object}
use Rattle.go_object_core.specs.Objects.{object_shown}
use Rattle.go_machine_core.specs.Programs.{linked_shown}
use Rattle.go_machine_core.specs.link.Functions.{linked_of}
use Rattle.go_machine_core.specs.link.Packages.{package_of, package_shown}
use Rattle.go_machine_core.specs.link.mirrors.Layouts.{LayoutOf}
use Rattle.go_machine_core.specs.link.mirrors.Numbering.{found_in, numbered_path}
use Rattle.go_machine_core.proofs.LinkLaying.{functions_more, packages_more, functions_many}
use Rattle.go_machine_core.proofs.link.linking.lay.Goals as goal

pub loop-object-preserved : goal.loop-object-preserved
loop-object-preserved g c =
    let number : g.row.D.Denot → _ = λ d. found_in c.args.numbers.now.entries (g.P.Places.place_of c.args.places.now d) in
    let path_number = numbered_path (spelled_places c.args.paths.now) in
    let old = map linked_shown c.loop-object.layout.functions.items in
    let new = map linked_shown c.add_object.new.layout.functions.items in
    let packages = map package_shown c.loop-object.layout.packages.items in
    let now = map package_shown c.add_object.new.layout.packages.items in
    let functions_is : new ≡ old ++ map (linked_of number) (object_shown c.object-item.result).functions = ap (λ (l : LayoutOf). l.functions) c.in_ok-add_object.ensures in
    let packages_is : now ≡ packages ++ package_of path_number (length old) (object_shown c.object-item.result) ∷ [] = ap (λ (l : LayoutOf). l.packages) c.in_ok-add_object.ensures in
    let functions_there = functions_is ∙ ap (λ (o : Object g.row.D.Denot). old ++ map (linked_of number) (object_shown o).functions) c.object-item.is in
    let packages_there = packages_is ∙ ap (λ (o : Object g.row.D.Denot). packages ++ package_of path_number (length old) (object_shown o) ∷ []) c.object-item.is in
    record {
      functions = functions_more object_shown number _ old new c.args.objects.now c.loop-object.object-index c.object-item.result c.loop-object-test.true functions_there c.loop-object.invariant.functions;
      packages = packages_more object_shown path_number _ packages now (length old) (length new) c.args.objects.now c.loop-object.object-index c.object-item.result c.loop-object-test.true packages_there
          (functions_many number old new _ functions_there) c.loop-object.invariant.packages;
    }
