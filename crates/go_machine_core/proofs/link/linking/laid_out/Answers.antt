use Rattle.std.proofs.Common.{◌≡◌, List, Option, map, ap, ap₂, ◌∙◌}
use Rattle.std.specs.Prelude.{option_map}
use Rattle.go_collections_core.specs.spelling_index.Spelled.{places_of as spelled_places}
use Rattle.go_object_core.specs.Objects.{object_shown}
use Rattle.go_machine_core.specs.declared.link.places.Place.{Place}
use Rattle.go_machine_core.specs.link.Functions.{all_functions, number_of, place_shown}
use Rattle.go_machine_core.specs.link.Packages.{package_number}
use Rattle.go_machine_core.specs.link.mirrors.Layouts.{layout_of}
use Rattle.go_machine_core.specs.link.mirrors.Numbering.{found_in, numbered_path}
use Rattle.go_machine_core.proofs.LinkLaying.{linked_same, numbers_same, packages_same, path_numbers}
use Rattle.go_machine_core.proofs.link.linking.laid_out.Goals as goal

pub returns : goal.returns
returns g c =
    let place = g.P.Places.place_of c.args.places.now in
    let os = map object_shown c.args.objects.now in
    let fs = all_functions os in
    let es = c.in_ok-numbers.numbers.entries in
    let ps = spelled_places c.args.paths.now in
    let models = ap (λ (l : List (Option Place)). map (option_map place_shown) l) c.deref.ensures.value ∙ c.in_ok-found.ensures in
    let same = numbers_same place fs es (map (option_map place_shown) c.deref.result.now) c.in_ok-numbers.ensures models in
    ap₂ layout_of
    (c.in_ok-layout.ensures.functions ∙ linked_same (λ d. found_in es (place d)) (number_of place fs) same fs)
    (c.in_ok-layout.ensures.packages ∙ packages_same (numbered_path ps) (package_number os) (path_numbers os ps c.requires) 0 os)
