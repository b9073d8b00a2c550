use Rattle.std.proofs.Common.{map, ap, sym, ◌∙◌, subst}
use Rattle.std.proofs.lemmas.List.{length-map}
use Rattle.go_digraph_core.specs.needs.Needs.{NeedsAreInside, rows_of}
use Rattle.go_env_core.specs.Scenes.{scene_shown}
use Rattle.go_value_core.specs.Package.{placed_shown}
use Rattle.go_value_core.proofs.Seeing.{all_inside}
use Rattle.go_package_values.proofs.package.values_in.Goals as goal

pub values_of-requires-clause-inside : goal.values_of-requires-clause-inside
values_of-requires-clause-inside g c =
    let decls = c.args.decls.now in
    subst NeedsAreInside (sym (ap rows_of c.deref.ensures.value ∙ c.in_ok-needs.ensures))
    (all_inside (scene_shown c.args.scene.now) (map placed_shown decls) (c.requires.written ∙ sym (length-map decls placed_shown)))
