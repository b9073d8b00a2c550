use Rattle.std.proofs.Common.{map, length, ap, sym, ◌∙◌, subst}
use Rattle.std.specs.Prelude.{IfOk}
use Rattle.std.proofs.lemmas.List.{length-map}
use Rattle.go_digraph_core.specs.needs.Needs.{AreValues}
use Rattle.go_declared_core.specs.Faces.{TheFace}
use Rattle.go_env_core.specs.Scenes.{scene_shown}
use Rattle.go_value_core.specs.Package.{placed_shown, package_needs, declared_face}
use Rattle.go_package_values.proofs.package.package_values.Goals as goal

pub values_in-requires-clause-written : goal.values_in-requires-clause-written
values_in-requires-clause-written c =
    c.requires.written ∙ (sym (ap length c.in_ok-decls.ensures) ∙ (length-map c.in_ok-decls.decls.items placed_shown ∙ sym (ap length c.deref.ensures.value)))

pub returns : goal.returns
returns c =
    let s = scene_shown c.args.scene.now in
    subst (λ ds. IfOk c.values_in.result (λ table. AreValues TheFace (package_needs s ds) (declared_face s ds) table.items)) (ap (map placed_shown) c.deref.ensures.value ∙ c.in_ok-decls.ensures) c.values_in.ensures
