use Rattle.std.proofs.Common.{ap, ◌∙◌}
use Rattle.go_tree_nodes.specs.Shapes.{shape_value_spec}
use Rattle.go_package_values.proofs.Standing.{stands_ok}
use Rattle.go_package_values.proofs.stage.place_value.Goals as goal

pub returns : goal.returns
returns g c =
    let h = c.stand-here.result in
    let p = c.args.placed.now in
    stands_ok h c.args.scene.now p.file p.types.now c.args.known.now c.args.kind (shape_value_spec c.args.spec.now) c.args.at c.initial_value.result
    c.stand-here.ensures.scene c.stand-here.ensures.file c.stand-here.ensures.inline c.stand-here.ensures.known
    (ap (λ n. n.scopes.now) c.stand-here.ensures.names ∙ c.requires.scopes)
    (ap (λ n. n.locals.now) c.stand-here.ensures.names ∙ c.requires.locals)
    c.initial_value.ensures
