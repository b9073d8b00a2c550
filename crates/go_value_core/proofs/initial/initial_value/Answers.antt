use Rattle.std.proofs.Common.{◌≡◌, ◌<◌, ◌≤◌, ap, sym, ◌∙◌, arith}
use Rattle.go_tree_nodes.specs.Shapes.{shape_value_spec}
use Rattle.go_stmt_core.specs.expr_core.Looks.{everywhere}
use Rattle.go_value_core.specs.Initial.{spec_name_count}
use Rattle.go_value_core.proofs.Owning.{initial_from, initial_past}
use Rattle.go_value_core.proofs.initial.initial_value.Goals as goal

pub returns-then-at-name_count : goal.returns-then-at-name_count
returns-then-at-name_count g c =
    let looks = everywhere (g.E.TypeLooks.types c.args.env.now) (g.E.Names.names c.args.env.now) (g.E.Literals.literals c.args.env.now) (g.E.Exprs.written c.args.env.now) in
    let v = shape_value_spec c.args.spec.now in
    let past : spec_name_count v ≤ c.args.at = omega (arith, c.name_count.ensures, c.if-at-name_count.true) in
    sym (initial_past looks c.args.kind v c.args.at past)

pub returns : goal.returns
returns g c =
    let looks = everywhere (g.E.TypeLooks.types c.args.env.now) (g.E.Names.names c.args.env.now) (g.E.Literals.literals c.args.env.now) (g.E.Exprs.written c.args.env.now) in
    let v = shape_value_spec c.args.spec.now in
    let within : c.args.at < spec_name_count v = omega (arith, c.name_count.ensures, c.if-at-name_count.false) in
    initial_from looks c.args.kind v c.args.at within c.in_ok-written.written c.in_ok-given.given c.value_from.result c.in_ok-written.ensures c.in_ok-given.ensures c.value_from.ensures
