use Rattle.std.proofs.Common.{[], ◌∙◌}
use Rattle.go_tree_nodes.specs.Shapes.{shape_exprs}
use Rattle.go_tree_nodes.specs.TypeShapes.{shape_idents}
use Rattle.go_expr_core.specs.local_core.Outline.{idents}
use Rattle.go_stmt_core.specs.statement.Assignments.{assignment_rule}
use Rattle.go_expr_core.specs.Looks.{everywhere}
use Rattle.go_expr_core.proofs.Steps.{ok_any}
use Rattle.go_stmt_core.specs.piece.Values.{given, is_unknown, list_faults}
use Rattle.go_stmt_core.specs.piece.Targets.{short_targets}
use Rattle.go_stmt_core.specs.piece.Specifications.{names_start}
use Rattle.go_stmt_core.proofs.PieceNoting.{noted_behind, assignment_of}
use Rattle.go_stmt_core.proofs.piece.shorts.check_short.Goals as goal

pub returns-clause-faults : goal.returns-clause-faults
returns-clause-faults g c =
    let looks = everywhere (g.E.TypeLooks.types c.args.env.now) (g.E.Names.names c.args.env.now) (g.E.Literals.literals c.args.env.now) (g.E.Exprs.written c.args.env.now) in
    let xs = shape_idents c.args.names.now in
    let es = shape_exprs c.args.exprs.now in
    let targets = short_targets looks c.args.firsts.now [] (idents xs) in
    ok_any c.variables.result
    (noted_behind c.args.notes.now.faults.items _ c.note_fault.new.faults.items (list_faults looks es) c.names_start.result (names_start xs) c.in_ok-rule.rule (assignment_rule looks.types targets (is_unknown looks es) (given looks es))
    c.in_ok-given.ensures.faults c.in_ok-note_fault.ensures c.names_start.ensures
    (c.in_ok-rule.ensures
    ∙ assignment_of looks.types c.deref.result.now targets c.in_ok-given.given.is_unknown (is_unknown looks es) c.deref-2.result.now (given looks es) (c.deref.ensures.value ∙ c.in_ok-targets.ensures) c.in_ok-given.ensures.unknown (c.deref-2.ensures.value ∙ c.in_ok-given.ensures.values)))
