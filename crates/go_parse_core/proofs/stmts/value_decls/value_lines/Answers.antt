use Rattle.std.proofs.Common.{arith}
use Rattle.std.proofs.lemmas.Result.{err_from_is_err_and}
use Rattle.go_tree_nodes.specs.Shapes.{shape_value_line}
use Rattle.go_parse_reader.proofs.TypesCodeSteps.{none_of, some_of}
use Rattle.go_parse_reader.proofs.TypesCodeLists.{list_fails, list_end}
use Rattle.go_parse_reader.proofs.TypesCodeTypes.{pushed}
use Rattle.go_parse_core.proofs.StmtsCodeLines.{turn_more, turn_shorter, turn_last, turn_missing}
use Rattle.go_parse_core.proofs.StmtsCodeSpecs.{value_spec_shorter}
use Rattle.go_parse_core.proofs.stmts.value_decls.value_lines.Goals as goal

pub returns-in_err-spec : goal.returns-in_err-spec
returns-in_err-spec c =
    let p = err_from_is_err_and c.from_residual.result c.from_residual.ensures.1 in
    rw (p.1, p.2) (list_fails _ _ _ _ _ _ _ _ c.turns.invariant.so_far (none_of _ _ c.turns-test.ensures c.mark.ensures) c.in_err-spec.ensures)

pub returns-in_err-need_mark : goal.returns-in_err-need_mark
returns-in_err-need_mark c =
    let p = err_from_is_err_and c.from_residual-in_err-need_mark.result c.from_residual-in_err-need_mark.ensures.1 in
    rw (p.1, p.2) (turn_missing _ _ _ _ _ _ _ _ _ _ _ c.turns.invariant.so_far (none_of _ _ c.turns-test.ensures c.mark.ensures) c.in_ok-spec.ensures c.some_mark-semicolon.ensures c.if-is_none.ensures c.in_err-need_mark.ensures.value)

pub returns-then-is_none : goal.returns-then-is_none
returns-then-is_none c =
    rw c.fitted.ensures (turn_last _ _ _ _ _ _ _ _ _ _ _ _ c.turns.invariant.so_far (none_of _ _ c.turns-test.ensures c.mark.ensures) c.in_ok-spec.ensures c.some_mark-semicolon.ensures c.if-is_none.ensures c.in_ok-need_mark.ensures.value (pushed shape_value_line _ _ _ c.in_ok-add.ensures))

pub turns-smaller : goal.turns-smaller
turns-smaller c = turn_shorter _ _ _ _ (value_spec_shorter _ _ _ _ _ c.in_ok-spec.ensures) c.some_mark-semicolon.ensures c.if-is_none.ensures

pub turns-preserved : goal.turns-preserved
turns-preserved c =
    record { so_far = turn_more _ _ _ _ _ _ _ _ _ _ _ c.turns.invariant.so_far (none_of _ _ c.turns-test.ensures c.mark.ensures) c.in_ok-spec.ensures (value_spec_shorter _ _ _ _ _ c.in_ok-spec.ensures) c.some_mark-semicolon.ensures c.if-is_none.ensures (pushed shape_value_line _ _ _ c.in_ok-add.ensures); few = omega arith }

pub returns : goal.returns
returns c =
    let end = some_of _ _ c.turns-test.ensures c.mark.ensures in
    rw c.fitted-2.ensures (list_end _ _ _ _ _ _ _ _ c.turns.invariant.so_far end.1)
