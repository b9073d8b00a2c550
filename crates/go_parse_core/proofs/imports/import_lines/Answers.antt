use Rattle.std.proofs.lemmas.Result.{err_from_is_err_and}
use Rattle.go_tree_nodes.specs.token_core.declared.kind.Operator.TheVariants as operator
use Rattle.go_tree_nodes.specs.Shapes.{shape_import_line}
use Rattle.go_parse_reader.proofs.TypesCodeLists.{list_more, list_turn_shorter, list_fails, list_end, list_missing, list_last}
use Rattle.go_parse_reader.proofs.TypesCodeSteps.{none_of, some_of}
use Rattle.go_parse_reader.proofs.TypesCodeTypes.{pushed}
use Rattle.go_parse_core.proofs.CodeImports.{import_spec_shorter}
use Rattle.go_parse_core.proofs.imports.import_lines.Goals as goal

pub returns-in_err-spec : goal.returns-in_err-spec
returns-in_err-spec c =
    let p = err_from_is_err_and c.from_residual.result c.from_residual.ensures.1 in
    rw (p.1, p.2) (list_fails _ _ _ _ _ _ _ _ c.turns.invariant (none_of _ _ c.turns-test.ensures c.mark.ensures) c.in_err-spec.ensures)

pub returns-then-is_none : goal.returns-then-is_none
returns-then-is_none c =
    list_missing _ _ _ _ _ _ _ _ _ c.turns.invariant (none_of _ _ c.turns-test.ensures c.mark.ensures) c.in_ok-spec.ensures c.in_default.ensures (none_of _ _ c.if-is_none.ensures c.mark-in_default.ensures)

pub returns-in_default : goal.returns-in_default
returns-in_default c =
    let end = some_of _ _ c.if-is_none.ensures c.mark-in_default.ensures in
    rw c.fitted.ensures (list_last _ _ _ _ _ _ _ _ _ _ _ c.turns.invariant (none_of _ _ c.turns-test.ensures c.mark.ensures) c.in_ok-spec.ensures c.in_default.ensures end.1 (pushed shape_import_line _ _ _ c.in_ok-add.ensures))

pub turns-smaller : goal.turns-smaller
turns-smaller c = list_turn_shorter operator.Semicolon _ _ _ (import_spec_shorter _ _ c.in_ok-spec.ensures) c.in-Some.ensures

pub turns-preserved : goal.turns-preserved
turns-preserved c =
    list_more _ _ _ _ _ _ _ _ _ _ _ c.turns.invariant (none_of _ _ c.turns-test.ensures c.mark.ensures) c.in_ok-spec.ensures (import_spec_shorter _ _ c.in_ok-spec.ensures) c.in-Some.ensures (pushed shape_import_line _ _ _ c.in_ok-add-2.ensures)

pub returns : goal.returns
returns c =
    let end = some_of _ _ c.turns-test.ensures c.mark.ensures in
    rw c.fitted-2.ensures (list_end _ _ _ _ _ _ _ _ c.turns.invariant end.1)
