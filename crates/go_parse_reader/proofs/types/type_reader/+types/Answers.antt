use Rattle.std.proofs.Common.{map, arith, sym, ap, ◌∙◌, Ok}
use Rattle.std.proofs.lemmas.Result.{err_from_is_err_and}
use Rattle.go_tree_nodes.specs.token_core.declared.kind.Operator.TheVariants as operator
use Rattle.go_tree_nodes.proofs.TypeShapes.{shape_struct, shape_interface, shape_listed, shape_signed}
use Rattle.go_parse_reader.specs.types.mirrors.EntryShapes.{entry_of, line_of, method_of}
use Rattle.go_parse_reader.specs.types.mirrors.TypeReading.{type_at, entry_at, line_at, method_at}
use Rattle.go_parse_reader.proofs.TypesCodeSteps.{none_of, some_of}
use Rattle.go_parse_reader.proofs.TypesCodeLists.{list_step, list_step_shorter, list_step_fails, list_end}
use Rattle.go_parse_reader.proofs.TypesCodeTypes.{type_zero, type_more, entry_less, line_less, method_less, pushed, struct_is, interface_is, listed_is, signature_is}
use Rattle.go_parse_reader.proofs.types.type_reader.+types.Goals as goal

pub entries-returns-in_err-entry : goal.entries-returns-in_err-entry
entries-returns-in_err-entry t c =
    let p = err_from_is_err_and c.from_residual.result c.from_residual.ensures.1 in
    rw (p.1, p.2) (list_step_fails _ _ _ _ _ _ _ _ c.turns.invariant (none_of _ _ c.turns-test.ensures c.mark.ensures) c.in_err-entry.ensures)

pub entries-turns-smaller : goal.entries-turns-smaller
entries-turns-smaller t c = list_step_shorter _ (entry_at (type_at c.args.budget)) operator.Comma operator.CloseParen c.turns.rest _ _ (entry_less c.args.budget c.turns.rest) c.in_ok-entry.ensures

pub entries-turns-preserved : goal.entries-turns-preserved
entries-turns-preserved t c =
    list_step _ _ _ _ _ _ _ _ _ _ c.turns.invariant (none_of _ _ c.turns-test.ensures c.mark.ensures) (entry_less _ _) c.in_ok-entry.ensures (pushed entry_of _ _ _ c.in_ok-add.ensures)

pub entries-returns : goal.entries-returns
entries-returns t c =
    let end = some_of _ _ c.turns-test.ensures c.mark.ensures in
    list_end _ _ _ _ _ _ _ _ c.turns.invariant end.1

pub lines-returns-in_err-line : goal.lines-returns-in_err-line
lines-returns-in_err-line t c =
    let p = err_from_is_err_and c.from_residual.result c.from_residual.ensures.1 in
    rw (p.1, p.2) (list_step_fails _ _ _ _ _ _ _ _ c.turns.invariant (none_of _ _ c.turns-test.ensures c.mark.ensures) c.in_err-line.ensures)

pub lines-turns-smaller : goal.lines-turns-smaller
lines-turns-smaller t c = list_step_shorter _ (line_at (type_at c.args.budget)) operator.Semicolon operator.CloseBrace c.turns.rest _ _ (line_less c.args.budget c.turns.rest) c.in_ok-line.ensures

pub lines-turns-preserved : goal.lines-turns-preserved
lines-turns-preserved t c =
    list_step _ _ _ _ _ _ _ _ _ _ c.turns.invariant (none_of _ _ c.turns-test.ensures c.mark.ensures) (line_less _ _) c.in_ok-line.ensures (pushed line_of _ _ _ c.in_ok-add.ensures)

pub lines-returns : goal.lines-returns
lines-returns t c =
    let end = some_of _ _ c.turns-test.ensures c.mark.ensures in
    list_end _ _ _ _ _ _ _ _ c.turns.invariant end.1 ∙ ap (λ l. Ok (map line_of l, c.turns.rest)) (sym c.fitted.ensures)

pub methods-returns-in_err-method : goal.methods-returns-in_err-method
methods-returns-in_err-method t c =
    let p = err_from_is_err_and c.from_residual.result c.from_residual.ensures.1 in
    rw (p.1, p.2) (list_step_fails _ _ _ _ _ _ _ _ c.turns.invariant (none_of _ _ c.turns-test.ensures c.mark.ensures) c.in_err-method.ensures)

pub methods-turns-smaller : goal.methods-turns-smaller
methods-turns-smaller t c = list_step_shorter _ (method_at (type_at c.args.budget)) operator.Semicolon operator.CloseBrace c.turns.rest _ _ (method_less c.args.budget c.turns.rest) c.in_ok-method.ensures

pub methods-turns-preserved : goal.methods-turns-preserved
methods-turns-preserved t c =
    list_step _ _ _ _ _ _ _ _ _ _ c.turns.invariant (none_of _ _ c.turns-test.ensures c.mark.ensures) (method_less _ _) c.in_ok-method.ensures (pushed method_of _ _ _ c.in_ok-add.ensures)

pub methods-returns : goal.methods-returns
methods-returns t c =
    let end = some_of _ _ c.turns-test.ensures c.mark.ensures in
    list_end _ _ _ _ _ _ _ _ c.turns.invariant end.1 ∙ ap (λ l. Ok (map method_of l, c.turns.rest)) (sym c.fitted.ensures)

pub type_expr-returns-then-budget-eq0 : goal.type_expr-returns-then-budget-eq0
type_expr-returns-then-budget-eq0 t c = type_zero _ _ c.if-budget-eq0.true

pub type_expr-returns : goal.type_expr-returns
type_expr-returns t c = rw (type_more c.args.budget c.args.ahead (omega arith)) c.type_above.ensures

pub struct_type-returns : goal.struct_type-returns
struct_type-returns t c =
    struct_is _ _ _ _ c.args.ahead _ _ _ _ c.in_ok-open.ensures.value c.in_ok-lines.ensures c.in_ok-close.ensures.value ∙ ap (λ s. Ok (s, c.in_ok-close.rest)) (sym (shape_struct _ _ c.in_ok-lines.lines _))

pub interface_type-returns : goal.interface_type-returns
interface_type-returns t c =
    interface_is _ _ _ _ c.args.ahead _ _ _ _ c.in_ok-open.ensures.value c.in_ok-methods.ensures c.in_ok-close.ensures.value ∙ ap (λ s. Ok (s, c.in_ok-close.rest)) (sym (shape_interface _ _ c.in_ok-methods.methods _))

pub listed-returns : goal.listed-returns
listed-returns t c =
    listed_is _ _ _ _ _ _ _ c.in_ok-entries.ensures c.in_ok-close.ensures.value ∙ ap (λ r. Ok (r, c.in_ok-close.rest)) (sym (shape_listed _ c.in_ok-entries.entries _))

pub signature-returns : goal.signature-returns
signature-returns t c =
    signature_is _ _ _ c.args.ahead _ _ _ _ _ _ c.in_ok-open.ensures.value c.in_ok-entries.ensures c.in_ok-close.ensures.value c.in_ok-results.ensures
    ∙ ap (λ s. Ok (s, c.in_ok-results.rest)) (sym (shape_signed c.in_ok-open.open c.in_ok-entries.entries c.in_ok-close.close c.in_ok-results.results))

pub type_expr-type_above-requires : goal.type_expr-type_above-requires
type_expr-type_above-requires t c = omega (arith, c.decreases)

pub type_above-boxed_type-requires : goal.type_above-boxed_type-requires
type_above-boxed_type-requires t c = omega (arith, c.decreases)

pub type_above-in_parens-requires : goal.type_above-in_parens-requires
type_above-in_parens-requires t c = omega (arith, c.decreases)

pub type_above-struct_type-requires : goal.type_above-struct_type-requires
type_above-struct_type-requires t c = omega (arith, c.decreases)

pub type_above-interface_type-requires : goal.type_above-interface_type-requires
type_above-interface_type-requires t c = omega (arith, c.decreases)

pub boxed_type-type_expr-requires : goal.boxed_type-type_expr-requires
boxed_type-type_expr-requires t c = omega (arith, c.decreases)

pub in_parens-boxed_type-requires : goal.in_parens-boxed_type-requires
in_parens-boxed_type-requires t c = omega (arith, c.decreases)

pub struct_type-lines-requires : goal.struct_type-lines-requires
struct_type-lines-requires t c = omega (arith, c.decreases)

pub interface_type-methods-requires : goal.interface_type-methods-requires
interface_type-methods-requires t c = omega (arith, c.decreases)

pub entry-entry_of_type-requires : goal.entry-entry_of_type-requires
entry-entry_of_type-requires t c = omega (arith, c.decreases)

pub entry_of_type-type_expr-requires : goal.entry_of_type-type_expr-requires
entry_of_type-type_expr-requires t c = omega (arith, c.decreases)

pub entries-entry-requires : goal.entries-entry-requires
entries-entry-requires t c = omega (arith, c.decreases)

pub params-entries-requires : goal.params-entries-requires
params-entries-requires t c = omega (arith, c.decreases)

pub results-listed-requires : goal.results-listed-requires
results-listed-requires t c = omega (arith, c.decreases)

pub results-boxed_type-requires : goal.results-boxed_type-requires
results-boxed_type-requires t c = omega (arith, c.decreases)

pub listed-params-requires : goal.listed-params-requires
listed-params-requires t c = omega (arith, c.decreases)

pub signature-params-requires : goal.signature-params-requires
signature-params-requires t c = omega (arith, c.decreases)

pub signature-results-requires : goal.signature-results-requires
signature-results-requires t c = omega (arith, c.decreases)

pub embedded-type_expr-requires : goal.embedded-type_expr-requires
embedded-type_expr-requires t c = omega (arith, c.decreases)

pub named-type_expr-requires : goal.named-type_expr-requires
named-type_expr-requires t c = omega (arith, c.decreases)

pub line-embedded-requires : goal.line-embedded-requires
line-embedded-requires t c = omega (arith, c.decreases)

pub line-named-requires : goal.line-named-requires
line-named-requires t c = omega (arith, c.decreases)

pub lines-line-requires : goal.lines-line-requires
lines-line-requires t c = omega (arith, c.decreases)

pub method-signature-requires : goal.method-signature-requires
method-signature-requires t c = omega (arith, c.decreases)

pub methods-method-requires : goal.methods-method-requires
methods-method-requires t c = omega (arith, c.decreases)
