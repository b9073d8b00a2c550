use Rattle.std.proofs.Common.{refl, map, ◌≡◌, ◌+◌, ◌<◌, ◌∙◌, max, true, sym, ap, arith, Ok}
use Rattle.std.proofs.lemmas.Result.{err_from_is_err_and}
use Rattle.go_tree_nodes.specs.token_core.declared.kind.Operator.TheVariants as operator
use Rattle.go_parse_reader.proofs.TypesCodeLists.{list_step, list_step_shorter, list_step_fails, list_end}
use Rattle.go_parse_reader.proofs.TypesCodeSteps.{none_of, some_of}
use Rattle.go_parse_reader.proofs.TypesCodeTypes.{pushed}
use Rattle.go_tree_nodes.specs.TypeShapes.{shape_type}
use Rattle.go_tree_nodes.specs.Shapes.{shape, items_of}
use Rattle.go_tree_nodes.specs.Heights.{type_height, height, items_height}
use Rattle.go_parse_reader.specs.exprs.mirrors.CodeShapes.{item_of, opens_body}
use Rattle.go_parse_reader.specs.exprs.mirrors.ExprReading.{by_unary, item_ahead, expr_at}
use Rattle.go_parse_reader.proofs.ExprsExprSound.{item_shorter}
use Rattle.go_parse_reader.proofs.ExprsOnward.{from_start, from_turn, from_high, from_stop, from_none}
use Rattle.go_parse_reader.proofs.ExprsCodeExprs.{expr_turn_fails, expr_start_fails, paren_is, paren_fails, paren_unclosed, operand_integer, operand_text, operand_name, operand_word, operand_paren, named_plain, named_high, items_found, closed_are, closed_fail, closed_missing, elements_are, elements_unopened, elements_fail}
use Rattle.go_parse_reader.proofs.ExprsCodeItems.{items_more, call_is, item_is, item_fails, item_unended, literal_fails, literal_is, called, literal_built, struct_built, struct_low, struct_unread, struct_fails, struct_is}
use Rattle.go_parse_reader.proofs.exprs.expr_reader.+expressions.Goals as goal

pub ranked_expr-turns-init : goal.ranked_expr-turns-init
ranked_expr-turns-init t c =
    record { some = omega arith; few = omega arith; high = c.in_ok-left.ensures.height.0; low = omega (arith, c.in_ok-left.ensures.height.1); same = from_start _ _ _ _ _ (omega arith) c.in_ok-left.ensures.tree }

pub ranked_expr-returns-then-high-budget-clause-tree : goal.ranked_expr-returns-then-high-budget-clause-tree
ranked_expr-returns-then-high-budget-clause-tree t c =
    from_high _ _ _ _ _ _ _ c.turns.invariant.same (sym c.in-Some.ensures) (omega arith) (omega arith)

pub ranked_expr-returns-in_err-new-clause-tree : goal.ranked_expr-returns-in_err-new-clause-tree
ranked_expr-returns-in_err-new-clause-tree t c =
    let p = err_from_is_err_and c.from_residual-in_err-new.result c.from_residual-in_err-new.ensures.1 in
    rw (p.1, p.2) (expr_turn_fails _ _ _ _ _ _ _ _ c.turns.invariant.same c.in-Some.ensures (omega arith) c.in_err-new.ensures.tree)

pub ranked_expr-turns-preserved : goal.ranked_expr-turns-preserved
ranked_expr-turns-preserved t c =
    record { some = omega arith; few = omega arith; high = c.in_ok-new.ensures.height.0; low = omega (arith, c.in_ok-new.ensures.height.1); same = from_turn _ _ _ _ _ _ _ _ c.turns.invariant.same (sym c.in-Some.ensures) (omega arith) c.in_ok-new.ensures.tree }

pub ranked_expr-returns-clause-tree : goal.ranked_expr-returns-clause-tree
ranked_expr-returns-clause-tree t c = from_stop _ _ _ _ _ _ c.turns.invariant.same (sym c.in_default.ensures)

pub ranked_expr-returns-then-budget-eq0-clause-tree : goal.ranked_expr-returns-then-budget-eq0-clause-tree
ranked_expr-returns-then-budget-eq0-clause-tree t c = from_none _ _ _ _ c.if-budget-eq0.true

pub ranked_expr-returns-in_err-left-clause-tree : goal.ranked_expr-returns-in_err-left-clause-tree
ranked_expr-returns-in_err-left-clause-tree t c =
    let p = err_from_is_err_and c.from_residual.result c.from_residual.ensures.1 in
    rw (p.1, p.2) (expr_start_fails _ _ _ _ _ (omega arith) c.in_err-left.ensures.tree)

pub item-returns-in_err-value-clause-tree : goal.item-returns-in_err-value-clause-tree
item-returns-in_err-value-clause-tree t c =
    let p = err_from_is_err_and c.from_residual-in_err-value.result c.from_residual-in_err-value.ensures.1 in
    rw (p.1, p.2) (item_fails (expr_at c.args.inner) c.args.keyed c.args.close c.args.ahead _ _ c.in_ok-key.ensures c.in_err-value.ensures.tree)

pub item-returns-in-Ok-clause-tree : goal.item-returns-in-Ok-clause-tree
item-returns-in-Ok-clause-tree t c =
    item_is (expr_at c.args.inner) c.args.keyed c.args.close c.args.ahead _ _ _ c.in_ok-key.ensures c.in_ok-value.ensures.tree c.in-Ok.ensures.value

pub item-returns-in-Err-clause-tree : goal.item-returns-in-Err-clause-tree
item-returns-in-Err-clause-tree t c =
    item_unended (expr_at c.args.inner) c.args.keyed c.args.close c.args.ahead _ _ _ c.in_ok-key.ensures c.in_ok-value.ensures.tree c.in-Err.ensures.value

pub items-returns-in_err-item-clause-tree : goal.items-returns-in_err-item-clause-tree
items-returns-in_err-item-clause-tree t c =
    let p = err_from_is_err_and c.from_residual.result c.from_residual.ensures.1 in
    rw (p.1, p.2) (list_step_fails _ _ _ _ _ _ _ _ c.turns.invariant.so_far (none_of _ _ c.turns-test.ensures c.mark.ensures) c.in_err-item.ensures.tree)

pub items-turns-smaller : goal.items-turns-smaller
items-turns-smaller t c =
    list_step_shorter _ (item_ahead (expr_at c.args.inner) c.args.keyed) operator.Comma c.args.close c.turns.rest _ _ (λ after x. item_shorter c.args.inner c.args.keyed c.turns.rest (x, after)) c.in_ok-item.ensures.tree

pub items-turns-preserved : goal.items-turns-preserved
items-turns-preserved t c =
    record { few = omega arith; low = omega (arith, c.turns.invariant.low, c.in_ok-item.ensures.height.1); high = omega (arith, c.turns.invariant.high, c.in_ok-item.ensures.height.0, items_more _ _ _ c.in_ok-add.ensures); so_far = list_step _ _ _ _ _ _ _ _ _ _ c.turns.invariant.so_far (none_of _ _ c.turns-test.ensures c.mark.ensures) (λ after x. item_shorter c.args.inner c.args.keyed c.turns.rest (x, after)) c.in_ok-item.ensures.tree (pushed item_of _ _ _ c.in_ok-add.ensures) }

pub items-returns-clause-tree : goal.items-returns-clause-tree
items-returns-clause-tree t c =
    let end = some_of _ _ c.turns-test.ensures c.mark.ensures in
    list_end _ _ _ _ _ _ _ _ c.turns.invariant.so_far end.1 ∙ ap (λ l. Ok (map item_of l, c.turns.rest)) (sym c.fitted.ensures)

pub named-returns-in_err-open-clause-tree : goal.named-returns-in_err-open-clause-tree
named-returns-in_err-open-clause-tree t c =
    let opens : opens_body c.args.header c.args.ahead ≡ true = sym c.if-not-opens_body.ensures in
    let p = err_from_is_err_and c.from_residual-in_err-open.result c.from_residual-in_err-open.ensures.1 in
    let some : 0 < c.args.inner = omega arith in
    rw (p.1, p.2) (literal_fails (expr_at c.args.inner) c.args.inner c.args.header c.args.first c.args.ahead _ _ opens some c.in_ok-type_name.ensures c.in_err-open.ensures.tree)

pub struct_literal-returns-in-Err-clause-tree : goal.struct_literal-returns-in-Err-clause-tree
struct_literal-returns-in-Err-clause-tree t c =
    struct_fails (expr_at c.args.inner) c.args.inner c.args.keyword c.args.ahead _ _ (omega arith) c.in_ok-type_expr.ensures c.in-Err.ensures.tree

pub struct_literal-type_height-requires : goal.struct_literal-type_height-requires
struct_literal-type_height-requires t c =
    let low = struct_low c.args.inner c.args.keyword c.args.ahead _ (omega arith) c.in_ok-type_expr.ensures in
    omega (arith, low)

pub struct_literal-overflow_add-high : goal.struct_literal-overflow_add-high
struct_literal-overflow_add-high t c =
    let low = struct_low c.args.inner c.args.keyword c.args.ahead _ (omega arith) c.in_ok-type_expr.ensures in
    omega (arith, low, c.in-Ok.ensures.height.1)

pub boxed_expr-returns-in_err-expr-clause-tree : goal.boxed_expr-returns-in_err-expr-clause-tree
boxed_expr-returns-in_err-expr-clause-tree t c =
    let p = err_from_is_err_and c.from_residual.result c.from_residual.ensures.1 in
    rw (p.1, p.2) c.in_err-expr.ensures.tree

pub in_parens-returns-in_err-inside-clause-tree : goal.in_parens-returns-in_err-inside-clause-tree
in_parens-returns-in_err-inside-clause-tree t c =
    let p = err_from_is_err_and c.from_residual.result c.from_residual.ensures.1 in
    rw (p.1, p.2) (paren_fails (expr_at c.args.inner) c.args.opening c.args.ahead _ c.in_err-inside.ensures.tree)

pub in_parens-returns-in_err-close-clause-tree : goal.in_parens-returns-in_err-close-clause-tree
in_parens-returns-in_err-close-clause-tree t c =
    let p = err_from_is_err_and c.from_residual-in_err-close.result c.from_residual-in_err-close.ensures.1 in
    rw (p.1, p.2) (paren_unclosed (expr_at c.args.inner) c.args.opening c.args.ahead _ _ c.in_ok-inside.ensures.tree c.in_err-close.ensures.value)

pub in_parens-returns-clause-tree : goal.in_parens-returns-clause-tree
in_parens-returns-clause-tree t c =
    paren_is (expr_at c.args.inner) c.args.opening c.args.ahead _ _ c.in_ok-inside.ensures.tree c.in_ok-close.ensures.value

pub unary-returns-in_default-clause-tree : goal.unary-returns-in_default-clause-tree
unary-returns-in_default-clause-tree t c = ap (by_unary (expr_at c.args.inner) c.args.header) (sym c.in_default.ensures)

pub operand-returns-in-Some-clause-tree : goal.operand-returns-in-Some-clause-tree
operand-returns-in-Some-clause-tree t c = operand_integer (expr_at c.args.inner) c.args.inner c.args.header c.args.ahead _ c.in-Some.ensures

pub operand-returns-in-Some-2-clause-tree : goal.operand-returns-in-Some-2-clause-tree
operand-returns-in-Some-2-clause-tree t c = operand_text (expr_at c.args.inner) c.args.inner c.args.header c.args.ahead _ (sym c.in-Some-2.is ∙ c.in_ok-text.ensures)

pub operand-returns-in-Some-3-clause-tree : goal.operand-returns-in-Some-3-clause-tree
operand-returns-in-Some-3-clause-tree t c = rw (operand_name (expr_at c.args.inner) c.args.inner c.args.header c.args.ahead _ (sym c.in-Some-3.is ∙ c.in_ok-first.ensures)) c.named.ensures.tree

pub operand-returns-in-Some-word-clause-tree : goal.operand-returns-in-Some-word-clause-tree
operand-returns-in-Some-word-clause-tree t c = rw (operand_word (expr_at c.args.inner) c.args.inner c.args.header c.args.ahead _ c.in-Some-word.ensures) c.struct_literal.ensures.tree

pub operand-returns-in-Some-mark-clause-tree : goal.operand-returns-in-Some-mark-clause-tree
operand-returns-in-Some-mark-clause-tree t c = rw (operand_paren (expr_at c.args.inner) c.args.inner c.args.header c.args.ahead _ c.in-Some-mark.ensures) c.in_parens.ensures.tree

pub struct_literal-returns-in_err-type_expr-clause-tree : goal.struct_literal-returns-in_err-type_expr-clause-tree
struct_literal-returns-in_err-type_expr-clause-tree t c =
    let p = err_from_is_err_and c.from_residual.result c.from_residual.ensures.1 in
    rw (p.1, p.2) (struct_unread (expr_at c.args.inner) c.args.inner c.args.keyword c.args.ahead _ (omega arith) c.in_err-type_expr.ensures)

pub named-returns-then-not-opens_body-clause-tree : goal.named-returns-then-not-opens_body-clause-tree
named-returns-then-not-opens_body-clause-tree t c = named_plain (expr_at c.args.inner) c.args.inner c.args.header c.args.first c.args.ahead (sym c.if-not-opens_body.ensures)

pub named-returns-then-inner-eq0-clause-tree : goal.named-returns-then-inner-eq0-clause-tree
named-returns-then-inner-eq0-clause-tree t c = named_high (expr_at c.args.inner) c.args.inner c.args.header c.args.first c.args.ahead (sym c.if-not-opens_body.ensures) c.if-inner-eq0.true

pub items-returns-clause-height : goal.items-returns-clause-height
items-returns-clause-height t c =
    (c.turns.invariant.high ∙ ap (λ l. items_height (items_of l)) (sym c.fitted.ensures), c.turns.invariant.low)

pub item-returns-in-Ok-clause-height : goal.item-returns-in-Ok-clause-height
item-returns-in-Ok-clause-height t c = c.in_ok-value.ensures.height

pub ranked_expr-returns-clause-height : goal.ranked_expr-returns-clause-height
ranked_expr-returns-clause-height t c = (c.turns.invariant.high, c.turns.invariant.low)

pub in_parens-returns-clause-height : goal.in_parens-returns-clause-height
in_parens-returns-clause-height t c =
    (ap (λ n. n + 1) c.in_ok-inside.ensures.height.0, omega (arith, c.in_ok-inside.ensures.height.1))

pub unary-returns-clause-height : goal.unary-returns-clause-height
unary-returns-clause-height t c =
    (ap (λ n. n + 1) c.in_ok-operand.ensures.height.0, omega (arith, c.in_ok-operand.ensures.height.1))

pub operand-returns-in-Some-clause-height : goal.operand-returns-in-Some-clause-height
operand-returns-in-Some-clause-height t c = (refl, omega arith)

pub operand-returns-in-Some-2-clause-height : goal.operand-returns-in-Some-2-clause-height
operand-returns-in-Some-2-clause-height t c = (refl, omega arith)

pub operand-returns-in-Some-3-clause-height : goal.operand-returns-in-Some-3-clause-height
operand-returns-in-Some-3-clause-height t c = c.named.ensures.height

pub operand-returns-in-Some-word-clause-height : goal.operand-returns-in-Some-word-clause-height
operand-returns-in-Some-word-clause-height t c = c.struct_literal.ensures.height

pub operand-returns-in-Some-mark-clause-height : goal.operand-returns-in-Some-mark-clause-height
operand-returns-in-Some-mark-clause-height t c = c.in_parens.ensures.height

pub operand-returns-clause-height : goal.operand-returns-clause-height
operand-returns-clause-height t c = c.unary.ensures.height

pub named-returns-then-not-opens_body-clause-height : goal.named-returns-then-not-opens_body-clause-height
named-returns-then-not-opens_body-clause-height t c = (refl, omega arith)

pub boxed_expr-returns-clause-height : goal.boxed_expr-returns-clause-height
boxed_expr-returns-clause-height t c =
    (c.in_ok-expr.ensures.height.0 ∙ ap (λ e. height (shape e)) (sym c.in_ok-boxed.ensures), c.in_ok-expr.ensures.height.1)

pub boxed_expr-ranked_expr-requires : goal.boxed_expr-ranked_expr-requires
boxed_expr-ranked_expr-requires t c = (omega (arith, c.decreases), (omega arith, omega arith))

pub ranked_expr-operand-requires : goal.ranked_expr-operand-requires
ranked_expr-operand-requires t c = (omega (arith, c.decreases), omega arith)

pub in_parens-boxed_expr-requires : goal.in_parens-boxed_expr-requires
in_parens-boxed_expr-requires t c = (omega (arith, c.decreases), (omega arith, omega arith))

pub item-ranked_expr-requires : goal.item-ranked_expr-requires
item-ranked_expr-requires t c = (omega (arith, c.decreases), (omega arith, omega arith))

pub items-item-requires : goal.items-item-requires
items-item-requires t c = (omega (arith, c.decreases), omega arith)

pub named-elements-requires : goal.named-elements-requires
named-elements-requires t c = (omega (arith, c.decreases), omega arith)

pub operand-in_parens-requires : goal.operand-in_parens-requires
operand-in_parens-requires t c = (omega (arith, c.decreases), omega arith)

pub operand-named-requires : goal.operand-named-requires
operand-named-requires t c = (omega (arith, c.decreases), omega arith)

pub operand-struct_literal-requires : goal.operand-struct_literal-requires
operand-struct_literal-requires t c = (omega (arith, c.decreases), omega arith)

pub operand-unary-requires : goal.operand-unary-requires
operand-unary-requires t c = (omega (arith, c.decreases), omega arith)

pub struct_literal-elements-requires : goal.struct_literal-elements-requires
struct_literal-elements-requires t c = (omega (arith, c.decreases), omega arith)

pub unary-boxed_expr-requires : goal.unary-boxed_expr-requires
unary-boxed_expr-requires t c = (omega (arith, c.decreases), (omega arith, omega arith))

pub closed_items-returns-in_err-all-clause-tree : goal.closed_items-returns-in_err-all-clause-tree
closed_items-returns-in_err-all-clause-tree t c =
    let p = err_from_is_err_and c.from_residual.result c.from_residual.ensures.1 in
    rw (p.1, p.2) (closed_fail (expr_at c.args.inner) c.args.keyed c.args.close c.args.ahead _ c.in_err-all.ensures.tree)

pub closed_items-returns-in_err-close-clause-tree : goal.closed_items-returns-in_err-close-clause-tree
closed_items-returns-in_err-close-clause-tree t c =
    let p = err_from_is_err_and c.from_residual-in_err-close.result c.from_residual-in_err-close.ensures.1 in
    let found = items_found (expr_at c.args.inner) c.args.keyed c.args.close _ _ _ c.in_ok-all.ensures.tree in
    rw (p.1, p.2) (closed_missing (expr_at c.args.inner) c.args.keyed c.args.close c.args.ahead _ _ _ found c.in_err-close.ensures.value)

pub closed_items-returns-clause-tree : goal.closed_items-returns-clause-tree
closed_items-returns-clause-tree t c =
    let found = items_found (expr_at c.args.inner) c.args.keyed c.args.close _ _ _ c.in_ok-all.ensures.tree in
    closed_are (expr_at c.args.inner) c.args.keyed c.args.close c.args.ahead _ _ _ found c.in_ok-close.ensures.value

pub closed_items-returns-clause-height : goal.closed_items-returns-clause-height
closed_items-returns-clause-height t c = c.in_ok-all.ensures.height

pub elements-returns-in_err-open-clause-tree : goal.elements-returns-in_err-open-clause-tree
elements-returns-in_err-open-clause-tree t c =
    let p = err_from_is_err_and c.from_residual.result c.from_residual.ensures.1 in
    rw (p.1, p.2) (elements_unopened (expr_at c.args.inner) c.args.ahead _ c.in_err-open.ensures.value)

pub elements-returns-in_err-items-clause-tree : goal.elements-returns-in_err-items-clause-tree
elements-returns-in_err-items-clause-tree t c =
    let p = err_from_is_err_and c.from_residual-in_err-items.result c.from_residual-in_err-items.ensures.1 in
    rw (p.1, p.2) (elements_fail (expr_at c.args.inner) c.args.ahead _ _ c.in_ok-open.ensures.value c.in_err-items.ensures.tree)

pub elements-returns-clause-tree : goal.elements-returns-clause-tree
elements-returns-clause-tree t c = elements_are (expr_at c.args.inner) c.args.ahead _ _ c.in_ok-open.ensures.value c.in_ok-items.ensures.tree

pub elements-returns-clause-height : goal.elements-returns-clause-height
elements-returns-clause-height t c = c.in_ok-items.ensures.height

pub call-returns-in_ok-whole-in-Ok-clause-tree : goal.call-returns-in_ok-whole-in-Ok-clause-tree
call-returns-in_ok-whole-in-Ok-clause-tree t c =
    call_is (expr_at c.args.inner) (shape c.args.callee) c.args.«open» c.args.ahead _ c.in-Ok.ensures.tree
    ∙ ap (λ e. Ok (e, c.in-Ok.rest)) (called _ _ _ c.in-Ok.items.all _ c.in_ok-whole-in-Ok.ensures)

pub call-returns-in_ok-whole-in-Ok-clause-height : goal.call-returns-in_ok-whole-in-Ok-clause-height
call-returns-in_ok-whole-in-Ok-clause-height t c =
    let high : c.max-high.result + 1 ≡ max (height (shape c.args.callee)) (items_height (items_of c.in-Ok.items.all.items)) + 1 = omega (arith, c.in-Ok.ensures.height.0) in
    (high ∙ ap height (called _ _ _ c.in-Ok.items.all _ c.in_ok-whole-in-Ok.ensures), omega (arith, c.in-Ok.ensures.height.1), omega arith)

pub named-returns-clause-tree : goal.named-returns-clause-tree
named-returns-clause-tree t c =
    let opens : opens_body c.args.header c.args.ahead ≡ true = sym c.if-not-opens_body.ensures in
    let some : 0 < c.args.inner = omega arith in
    literal_is (expr_at c.args.inner) c.args.inner c.args.header c.args.first c.args.ahead _ _ opens some c.in_ok-type_name.ensures c.in_ok-open.ensures.tree
    ∙ ap (λ e. Ok (e, c.in_ok-open.rest)) (literal_built _ _ _ c.in_ok-open.body.all _ c.in_ok-literal.ensures)

pub named-returns-clause-height : goal.named-returns-clause-height
named-returns-clause-height t c =
    let high : c.max-high.result + 1 ≡ max 1 (items_height (items_of c.in_ok-open.body.all.items)) + 1 = omega (arith, c.in_ok-open.ensures.height.0) in
    (high ∙ ap height (literal_built _ c.in_ok-type_name.type_name _ c.in_ok-open.body.all _ c.in_ok-literal.ensures), omega (arith, c.in_ok-open.ensures.height.1))

pub struct_literal-returns-in_ok-literal-in-Ok-clause-tree : goal.struct_literal-returns-in_ok-literal-in-Ok-clause-tree
struct_literal-returns-in_ok-literal-in-Ok-clause-tree t c =
    struct_is (expr_at c.args.inner) c.args.inner c.args.keyword c.args.ahead _ _ (omega arith) c.in_ok-type_expr.ensures c.in-Ok.ensures.tree
    ∙ ap (λ e. Ok (e, c.in-Ok.rest)) (struct_built _ c.in_ok-type_expr.type_expr _ c.in-Ok.body.all _ c.in_ok-literal-in-Ok.ensures)

pub struct_literal-returns-in_ok-literal-in-Ok-clause-height : goal.struct_literal-returns-in_ok-literal-in-Ok-clause-height
struct_literal-returns-in_ok-literal-in-Ok-clause-height t c =
    let low = struct_low c.args.inner c.args.keyword c.args.ahead _ (omega arith) c.in_ok-type_expr.ensures in
    let high : c.max-high.result + 1 ≡ max (type_height (shape_type c.in_ok-type_expr.type_expr)) (items_height (items_of c.in-Ok.body.all.items)) + 1 = omega (arith, c.in-Ok.ensures.height.0) in
    (high ∙ ap height (struct_built _ c.in_ok-type_expr.type_expr _ c.in-Ok.body.all _ c.in_ok-literal-in-Ok.ensures), omega (arith, low, c.in-Ok.ensures.height.1))
