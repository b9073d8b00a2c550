use Rattle.std.proofs.Common.{arith, sym, ap, ◌∙◌, Ok}
use Rattle.std.proofs.lemmas.Result.{err_from_is_err_and}
use Rattle.go_tree_nodes.proofs.ShapeLemmas.{shape_block, shape_looped, shape_else_block, shape_branched}
use Rattle.go_tree_nodes.specs.Shapes.{shape_if, shape_for, shape_else}
use Rattle.go_parse_reader.proofs.TypesCodeSteps.{none_of, some_of}
use Rattle.go_parse_core.proofs.StmtsCodeStmts.{declared_is, returned_is, broken_is, continued_is, if_is, loop_is, plain_is, lines_none, lines_too_high, lines_fails, line_more, line_shorter, line_last, line_missing, lines_end, block_zero, block_fails, block_open, block_closed, block_is, block_stops, for_is, else_is, else_if_too_high, else_if_fails, else_if_is, branch_is, branch_fails}
use Rattle.go_parse_core.proofs.stmts.stmts.+statements.Goals as goal

pub lines-turns-init : goal.lines-turns-init
lines-turns-init t c = record { so_far = rw c.new-all.ensures.items (lines_none _ _); few = omega arith }

pub lines-returns-then-budget-eq0 : goal.lines-returns-then-budget-eq0
lines-returns-then-budget-eq0 t c = lines_too_high _ _ _ _ c.turns.invariant.so_far (none_of _ _ c.turns-test.ensures c.mark.ensures) c.if-budget-eq0.true

pub lines-returns-in_err-stmt : goal.lines-returns-in_err-stmt
lines-returns-in_err-stmt t c =
    let p = err_from_is_err_and c.from_residual.result c.from_residual.ensures.1 in
    rw (p.1, p.2) (lines_fails _ _ _ _ _ c.turns.invariant.so_far (omega arith) (none_of _ _ c.turns-test.ensures c.mark.ensures) c.in_err-stmt.ensures)

pub lines-returns-in_err-need_mark : goal.lines-returns-in_err-need_mark
lines-returns-in_err-need_mark t c =
    let p = err_from_is_err_and c.from_residual-in_err-need_mark.result c.from_residual-in_err-need_mark.ensures.1 in
    rw (p.1, p.2) (line_missing _ _ _ _ _ _ _ _ _ c.turns.invariant.so_far (omega arith) (none_of _ _ c.turns-test.ensures c.mark.ensures) c.in_ok-stmt.ensures c.some_mark-semicolon.ensures c.if-is_none.ensures c.in_err-need_mark.ensures.value)

pub lines-returns-then-is_none : goal.lines-returns-then-is_none
lines-returns-then-is_none t c =
    rw c.fitted.ensures (line_last _ _ _ _ _ _ _ _ _ c.turns.invariant.so_far (omega arith) (none_of _ _ c.turns-test.ensures c.mark.ensures) c.in_ok-stmt.ensures c.some_mark-semicolon.ensures c.if-is_none.ensures c.in_ok-need_mark.ensures.value c.in_ok-add.ensures)

pub lines-turns-smaller : goal.lines-turns-smaller
lines-turns-smaller t c = line_shorter _ _ _ _ _ _ (omega arith) c.in_ok-stmt.ensures c.some_mark-semicolon.ensures c.if-is_none.ensures

pub lines-turns-preserved : goal.lines-turns-preserved
lines-turns-preserved t c =
    record { so_far = line_more _ _ _ _ _ _ _ _ c.turns.invariant.so_far (omega arith) (none_of _ _ c.turns-test.ensures c.mark.ensures) c.in_ok-stmt.ensures c.some_mark-semicolon.ensures c.if-is_none.ensures c.in_ok-add.ensures; few = omega arith }

pub lines-returns : goal.lines-returns
lines-returns t c =
    let end = some_of _ _ c.turns-test.ensures c.mark.ensures in
    rw c.fitted-2.ensures (lines_end _ _ _ _ _ c.turns.invariant.so_far end.1)

pub block-returns-then-budget-eq0 : goal.block-returns-then-budget-eq0
block-returns-then-budget-eq0 t c = block_zero c.args.budget c.args.ahead _ c.«in_ok-open».ensures.value c.if-budget-eq0.true

pub block-returns-in_err-all : goal.block-returns-in_err-all
block-returns-in_err-all t c =
    let p = err_from_is_err_and c.from_residual-in_err-all.result c.from_residual-in_err-all.ensures.1 in
    rw (p.1, p.2) (block_fails c.args.budget c.args.ahead _ _ _ c.«in_ok-open».ensures.value (omega arith) c.in_err-all.ensures)

pub block-returns-in_err-close : goal.block-returns-in_err-close
block-returns-in_err-close t c =
    let p = err_from_is_err_and c.from_residual-in_err-close.result c.from_residual-in_err-close.ensures.1 in
    rw (p.1, p.2) (block_open c.args.budget c.args.ahead _ _ _ _ _ c.«in_ok-open».ensures.value (omega arith) c.in_ok-all.ensures c.in_err-close.ensures.value)

pub block-returns : goal.block-returns
block-returns t c = block_closed c.args.budget c.args.ahead _ _ _ _ _ _ c.«in_ok-open».ensures.value (omega arith) c.in_ok-all.ensures c.in_ok-close.ensures.value

pub without_keyword-returns-in_err-open : goal.without_keyword-returns-in_err-open
without_keyword-returns-in_err-open t c =
    let p = err_from_is_err_and c.from_residual.result c.from_residual.ensures.1 in
    let brace = some_of _ _ (sym c.if-is_some.ensures) c.mark.ensures in
    rw (p.1, p.2) (block_stops c.args.inner c.args.ahead _ _ brace.1 c.«in_err-open».ensures)

pub without_keyword-returns-then-is_some : goal.without_keyword-returns-then-is_some
without_keyword-returns-then-is_some t c =
    let brace = some_of _ _ (sym c.if-is_some.ensures) c.mark.ensures in
    block_is c.args.inner c.args.ahead c.«in_ok-open».rest _ _ _ _ brace.1 c.«in_ok-open».ensures
    ∙ ap (λ s. Ok (s, c.«in_ok-open».rest)) (sym (shape_block _ c.«in_ok-open».lines _))

pub otherwise-returns-then-is_some : goal.otherwise-returns-then-is_some
otherwise-returns-then-is_some t c =
    let brace = some_of _ _ (sym c.if-is_some.ensures) c.mark.ensures in
    else_is c.args.inner c.in-Some.keyword c.args.ahead c.in-Some.rest c.«in_ok-open».rest _ _ _ _ c.in-Some.ensures brace.1 c.«in_ok-open».ensures
    ∙ ap (λ s. Ok (s, c.«in_ok-open».rest)) (sym (shape_else_block _ _ c.«in_ok-open».lines _))

pub otherwise-returns-then-inner-eq0 : goal.otherwise-returns-then-inner-eq0
otherwise-returns-then-inner-eq0 t c =
    else_if_too_high c.args.inner _ _ c.args.ahead _ _ c.in-Some.ensures (none_of _ _ (sym c.if-is_some.ensures) c.mark.ensures) c.in_ok-if_keyword.ensures.value c.if-inner-eq0.true

pub otherwise-returns-in_err-branch : goal.otherwise-returns-in_err-branch
otherwise-returns-in_err-branch t c =
    let p = err_from_is_err_and c.from_residual-in_err-branch.result c.from_residual-in_err-branch.ensures.1 in
    rw (p.1, p.2) (else_if_fails c.args.inner _ _ c.args.ahead _ _ _ c.in-Some.ensures (none_of _ _ (sym c.if-is_some.ensures) c.mark.ensures) c.in_ok-if_keyword.ensures.value (omega arith) c.in_err-branch.ensures)

pub otherwise-returns : goal.otherwise-returns
otherwise-returns t c =
    else_if_is c.args.inner _ _ c.args.ahead _ _ _ _ c.in-Some.ensures (none_of _ _ (sym c.if-is_some.ensures) c.mark.ensures) c.in_ok-if_keyword.ensures.value (omega arith) c.in_ok-branch.ensures

pub branch-returns-in_ok-boxed-in-Ok : goal.branch-returns-in_ok-boxed-in-Ok
branch-returns-in_ok-boxed-in-Ok t c =
    rw c.in_ok-boxed-in-Ok.ensures (branch_is c.args.inner c.args.keyword c.args.ahead c.in_ok-head.rest c.in-Ok.rest (shape_if c.in_ok-head.head) _ _ _ (shape_else c.in-Ok.otherwise) c.in_ok-head.ensures c.in-Ok.ensures
    ∙ ap (λ s. Ok (s, c.in-Ok.rest)) (sym (shape_branched _ c.in_ok-head.head _ c.in-Ok.«then» _ c.in-Ok.otherwise)))

pub branch-returns-in-Err : goal.branch-returns-in-Err
branch-returns-in-Err t c =
    branch_fails c.args.inner c.args.keyword c.args.ahead c.in_ok-head.rest (shape_if c.in_ok-head.head) _ c.in_ok-head.ensures c.in-Err.ensures

pub for_stmt-returns-in_ok-boxed-in-Ok : goal.for_stmt-returns-in_ok-boxed-in-Ok
for_stmt-returns-in_ok-boxed-in-Ok t c =
    rw c.in_ok-boxed-in-Ok.ensures (for_is c.args.inner c.args.keyword c.args.ahead c.in_ok-head.rest c.in-Ok.rest (shape_for c.in_ok-head.head) _ _ _ c.in_ok-head.ensures c.in-Ok.ensures
    ∙ ap (λ s. Ok (s, c.in-Ok.rest)) (sym (shape_looped _ c.in_ok-head.head _ c.in-Ok.body _)))

pub statement-returns-in-Some : goal.statement-returns-in-Some
statement-returns-in-Some t c = rw (declared_is c.args.inner c.args.ahead _ c.in-Some.ensures) c.declaration.ensures

pub statement-returns-in-Some-word : goal.statement-returns-in-Some-word
statement-returns-in-Some-word t c = rw (returned_is c.args.inner c.args.ahead _ c.in_default.ensures c.in-Some-word.ensures) c.return_stmt.ensures

pub statement-returns-in-Some-word-2 : goal.statement-returns-in-Some-word-2
statement-returns-in-Some-word-2 t c = broken_is c.args.inner c.args.ahead _ c.in_default.ensures c.in_default-word.ensures c.in-Some-word-2.ensures

pub statement-returns-in-Some-word-3 : goal.statement-returns-in-Some-word-3
statement-returns-in-Some-word-3 t c = continued_is c.args.inner c.args.ahead _ c.in_default.ensures c.in_default-word.ensures c.in_default-word-2.ensures c.in-Some-word-3.ensures

pub statement-returns-in-Some-word-4 : goal.statement-returns-in-Some-word-4
statement-returns-in-Some-word-4 t c = if_is c.args.inner c.args.ahead _ _ _ c.in_default.ensures c.in_default-word.ensures c.in_default-word-2.ensures c.in_default-word-3.ensures c.in-Some-word-4.ensures c.in_ok-branch.ensures

pub statement-returns-in-Some-word-5 : goal.statement-returns-in-Some-word-5
statement-returns-in-Some-word-5 t c = rw (loop_is c.args.inner c.args.ahead _ c.in_default.ensures c.in_default-word.ensures c.in_default-word-2.ensures c.in_default-word-3.ensures c.in_default-word-4.ensures c.in-Some-word-5.ensures) c.for_stmt.ensures

pub statement-returns : goal.statement-returns
statement-returns t c = rw (plain_is c.args.inner c.args.ahead c.in_default.ensures c.in_default-word.ensures c.in_default-word-2.ensures c.in_default-word-3.ensures c.in_default-word-4.ensures c.in_default-word-5.ensures) c.without_keyword.ensures
