-- Parts of statements, before it is known what they belong to.
use Rattle.std.specs.Prelude.{ℕ, suc, true, List, length, Option, Some, None, Ok, Err, if◌then◌else◌}
use Rattle.go_tree_nodes.specs.text_core.declared.span.Span.{Span}
use Rattle.go_tree_nodes.specs.token_core.declared.kind.Keyword.TheVariants as keyword
use Rattle.go_tree_nodes.specs.token_core.declared.kind.Operator.TheVariants as operator
use Rattle.go_tree_nodes.specs.declared.decls.ValueKind.{ValueKind}
use Rattle.go_tree_nodes.specs.Terminals.{Terminal}
use Rattle.go_tree_nodes.specs.Trees.{Separated, ExprTree, SimpleTree, IfTree, StmtTree, Declare, BranchTree, ElseTree, Lines}
use Rattle.go_parse_reader.specs.types.mirrors.Marks.{Grammar, ◌>>=◌, Reading, MarkAhead, need, mark_at, keyword_at}
use Rattle.go_parse_reader.specs.exprs.mirrors.ExprReading.{expr_at}
use Rattle.go_parse_core.specs.stmts.mirrors.StmtReading.{value_at, simple_from, if_tree, is_define, post_first, Braced, braced, else_by, branch_by, stmt_by, lines_go, stmt_at, block_at, branch_at}

-- the statement before the semicolon of an `if`, and the condition behind it

abbrev pub init_by : SimpleTree → MarkAhead → Reading (Option SimpleTree × Span)
init_by i None = Err Grammar
init_by i (Some s) = Ok ((Some i, s.0), s.1)

abbrev pub init_at : ℕ → Separated ExprTree → List Terminal → Reading (Option SimpleTree × Span)
init_at b es ts = simple_from b true es ts >>= λ i. init_by i.0 (mark_at operator.Semicolon i.1)

abbrev pub condition_at : ℕ → Option SimpleTree → Span → List Terminal → Reading IfTree
condition_at b i s ts = expr_at b true 1 ts >>= λ t. Ok (if_tree (Some (i, s)) t.0, t.1)

-- the condition between the semicolons of a `for`, if one stands there, and the second of them

abbrev pub test_by : ℕ → List Terminal → MarkAhead → Reading (Option ExprTree × Span)
test_by b ts (Some s) = Ok ((None, s.0), s.1)
test_by b ts None = expr_at b true 1 ts >>= λ t. (need (mark_at operator.Semicolon t.1) >>= λ s. Ok ((Some t.0, s.0), s.1))

abbrev pub test_at : ℕ → List Terminal → Reading (Option ExprTree × Span)
test_at b ts = test_by b ts (mark_at operator.Semicolon ts)

-- the statement behind them, if one stands there

abbrev pub as_post : SimpleTree × List Terminal → Reading (Option SimpleTree)
as_post x = if is_define x.0 then Err Grammar else Ok (Some x.0, x.1)

abbrev pub post_by : ℕ → List Terminal → MarkAhead → Reading (Option SimpleTree)
post_by b ts (Some brace) = Ok (None, ts)
post_by b ts None = post_first b ts >>= as_post

abbrev pub post_at : ℕ → List Terminal → Reading (Option SimpleTree)
post_at b ts = post_by b ts (mark_at operator.OpenBrace ts)

-- the two semicolons of a `for`, from the first on, and what stands between and behind them
abbrev pub clauses_at : ℕ → List Terminal → Reading (Span × Option ExprTree × Span × Option SimpleTree)
clauses_at b ts = do
  first ← need (mark_at operator.Semicolon ts)
  test ← test_at b first.1
  post ← post_at b test.1
  Ok ((first.0, test.0.0, test.0.1, post.0), post.1)

-- what stands behind `const` or `var`, as a statement
abbrev pub declare_at : ℕ → ValueKind → Span → List Terminal → Reading StmtTree
declare_at b kind keyword ts = value_at b kind keyword ts >>= λ x. Ok (Declare x.0, x.1)

-- the statements up to a brace, each at most b high
abbrev pub lines_above : ℕ → List Terminal → Reading Lines
lines_above b ts = lines_go (stmt_at b) (suc (length ts)) ts

-- the block of an `if` and what stands behind `else`
abbrev pub branches_above : ℕ → List Terminal → Reading (Braced × ElseTree)
branches_above b ts = braced (block_at b) ts >>= λ x. (else_by (block_at b) (branch_at b) x.1 (keyword_at keyword.Else x.1) >>= λ y. Ok ((x.0, y.0), y.1))

-- a statement and an `if`, whose parts are at most b high
abbrev pub stmt_above : ℕ → List Terminal → Reading StmtTree
stmt_above b ts = stmt_by b (lines_above b) (block_at b) (branch_at b) ts

abbrev pub branch_above : ℕ → Span → List Terminal → Reading BranchTree
branch_above b k ts = branch_by b (block_at b) (branch_at b) k ts
