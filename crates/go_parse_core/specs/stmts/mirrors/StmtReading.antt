-- Reading declarations of values and types, and statements.
use Rattle.std.specs.Prelude.{ℕ, zero, suc, Bool, true, false, ◌||◌, List, length, Option, Some, None, Ok, Err, nat_lt, is_some, if◌then◌else◌}
use Rattle.go_tree_nodes.specs.text_core.declared.span.Span.{Span}
use Rattle.go_tree_nodes.specs.token_core.declared.kind.Keyword.TheVariants as keyword
use Rattle.go_tree_nodes.specs.token_core.declared.kind.Operator.{Operator}
use Rattle.go_tree_nodes.specs.token_core.declared.kind.Operator.TheVariants as operator
use Rattle.go_tree_nodes.specs.declared.names.Ident.{Ident}
use Rattle.go_tree_nodes.specs.declared.decls.ValueKind.{ValueKind}
use Rattle.go_tree_nodes.specs.declared.decls.ValueKind.TheVariants as value
use Rattle.go_tree_nodes.specs.Terminals.{Terminal}
use Rattle.go_tree_nodes.specs.Trees.{Separated, One, Then, TypeTree, ExprTree, Named, ValueSpecTree, Specs, Single, Group, ValueTree, TypeSpecTree, TypeDeclTree, SimpleTree, Alone, Step, Assign, Update, Define, IfTree, ForTree, Forever, While, Clauses, StmtTree, BranchTree, ElseTree, Lines, Empty, Declare, Simple, Return, Break, Continue, Block, If, For, Branch, NoElse, ElseBlock, ElseIf, NoLines, Line}
use Rattle.go_tree_nodes.specs.Rules.{is_step, is_update}
use Rattle.go_tree_nodes.specs.Heights.{exprs_height}
use Rattle.go_tree_nodes.specs.Naming.{name_of}
use Rattle.go_parse_reader.specs.types.mirrors.Marks.{Grammar, TooHigh, ◌>>=◌, Reading, MarkAhead, need, mark_at, keyword_at, name_at, mark_that, some_mark, list_go, idents_go}
use Rattle.go_parse_reader.specs.types.mirrors.TypeReading.{begins_type, type_at, named_type_at}
use Rattle.go_parse_reader.specs.exprs.mirrors.ExprReading.{expr_at, exprs_at}

-- one specification, or several in parentheses

abbrev pub group_by : {A : Type 0} → Span → List (A × Option Span) → MarkAhead → Reading (Specs A)
group_by first xs None = Err Grammar
group_by first xs (Some last) = Ok (Group first xs last.0, last.1)

abbrev pub specs_by : {A : Type 0} → (List Terminal → Reading A) → List Terminal → MarkAhead → Reading (Specs A)
specs_by spec ts None = spec ts >>= λ x. Ok (Single x.0, x.1)
specs_by spec ts (Some first) = list_go spec operator.Semicolon operator.CloseParen (suc (length first.1)) first.1 >>= λ x. group_by first.0 x.0 (mark_at operator.CloseParen x.1)

abbrev pub specs_at : {A : Type 0} → (List Terminal → Reading A) → List Terminal → Reading (Specs A)
specs_at spec ts = specs_by spec ts (mark_at operator.OpenParen ts)

-- declarations of values

abbrev pub type_if : ℕ → List Terminal → Bool → Reading (Option TypeTree)
type_if b ts true = type_at b ts >>= λ t. Ok (Some t.0, t.1)
type_if b ts false = Ok (None, ts)

-- a type, where one may begin
abbrev pub some_type_at : ℕ → List Terminal → Reading (Option TypeTree)
some_type_at b ts = type_if b ts (begins_type ts)

abbrev pub values_by : ℕ → List Terminal → MarkAhead → Reading (Option (Span × Separated ExprTree))
values_by b ts None = Ok (None, ts)
values_by b ts (Some assign) = exprs_at b false assign.1 >>= λ es. Ok (Some (assign.0, es.0), es.1)

-- a constant has values; a variable has a type or values
abbrev pub enough : {A B : Type 0} → ValueKind → Option A → Option B → Bool
enough value.Const t None = false
enough value.Var None None = false
enough _ _ _ = true

abbrev pub value_spec : Separated Ident → Option TypeTree → Option (Span × Separated ExprTree) → ValueSpecTree
value_spec xs t vs = record { names = xs; type_expr = t; values = vs }

abbrev pub value_spec_by : ValueKind → Separated Ident → Option TypeTree → Option (Span × Separated ExprTree) × List Terminal → Reading ValueSpecTree
value_spec_by kind xs t vs = if enough kind t vs.0 then Ok (value_spec xs t vs.0, vs.1) else Err Grammar

-- names, their type and their values, each at most b high
abbrev pub value_spec_at : ℕ → ValueKind → List Terminal → Reading ValueSpecTree
value_spec_at b kind ts = do
  xs ← idents_go (suc (length ts)) ts
  t ← some_type_at b xs.1
  vs ← values_by b t.1 (mark_at operator.Assign t.1)
  value_spec_by kind xs.0 t.0 vs

abbrev pub value_decl : ValueKind → Span → Specs ValueSpecTree → ValueTree
value_decl kind keyword specs = record { kind = kind; keyword = keyword; specs = specs }

-- what stands behind `const` or `var`
abbrev pub value_at : ℕ → ValueKind → Span → List Terminal → Reading ValueTree
value_at b kind keyword ts = specs_at (value_spec_at b kind) ts >>= λ x. Ok (value_decl kind keyword x.0, x.1)

abbrev pub value_var : MarkAhead → Option (ValueKind × Span × List Terminal)
value_var None = None
value_var (Some s) = Some (value.Var, s.0, s.1)

abbrev pub value_const : List Terminal → MarkAhead → Option (ValueKind × Span × List Terminal)
value_const ts None = value_var (keyword_at keyword.Var ts)
value_const ts (Some s) = Some (value.Const, s.0, s.1)

-- `const` or `var` in front
abbrev pub value_word : List Terminal → Option (ValueKind × Span × List Terminal)
value_word ts = value_const ts (keyword_at keyword.Const ts)

-- declarations of types

abbrev pub type_spec : Ident → Option Span → TypeTree → TypeSpecTree
type_spec x alias t = record { name = x; alias = alias; type_expr = t }

-- the type of a specification, of an alias the name of one
abbrev pub spec_type_at : ℕ → Option Span → List Terminal → Reading TypeTree
spec_type_at b None ts = type_at b ts
spec_type_at b (Some assign) ts = named_type_at b ts

abbrev pub type_spec_from : ℕ → Ident → Option Span × List Terminal → Reading TypeSpecTree
type_spec_from b x alias = spec_type_at b alias.0 alias.1 >>= λ t. Ok (type_spec x alias.0 t.0, t.1)

-- a name, `=` where it is an alias, and its type
abbrev pub type_spec_at : ℕ → List Terminal → Reading TypeSpecTree
type_spec_at b ts = need (name_at ts) >>= λ x. type_spec_from b x.0 (some_mark operator.Assign x.1)

abbrev pub type_decl : Span → Specs TypeSpecTree → TypeDeclTree
type_decl keyword specs = record { keyword = keyword; specs = specs }

-- what stands behind `type`
abbrev pub types_at : ℕ → Span → List Terminal → Reading TypeDeclTree
types_at b keyword ts = specs_at (type_spec_at b) ts >>= λ x. Ok (type_decl keyword x.0, x.1)

-- simple statements

abbrev pub single : Separated ExprTree → Option ExprTree
single (One t) = Some t
single (Then t comma more) = None

abbrev pub names_then : Ident → Span → Option (Separated Ident) → Option (Separated Ident)
names_then x comma None = None
names_then x comma (Some more) = Some (Then x comma more)

abbrev pub names_one : Option Ident → Option (Separated Ident)
names_one None = None
names_one (Some x) = Some (One x)

abbrev pub names_more : Option Ident → Span → Option (Separated Ident) → Option (Separated Ident)
names_more None comma more = None
names_more (Some x) comma more = names_then x comma more

-- the names that expressions are, where each is one
abbrev pub names_of : Separated ExprTree → Option (Separated Ident)
names_of (One t) = names_one (name_of t)
names_of (Then t comma more) = names_more (name_of t) comma (names_of more)

abbrev pub alone_by : Separated ExprTree → List Terminal → Reading SimpleTree
alone_by es ts = need (single es) >>= λ t. Ok (Alone t, ts)

abbrev pub update_by : ℕ → Bool → Separated ExprTree → List Terminal → Option (Operator × Span × List Terminal) → Reading SimpleTree
update_by b header es ts None = alone_by es ts
update_by b header es ts (Some o) = need (single es) >>= λ t. (expr_at b header 1 o.2 >>= λ e. Ok (Update t o.0 o.1 e.0, e.1))

abbrev pub step_by : ℕ → Bool → Separated ExprTree → List Terminal → Option (Operator × Span × List Terminal) → Reading SimpleTree
step_by b header es ts None = update_by b header es ts (mark_that is_update ts)
step_by b header es ts (Some o) = need (single es) >>= λ t. Ok (Step t o.0 o.1, o.2)

abbrev pub assign_by : ℕ → Bool → Separated ExprTree → List Terminal → MarkAhead → Reading SimpleTree
assign_by b header es ts None = step_by b header es ts (mark_that is_step ts)
assign_by b header es ts (Some s) = exprs_at b header s.1 >>= λ x. Ok (Assign es s.0 x.0, x.1)

abbrev pub define_by : ℕ → Bool → Separated ExprTree → List Terminal → MarkAhead → Reading SimpleTree
define_by b header es ts None = assign_by b header es ts (mark_at operator.Assign ts)
define_by b header es ts (Some s) = need (names_of es) >>= λ xs. (exprs_at b header s.1 >>= λ x. Ok (Define xs s.0 x.0, x.1))

-- the simple statement that begins with these expressions, whose parts are at most b high
abbrev pub simple_by : ℕ → Bool → Separated ExprTree → List Terminal → Reading SimpleTree
simple_by b header es ts = define_by b header es ts (mark_at operator.Define ts)

-- a simple statement at most suc b high
abbrev pub simple_at : ℕ → Bool → List Terminal → Reading SimpleTree
simple_at b header ts = exprs_at b header ts >>= λ x. simple_by b header x.0 x.1

-- the same at most as high as budget, where its first expressions were read at that budget
abbrev pub simple_from : ℕ → Bool → Separated ExprTree → List Terminal → Reading SimpleTree
simple_from zero header es ts = Err TooHigh
simple_from (suc b) header es ts = if nat_lt (exprs_height es) (suc b) then simple_by b header es ts else Err TooHigh

-- the heads of if and for, whose parts are at most b high

abbrev pub if_tree : Option (Option SimpleTree × Span) → ExprTree → IfTree
if_tree init t = record { init = init; condition = t }

abbrev pub if_init : ℕ → SimpleTree → MarkAhead → Reading IfTree
if_init b i None = Err Grammar
if_init b i (Some s) = expr_at b true 1 s.1 >>= λ t. Ok (if_tree (Some (Some i, s.0)) t.0, t.1)

abbrev pub if_from : ℕ → Separated ExprTree → List Terminal → MarkAhead → Reading IfTree
if_from b es ts (Some brace) = need (single es) >>= λ t. Ok (if_tree None t, ts)
if_from b es ts None = simple_from b true es ts >>= λ i. if_init b i.0 (mark_at operator.Semicolon i.1)

abbrev pub if_first : ℕ → List Terminal → MarkAhead → Reading IfTree
if_first b ts (Some s) = expr_at b true 1 s.1 >>= λ t. Ok (if_tree (Some (None, s.0)) t.0, t.1)
if_first b ts None = exprs_at b true ts >>= λ x. if_from b x.0 x.1 (mark_at operator.OpenBrace x.1)

-- what stands between `if` and its block
abbrev pub if_at : ℕ → List Terminal → Reading IfTree
if_at b ts = if_first b ts (mark_at operator.Semicolon ts)

abbrev pub is_define : SimpleTree → Bool
is_define (Define xs s es) = true
is_define _ = false

abbrev pub post_by : Option SimpleTree → Span → Option ExprTree → Span → SimpleTree × List Terminal → Reading ForTree
post_by init a test b post = if is_define post.0 then Err Grammar else Ok (Clauses init a test b (Some post.0), post.1)

abbrev pub post_first : ℕ → List Terminal → Reading SimpleTree
post_first n ts = exprs_at n true ts >>= λ x. simple_from n true x.0 x.1

abbrev pub for_post : ℕ → Option SimpleTree → Span → Option ExprTree → Span → List Terminal → MarkAhead → Reading ForTree
for_post n init a test b ts (Some brace) = Ok (Clauses init a test b None, ts)
for_post n init a test b ts None = post_first n ts >>= post_by init a test b

abbrev pub for_second : ℕ → Option SimpleTree → Span → Option ExprTree → MarkAhead → Reading ForTree
for_second n init a test None = Err Grammar
for_second n init a test (Some b) = for_post n init a test b.0 b.1 (mark_at operator.OpenBrace b.1)

abbrev pub for_test : ℕ → Option SimpleTree → Span → List Terminal → MarkAhead → Reading ForTree
for_test n init a ts (Some b) = for_second n init a None (Some b)
for_test n init a ts None = expr_at n true 1 ts >>= λ t. for_second n init a (Some t.0) (mark_at operator.Semicolon t.1)

abbrev pub for_clauses : ℕ → Option SimpleTree → MarkAhead → Reading ForTree
for_clauses n init None = Err Grammar
for_clauses n init (Some a) = for_test n init a.0 a.1 (mark_at operator.Semicolon a.1)

abbrev pub for_from : ℕ → Separated ExprTree → List Terminal → MarkAhead → Reading ForTree
for_from n es ts (Some brace) = need (single es) >>= λ t. Ok (While t, ts)
for_from n es ts None = simple_from n true es ts >>= λ i. for_clauses n (Some i.0) (mark_at operator.Semicolon i.1)

abbrev pub for_begins : ℕ → List Terminal → MarkAhead → Reading ForTree
for_begins n ts (Some a) = for_clauses n None (Some a)
for_begins n ts None = exprs_at n true ts >>= λ x. for_from n x.0 x.1 (mark_at operator.OpenBrace x.1)

abbrev pub for_first : ℕ → List Terminal → MarkAhead → Reading ForTree
for_first n ts (Some brace) = Ok (Forever, ts)
for_first n ts None = for_begins n ts (mark_at operator.Semicolon ts)

-- what stands between `for` and its block
abbrev pub for_at : ℕ → List Terminal → Reading ForTree
for_at n ts = for_first n ts (mark_at operator.OpenBrace ts)

-- statements

-- a semicolon or a closing brace is in front
abbrev pub ends_here : List Terminal → Bool
ends_here ts = is_some (mark_at operator.Semicolon ts) || is_some (mark_at operator.CloseBrace ts)

abbrev pub returned : Span → Separated ExprTree × List Terminal → Reading StmtTree
returned s x = Ok (Return s (Some x.0), x.1)

abbrev pub return_at : ℕ → Span → List Terminal → Reading StmtTree
return_at b s ts = if ends_here ts then Ok (Return s None, ts) else (exprs_at b false ts >>= returned s)

-- statements between braces: the place of the first brace, the statements, the place of the last
abbrev pub Braced : Type 0
Braced = Span × Lines × Span

abbrev pub close_braces : Span → Lines → MarkAhead → Reading Braced
close_braces first ls None = Err Grammar
close_braces first ls (Some last) = Ok ((first, ls, last.0), last.1)

abbrev pub braced : (List Terminal → Reading Lines) → List Terminal → Reading Braced
braced lines ts = need (mark_at operator.OpenBrace ts) >>= λ first. (lines first.1 >>= λ ls. close_braces first.0 ls.0 (mark_at operator.CloseBrace ls.1))

abbrev pub else_if : Span → (Span → List Terminal → Reading BranchTree) → MarkAhead → Reading ElseTree
else_if k branch None = Err Grammar
else_if k branch (Some i) = branch i.0 i.1 >>= λ x. Ok (ElseIf k x.0, x.1)

abbrev pub else_block : (List Terminal → Reading Lines) → Span → (Span → List Terminal → Reading BranchTree) → List Terminal → MarkAhead → Reading ElseTree
else_block block k branch ts None = else_if k branch (keyword_at keyword.If ts)
else_block block k branch ts (Some brace) = braced block ts >>= λ x. Ok (ElseBlock k x.0.0 x.0.1 x.0.2, x.1)

abbrev pub else_by : (List Terminal → Reading Lines) → (Span → List Terminal → Reading BranchTree) → List Terminal → MarkAhead → Reading ElseTree
else_by block branch ts None = Ok (NoElse, ts)
else_by block branch ts (Some k) = else_block block k.0 branch k.1 (mark_at operator.OpenBrace k.1)

-- what stands behind `if`, whose parts are at most b high; a block is one node above its statements
abbrev pub branch_by : ℕ → (List Terminal → Reading Lines) → (Span → List Terminal → Reading BranchTree) → Span → List Terminal → Reading BranchTree
branch_by b block branch k ts = do
  head ← if_at b ts
  taken ← braced block head.1
  rest ← else_by block branch taken.1 (keyword_at keyword.Else taken.1)
  Ok (Branch k head.0 taken.0.0 taken.0.1 taken.0.2 rest.0, rest.1)

abbrev pub for_by : ℕ → (List Terminal → Reading Lines) → Span → List Terminal → Reading StmtTree
for_by b block k ts = do
  head ← for_at b ts
  body ← braced block head.1
  Ok (For k head.0 body.0.0 body.0.1 body.0.2, body.1)

abbrev pub by_simple : ℕ → List Terminal → MarkAhead → Reading StmtTree
by_simple b ts None = simple_at b false ts >>= λ x. Ok (Simple x.0, x.1)
by_simple b ts (Some s) = Ok (Empty, ts)

abbrev pub as_block : Braced × List Terminal → Reading StmtTree
as_block x = Ok (Block x.0.0 x.0.1 x.0.2, x.1)

abbrev pub by_block : ℕ → (List Terminal → Reading Lines) → List Terminal → MarkAhead → Reading StmtTree
by_block b lines ts None = by_simple b ts (mark_at operator.Semicolon ts)
by_block b lines ts (Some brace) = braced lines ts >>= as_block

abbrev pub by_for : ℕ → (List Terminal → Reading Lines) → (List Terminal → Reading Lines) → List Terminal → MarkAhead → Reading StmtTree
by_for b lines block ts None = by_block b lines ts (mark_at operator.OpenBrace ts)
by_for b lines block ts (Some k) = for_by b block k.0 k.1

abbrev pub by_if : ℕ → (List Terminal → Reading Lines) → (List Terminal → Reading Lines) → (Span → List Terminal → Reading BranchTree) → List Terminal → MarkAhead → Reading StmtTree
by_if b lines block branch ts None = by_for b lines block ts (keyword_at keyword.For ts)
by_if b lines block branch ts (Some k) = branch_by b block branch k.0 k.1 >>= λ x. Ok (If x.0, x.1)

abbrev pub by_continue : ℕ → (List Terminal → Reading Lines) → (List Terminal → Reading Lines) → (Span → List Terminal → Reading BranchTree) → List Terminal → MarkAhead → Reading StmtTree
by_continue b lines block branch ts None = by_if b lines block branch ts (keyword_at keyword.If ts)
by_continue b lines block branch ts (Some k) = Ok (Continue k.0, k.1)

abbrev pub by_break : ℕ → (List Terminal → Reading Lines) → (List Terminal → Reading Lines) → (Span → List Terminal → Reading BranchTree) → List Terminal → MarkAhead → Reading StmtTree
by_break b lines block branch ts None = by_continue b lines block branch ts (keyword_at keyword.Continue ts)
by_break b lines block branch ts (Some k) = Ok (Break k.0, k.1)

abbrev pub by_return : ℕ → (List Terminal → Reading Lines) → (List Terminal → Reading Lines) → (Span → List Terminal → Reading BranchTree) → List Terminal → MarkAhead → Reading StmtTree
by_return b lines block branch ts None = by_break b lines block branch ts (keyword_at keyword.Break ts)
by_return b lines block branch ts (Some s) = return_at b s.0 s.1

abbrev pub by_value : ℕ → (List Terminal → Reading Lines) → (List Terminal → Reading Lines) → (Span → List Terminal → Reading BranchTree) → List Terminal → Option (ValueKind × Span × List Terminal) → Reading StmtTree
by_value b lines block branch ts None = by_return b lines block branch ts (keyword_at keyword.Return ts)
by_value b lines block branch ts (Some v) = value_at b v.0 v.1 v.2 >>= λ x. Ok (Declare x.0, x.1)

-- a statement whose parts are at most b high: `lines` reads those of a block that is the statement, `block` those of a
-- block inside it, and `branch` an `if` inside it behind its keyword
abbrev pub stmt_by : ℕ → (List Terminal → Reading Lines) → (List Terminal → Reading Lines) → (Span → List Terminal → Reading BranchTree) → List Terminal → Reading StmtTree
stmt_by b lines block branch ts = by_value b lines block branch ts (value_word ts)

-- an empty statement keeps its semicolon
abbrev pub last_by : StmtTree → List Terminal → MarkAhead → Reading Lines
last_by Empty rest brace = Err Grammar
last_by c rest None = Err Grammar
last_by c rest (Some brace) = Ok (Line c None NoLines, rest)

abbrev pub line_by : (List Terminal → Reading Lines) → StmtTree → List Terminal → MarkAhead → Reading Lines
line_by more c rest None = last_by c rest (mark_at operator.CloseBrace rest)
line_by more c rest (Some s) = more s.1 >>= λ x. Ok (Line c (Some s.0) x.0, x.1)

abbrev pub lines_by : (List Terminal → Reading StmtTree) → (List Terminal → Reading Lines) → List Terminal → MarkAhead → Reading Lines
lines_by stmt more ts None = stmt ts >>= λ x. line_by more x.0 x.1 (mark_at operator.Semicolon x.1)
lines_by stmt more ts (Some brace) = Ok (NoLines, ts)

-- statements up to a brace, at most turns of them
unfoldable pub lines_go : (List Terminal → Reading StmtTree) → ℕ → List Terminal → Reading Lines
lines_go stmt zero ts = Err Grammar
lines_go stmt (suc turns) ts = lines_by stmt (lines_go stmt turns) ts (mark_at operator.CloseBrace ts)

unfoldable mutual
  -- the statement in front, at most as high as budget
  pub stmt_at : ℕ → List Terminal → Reading StmtTree
  stmt_at zero ts = Err TooHigh
  stmt_at (suc b) ts = stmt_by b (λ rest. lines_go (stmt_at b) (suc (length rest)) rest) (block_at b) (branch_at b) ts

  -- the statements of a block that is at most as high as budget
  pub block_at : ℕ → List Terminal → Reading Lines
  block_at zero ts = Err TooHigh
  block_at (suc b) ts = lines_go (stmt_at b) (suc (length ts)) ts

  -- what stands behind an `if` that is at most as high as budget
  pub branch_at : ℕ → Span → List Terminal → Reading BranchTree
  branch_at zero k ts = Err TooHigh
  branch_at (suc b) k ts = branch_by b (block_at b) (branch_at b) k ts
