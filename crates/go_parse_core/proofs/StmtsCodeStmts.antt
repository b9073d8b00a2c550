-- What reading statements gives from the middle of a block on.
use Rattle.std.proofs.Common.{◌≡◌, ℕ, zero, suc, ◌+◌, ◌-◌, ◌<◌, true, false, List, [], ◌∷◌, ◌++◌, length, Option, Some, None, Ok, Err, refl, sym, ap, ◌∙◌, subst, arith}
use Rattle.std.specs.Prelude.{is_some}
use Rattle.go_tree_nodes.specs.text_core.declared.span.Span.{Span}
use Rattle.go_tree_nodes.specs.token_core.declared.kind.Keyword.TheVariants as keyword
use Rattle.go_tree_nodes.specs.token_core.declared.kind.Operator.TheVariants as operator
use Rattle.go_tree_nodes.specs.declared.stmts.«Line» as declared_line
use Rattle.go_tree_nodes.specs.declared.decls.ValueKind.{ValueKind}
use Rattle.go_tree_nodes.specs.Terminals.{Terminal}
use Rattle.go_tree_nodes.specs.Trees.{IfTree, ForTree, StmtTree, BranchTree, ElseTree, Lines, Empty, Break, Continue, Block, If, For, Branch, ElseBlock, ElseIf, NoLines, Line}
use Rattle.go_tree_nodes.specs.Shapes.{shape_stmt, lines_front, lines_of}
use Rattle.go_parse_reader.specs.declared.types.stop.Stop.{Stop}
use Rattle.go_parse_reader.specs.types.mirrors.Giving.{Fails}
use Rattle.go_parse_reader.specs.types.mirrors.Marks.{Stuck, Grammar, TooHigh, ◌>>=◌, Reading, MarkAhead, need, mark_at, keyword_at, some_mark}
use Rattle.go_parse_reader.proofs.TypesMarks.{mark_shorter, need_ok}
use Rattle.go_parse_reader.proofs.TypesCodeSteps.{fails_along}
use Rattle.go_parse_core.specs.stmts.mirrors.StmtReading.{value_word, return_at, if_at, for_at, by_for, by_if, by_continue, by_break, by_return, by_value, Braced, else_if, else_block, else_by, for_by, as_block, by_block, last_by, line_by, lines_by, lines_go, close_braces, braced, stmt_at, block_at, branch_at}
use Rattle.go_parse_core.specs.stmts.mirrors.CodeShapes.{declare_at, lines_above, stmt_above, branches_above, branch_above}
use Rattle.go_parse_core.proofs.StmtsStmtSound.{stmt_no_longer}
use Rattle.go_parse_core.proofs.StmtsEmptyStmts.{stmt_kept}
use Rattle.go_parse_core.proofs.StmtsCodeLines.{marked, unmarked, missing, turn_shorter}

front_append : (ls : List declared_line.Line) (l : declared_line.Line) (more : Lines) → lines_front (ls ++ (l ∷ [])) more ≡ lines_front ls (Line (shape_stmt l.stmt) l.semicolon more)
front_append [] l more = refl
front_append (x ∷ ls) l more = ap (λ r. Line (shape_stmt x.stmt) x.semicolon r) (front_append ls l more)

abbrev pub with_front : List declared_line.Line → Reading Lines → Reading Lines
with_front done r = r >>= λ x. Ok (lines_front done x.0, x.1)

abbrev pub with_line : StmtTree → Span → Reading Lines → Reading Lines
with_line c s r = r >>= λ x. Ok (Line c (Some s) x.0, x.1)

-- reading gives these lines, and then what reading the rest gives
pub record LinesSoFar (b : ℕ) (ts : List Terminal) (done : List declared_line.Line) (rest : List Terminal) : Type 0 where
  pub turns : ℕ
  pub enough : length rest < turns
  pub same : lines_above b ts ≡ with_front done (lines_go (stmt_at b) turns rest)

pub lines_none : (b : ℕ) (ts : List Terminal) → LinesSoFar b ts [] ts
lines_none b ts = record { turns = suc (length ts); enough = omega arith; same = whole (lines_above b ts) }
  where
    whole : (r : Reading Lines) → r ≡ with_front [] r
    whole (Ok x) = refl
    whole (Err e) = refl

-- a turn: a statement, and what comes behind it
turn_is : (b k : ℕ) (rest after : List Terminal) (c : StmtTree) → 0 < k → None ≡ mark_at operator.CloseBrace rest → stmt_at b rest ≡ Ok (c, after) → lines_go (stmt_at b) k rest ≡ line_by (lines_go (stmt_at b) (k - 1)) c after (mark_at operator.Semicolon after)
unfolding lines_go
turn_is b zero rest after c some free e = absurd (omega arith)
turn_is b (suc k) rest after c some free e =
    let less : suc k - 1 ≡ k = omega arith in
    ap (lines_by (stmt_at b) (lines_go (stmt_at b) k) rest) (sym free) ∙ ap (λ r. r >>= λ x. line_by (lines_go (stmt_at b) k) x.0 x.1 (mark_at operator.Semicolon x.1)) e ∙ ap (λ m. line_by (lines_go (stmt_at b) m) c after (mark_at operator.Semicolon after)) (sym less)

turn_err : (b k : ℕ) (rest : List Terminal) (e : Stuck) → 0 < k → None ≡ mark_at operator.CloseBrace rest → stmt_at b rest ≡ Err e → lines_go (stmt_at b) k rest ≡ Err e
unfolding lines_go
turn_err b zero rest e some free f = absurd (omega arith)
turn_err b (suc k) rest e some free f =
    ap (lines_by (stmt_at b) (lines_go (stmt_at b) k) rest) (sym free) ∙ ap (λ r. r >>= λ x. line_by (lines_go (stmt_at b) k) x.0 x.1 (mark_at operator.Semicolon x.1)) f

turn_end : (b k : ℕ) (rest : List Terminal) (m : Span × List Terminal) → 0 < k → mark_at operator.CloseBrace rest ≡ Some m → lines_go (stmt_at b) k rest ≡ Ok (NoLines, rest)
unfolding lines_go
turn_end b zero rest m some at = absurd (omega arith)
turn_end b (suc k) rest m some at = ap (lines_by (stmt_at b) (lines_go (stmt_at b) k) rest) at

lines_more : (b : ℕ) (ts : List Terminal) (done new : List declared_line.Line) (rest after : List Terminal) (l : declared_line.Line) (m : Span × List Terminal) → LinesSoFar b ts done rest → None ≡ mark_at operator.CloseBrace rest → stmt_at b rest ≡ Ok (shape_stmt l.stmt, after) → Some m ≡ mark_at operator.Semicolon after → l.semicolon ≡ Some m.0 → new ≡ done ++ (l ∷ []) → LinesSoFar b ts new m.1
lines_more b ts done new rest after l m so free e at semi is =
    let c = shape_stmt l.stmt in
    let first = stmt_no_longer b rest (c, after) e in
    let second = mark_shorter operator.Semicolon after m (sym at) in
    let k = so.turns in
    let some : 0 < k = omega (arith, so.enough) in
    record { turns = k - 1; enough = omega (arith, so.enough); same = so.same ∙ ap (with_front done) (turn_is b k rest after c some free e ∙ ap (line_by (lines_go (stmt_at b) (k - 1)) c after) (sym at)) ∙ fuse (lines_go (stmt_at b) (k - 1) m.1) }
  where
    fuse : (r : Reading Lines) → with_front done (with_line (shape_stmt l.stmt) m.0 r) ≡ with_front new r
    fuse (Err e) = refl
    fuse (Ok x) = ap (λ s. Ok (lines_front done (Line (shape_stmt l.stmt) s x.0), x.1)) (sym semi) ∙ ap (λ y. Ok (y, x.1)) (sym (front_append done l x.0) ∙ ap (λ d. lines_front d x.0) (sym is))

pub lines_end : (b : ℕ) (ts : List Terminal) (done : List declared_line.Line) (rest : List Terminal) (m : Span × List Terminal) → LinesSoFar b ts done rest → mark_at operator.CloseBrace rest ≡ Some m → lines_above b ts ≡ Ok (lines_of done, rest)
lines_end b ts done rest m so at = so.same ∙ ap (with_front done) (turn_end b so.turns rest m (omega (arith, so.enough)) at)

last_none : (c : StmtTree) (rest : List Terminal) → last_by c rest None ≡ Err Grammar
last_none Empty rest = refl
last_none _ rest = refl

last_some : (c : StmtTree) (rest : List Terminal) (m : Span × List Terminal) → (c ≡ Empty → ⊥) → last_by c rest (Some m) ≡ Ok (Line c None NoLines, rest)
last_some Empty rest m not = absurd (not refl)
last_some _ rest m not = refl

lines_missing : (b : ℕ) (ts : List Terminal) (done : List declared_line.Line) (rest after : List Terminal) (c : StmtTree) → LinesSoFar b ts done rest → None ≡ mark_at operator.CloseBrace rest → stmt_at b rest ≡ Ok (c, after) → None ≡ mark_at operator.Semicolon after → None ≡ mark_at operator.CloseBrace after → lines_above b ts ≡ Err Grammar
lines_missing b ts done rest after c so free e at brace =
    let k = so.turns in
    so.same ∙ ap (with_front done) (turn_is b k rest after c (omega (arith, so.enough)) free e ∙ ap (line_by (lines_go (stmt_at b) (k - 1)) c after) (sym at) ∙ ap (last_by c after) (sym brace) ∙ last_none c after)

lines_last : (b : ℕ) (ts : List Terminal) (done new : List declared_line.Line) (rest after : List Terminal) (l : declared_line.Line) (m : Span × List Terminal) → LinesSoFar b ts done rest → None ≡ mark_at operator.CloseBrace rest → stmt_at b rest ≡ Ok (shape_stmt l.stmt, after) → None ≡ mark_at operator.Semicolon after → mark_at operator.CloseBrace after ≡ Some m → l.semicolon ≡ None → new ≡ done ++ (l ∷ []) → lines_above b ts ≡ Ok (lines_of new, after)
lines_last b ts done new rest after l m so free e at brace semi is =
    let c = shape_stmt l.stmt in
    let k = so.turns in
    let not : c ≡ Empty → ⊥ = λ empty. (stmt_kept b rest (c, after) e).kept empty at in
    so.same ∙ ap (with_front done) (turn_is b k rest after c (omega (arith, so.enough)) free e ∙ ap (line_by (lines_go (stmt_at b) (k - 1)) c after) (sym at) ∙ ap (last_by c after) brace ∙ last_some c after m not)
    ∙ ap (λ s. Ok (lines_front done (Line c s NoLines), after)) (sym semi) ∙ ap (λ y. Ok (y, after)) (sym (front_append done l NoLines) ∙ ap (λ d. lines_front d NoLines) (sym is))

-- the budget's step, and a turn of the loop that takes it

stmt_zero : (b : ℕ) (ts : List Terminal) → b ≡ 0 → stmt_at b ts ≡ Err TooHigh
unfolding stmt_at
stmt_zero b ts e = ap (λ n. stmt_at n ts) e

stmt_more : (n : ℕ) (ts : List Terminal) → 0 < n → stmt_at n ts ≡ stmt_above (n - 1) ts
unfolding stmt_at
stmt_more zero ts some = absurd (omega arith)
stmt_more (suc b) ts some = let less : b ≡ suc b - 1 = omega arith in ap (λ m. stmt_above m ts) less

stmt_is : (b : ℕ) (rest after : List Terminal) (c : StmtTree) → 0 < b → stmt_above (b - 1) rest ≡ Ok (c, after) → stmt_at b rest ≡ Ok (c, after)
stmt_is b rest after c some e = stmt_more b rest some ∙ e

pub lines_too_high : (b : ℕ) (ts : List Terminal) (done : List declared_line.Line) (rest : List Terminal) → LinesSoFar b ts done rest → None ≡ mark_at operator.CloseBrace rest → b ≡ 0 → lines_above b ts ≡ Err TooHigh
lines_too_high b ts done rest so free e =
    so.same ∙ ap (with_front done) (turn_err b so.turns rest TooHigh (omega (arith, so.enough)) free (stmt_zero b rest e))

pub lines_fails : (b : ℕ) (ts : List Terminal) (done : List declared_line.Line) (rest : List Terminal) (e : Stop) → LinesSoFar b ts done rest → 0 < b → None ≡ mark_at operator.CloseBrace rest → Fails e (stmt_above (b - 1) rest) → Fails e (lines_above b ts)
lines_fails b ts done rest e so some free failed =
    fails_along (stmt_above (b - 1) rest) (lines_above b ts) e (λ f g. so.same ∙ ap (with_front done) (turn_err b so.turns rest f (omega (arith, so.enough)) free (stmt_more b rest some ∙ g))) failed

pub line_more : (b : ℕ) (ts : List Terminal) (done new : List declared_line.Line) (rest after behind : List Terminal) (l : declared_line.Line) → LinesSoFar b ts done rest → 0 < b → None ≡ mark_at operator.CloseBrace rest → stmt_above (b - 1) rest ≡ Ok (shape_stmt l.stmt, after) → (l.semicolon, behind) ≡ some_mark operator.Semicolon after → is_some l.semicolon ≡ true → new ≡ done ++ (l ∷ []) → LinesSoFar b ts new behind
line_more b ts done new rest after behind l so some free e ended here is =
    let m = marked operator.Semicolon after l.semicolon behind ended here in
    subst (λ (r : List Terminal). LinesSoFar b ts new r) (sym m.behind) (lines_more b ts done new rest after l m.place so free (stmt_is b rest after (shape_stmt l.stmt) some e) m.here m.found is)

pub line_shorter : (b : ℕ) (rest after behind : List Terminal) (c : StmtTree) (o : Option Span) → 0 < b → stmt_above (b - 1) rest ≡ Ok (c, after) → (o, behind) ≡ some_mark operator.Semicolon after → is_some o ≡ true → length behind < length rest
line_shorter b rest after behind c o some e ended here =
    turn_shorter rest after behind o (stmt_no_longer b rest (c, after) (stmt_is b rest after c some e)) ended here

pub line_last : (b : ℕ) (ts : List Terminal) (done new : List declared_line.Line) (rest after behind : List Terminal) (l : declared_line.Line) (y : Span × List Terminal) → LinesSoFar b ts done rest → 0 < b → None ≡ mark_at operator.CloseBrace rest → stmt_above (b - 1) rest ≡ Ok (shape_stmt l.stmt, after) → (l.semicolon, behind) ≡ some_mark operator.Semicolon after → is_some l.semicolon ≡ false → need (mark_at operator.CloseBrace behind) ≡ Ok y → new ≡ done ++ (l ∷ []) → lines_above b ts ≡ Ok (lines_of new, behind)
line_last b ts done new rest after behind l y so some free e ended none closed is =
    let m = unmarked operator.Semicolon after l.semicolon behind ended none in
    let here : mark_at operator.CloseBrace after ≡ Some y = ap (mark_at operator.CloseBrace) (sym m.behind) ∙ need_ok (mark_at operator.CloseBrace behind) y closed in
    lines_last b ts done new rest after l y so free (stmt_is b rest after (shape_stmt l.stmt) some e) m.free here m.found is ∙ ap (λ r. Ok (lines_of new, r)) (sym m.behind)

pub line_missing : (b : ℕ) (ts : List Terminal) (done : List declared_line.Line) (rest after behind : List Terminal) (c : StmtTree) (o : Option Span) (s : Stop) → LinesSoFar b ts done rest → 0 < b → None ≡ mark_at operator.CloseBrace rest → stmt_above (b - 1) rest ≡ Ok (c, after) → (o, behind) ≡ some_mark operator.Semicolon after → is_some o ≡ false → Fails s (need (mark_at operator.CloseBrace behind)) → Fails s (lines_above b ts)
line_missing b ts done rest after behind c o s so some free e ended none failed =
    let m = unmarked operator.Semicolon after o behind ended none in
    fails_along (need (mark_at operator.CloseBrace behind)) (lines_above b ts) s (λ f g.
    let why = missing (mark_at operator.CloseBrace behind) f g in
    lines_missing b ts done rest after c so free (stmt_is b rest after c some e) m.free (why.0 ∙ ap (mark_at operator.CloseBrace) m.behind) ∙ ap (λ f. Err f) (sym why.1)) failed

branch_zero : (b : ℕ) (k : Span) (ts : List Terminal) → b ≡ 0 → branch_at b k ts ≡ Err TooHigh
unfolding branch_at
branch_zero b k ts e = ap (λ n. branch_at n k ts) e

branch_more : (n : ℕ) (k : Span) (ts : List Terminal) → 0 < n → branch_at n k ts ≡ branch_above (n - 1) k ts
unfolding branch_at
branch_more zero k ts some = absurd (omega arith)
branch_more (suc b) k ts some = let less : b ≡ suc b - 1 = omega arith in ap (λ m. branch_above m k ts) less

pub block_zero : (b : ℕ) (ts : List Terminal) (x : Span × List Terminal) → need (mark_at operator.OpenBrace ts) ≡ Ok x → b ≡ 0 → braced (block_at b) ts ≡ Err TooHigh
unfolding block_at
block_zero b ts x brace e =
    ap (λ n. braced (block_at n) ts) e ∙ ap (λ r. r >>= λ first. (block_at 0 first.1 >>= λ ls. close_braces first.0 ls.0 (mark_at operator.CloseBrace ls.1))) brace

block_more : (n m : ℕ) (ts : List Terminal) → n ≡ suc m → braced (block_at n) ts ≡ braced (lines_above m) ts
unfolding block_at
block_more n m ts e = ap (λ k. braced (block_at k) ts) e

-- a block, once its opening brace is read

abbrev closed : Span → Lines × List Terminal → Reading Braced
closed first ls = close_braces first ls.0 (mark_at operator.CloseBrace ls.1)

block_opened : (n : ℕ) (ts rest : List Terminal) (first : Span) → need (mark_at operator.OpenBrace ts) ≡ Ok (first, rest) → 0 < n → braced (block_at n) ts ≡ (lines_above (n - 1) rest >>= closed first)
block_opened n ts rest first opened some =
    let more : n ≡ suc (n - 1) = omega arith in
    block_more n (n - 1) ts more ∙ ap (λ r. r >>= λ (first : Span × List Terminal). (lines_above (n - 1) first.1 >>= closed first.0)) opened

pub block_fails : (n : ℕ) (ts rest : List Terminal) (first : Span) (e : Stop) → need (mark_at operator.OpenBrace ts) ≡ Ok (first, rest) → 0 < n → Fails e (lines_above (n - 1) rest) → Fails e (braced (block_at n) ts)
block_fails n ts rest first e opened some failed =
    fails_along (lines_above (n - 1) rest) (braced (block_at n) ts) e (λ f g. block_opened n ts rest first opened some ∙ ap (λ r. r >>= closed first) g) failed

pub block_open : (n : ℕ) (ts rest after : List Terminal) (first : Span) (ls : Lines) (e : Stop) → need (mark_at operator.OpenBrace ts) ≡ Ok (first, rest) → 0 < n → lines_above (n - 1) rest ≡ Ok (ls, after) → Fails e (need (mark_at operator.CloseBrace after)) → Fails e (braced (block_at n) ts)
block_open n ts rest after first ls e opened some found failed =
    fails_along (need (mark_at operator.CloseBrace after)) (braced (block_at n) ts) e (λ f g. block_opened n ts rest first opened some ∙ ap (λ r. r >>= closed first) found ∙ unclosed (mark_at operator.CloseBrace after) f g) failed
  where
    unclosed : (m : MarkAhead) (f : Stuck) → need m ≡ Err f → close_braces first ls m ≡ Err f
    unclosed None f g = cc
    unclosed (Some last) f g = cc

pub block_closed : (n : ℕ) (ts rest after behind : List Terminal) (first last : Span) (ls : Lines) → need (mark_at operator.OpenBrace ts) ≡ Ok (first, rest) → 0 < n → lines_above (n - 1) rest ≡ Ok (ls, after) → need (mark_at operator.CloseBrace after) ≡ Ok (last, behind) → braced (block_at n) ts ≡ Ok ((first, ls, last), behind)
block_closed n ts rest after behind first last ls opened some found ended =
    block_opened n ts rest first opened some ∙ ap (λ r. r >>= closed first) found ∙ ap (close_braces first ls) (need_ok (mark_at operator.CloseBrace after) (last, behind) ended)

-- a statement by its first word

pub declared_is : (b : ℕ) (ts : List Terminal) (v : ValueKind × Span × List Terminal) → Some v ≡ value_word ts → stmt_above b ts ≡ declare_at b v.0 v.1 v.2
declared_is b ts v at = ap (by_value b (lines_above b) (block_at b) (branch_at b) ts) (sym at)

no_value : (b : ℕ) (ts : List Terminal) → None ≡ value_word ts → stmt_above b ts ≡ by_return b (lines_above b) (block_at b) (branch_at b) ts (keyword_at keyword.Return ts)
no_value b ts at = ap (by_value b (lines_above b) (block_at b) (branch_at b) ts) (sym at)

pub returned_is : (b : ℕ) (ts : List Terminal) (s : Span × List Terminal) → None ≡ value_word ts → Some s ≡ keyword_at keyword.Return ts → stmt_above b ts ≡ return_at b s.0 s.1
returned_is b ts s v at = no_value b ts v ∙ ap (by_return b (lines_above b) (block_at b) (branch_at b) ts) (sym at)

no_return : (b : ℕ) (ts : List Terminal) → None ≡ value_word ts → None ≡ keyword_at keyword.Return ts → stmt_above b ts ≡ by_break b (lines_above b) (block_at b) (branch_at b) ts (keyword_at keyword.Break ts)
no_return b ts v r = no_value b ts v ∙ ap (by_return b (lines_above b) (block_at b) (branch_at b) ts) (sym r)

pub broken_is : (b : ℕ) (ts : List Terminal) (s : Span × List Terminal) → None ≡ value_word ts → None ≡ keyword_at keyword.Return ts → Some s ≡ keyword_at keyword.Break ts → stmt_above b ts ≡ Ok (Break s.0, s.1)
broken_is b ts s v r at = no_return b ts v r ∙ ap (by_break b (lines_above b) (block_at b) (branch_at b) ts) (sym at)

no_break : (b : ℕ) (ts : List Terminal) → None ≡ value_word ts → None ≡ keyword_at keyword.Return ts → None ≡ keyword_at keyword.Break ts → stmt_above b ts ≡ by_continue b (lines_above b) (block_at b) (branch_at b) ts (keyword_at keyword.Continue ts)
no_break b ts v r q = no_return b ts v r ∙ ap (by_break b (lines_above b) (block_at b) (branch_at b) ts) (sym q)

pub continued_is : (b : ℕ) (ts : List Terminal) (s : Span × List Terminal) → None ≡ value_word ts → None ≡ keyword_at keyword.Return ts → None ≡ keyword_at keyword.Break ts → Some s ≡ keyword_at keyword.Continue ts → stmt_above b ts ≡ Ok (Continue s.0, s.1)
continued_is b ts s v r q at = no_break b ts v r q ∙ ap (by_continue b (lines_above b) (block_at b) (branch_at b) ts) (sym at)

no_continue : (b : ℕ) (ts : List Terminal) → None ≡ value_word ts → None ≡ keyword_at keyword.Return ts → None ≡ keyword_at keyword.Break ts → None ≡ keyword_at keyword.Continue ts → stmt_above b ts ≡ by_if b (lines_above b) (block_at b) (branch_at b) ts (keyword_at keyword.If ts)
no_continue b ts v r q c = no_break b ts v r q ∙ ap (by_continue b (lines_above b) (block_at b) (branch_at b) ts) (sym c)

if_whole : (b : ℕ) (ts : List Terminal) (s : Span × List Terminal) → None ≡ value_word ts → None ≡ keyword_at keyword.Return ts → None ≡ keyword_at keyword.Break ts → None ≡ keyword_at keyword.Continue ts → Some s ≡ keyword_at keyword.If ts → stmt_above b ts ≡ (branch_above b s.0 s.1 >>= λ x. Ok (If x.0, x.1))
if_whole b ts s v r q c at = no_continue b ts v r q c ∙ ap (by_if b (lines_above b) (block_at b) (branch_at b) ts) (sym at)

no_if : (b : ℕ) (ts : List Terminal) → None ≡ value_word ts → None ≡ keyword_at keyword.Return ts → None ≡ keyword_at keyword.Break ts → None ≡ keyword_at keyword.Continue ts → None ≡ keyword_at keyword.If ts → stmt_above b ts ≡ by_for b (lines_above b) (block_at b) ts (keyword_at keyword.For ts)
no_if b ts v r q c i = no_continue b ts v r q c ∙ ap (by_if b (lines_above b) (block_at b) (branch_at b) ts) (sym i)

pub loop_is : (b : ℕ) (ts : List Terminal) (s : Span × List Terminal) → None ≡ value_word ts → None ≡ keyword_at keyword.Return ts → None ≡ keyword_at keyword.Break ts → None ≡ keyword_at keyword.Continue ts → None ≡ keyword_at keyword.If ts → Some s ≡ keyword_at keyword.For ts → stmt_above b ts ≡ for_by b (block_at b) s.0 s.1
loop_is b ts s v r q c i at = no_if b ts v r q c i ∙ ap (by_for b (lines_above b) (block_at b) ts) (sym at)

pub plain_is : (b : ℕ) (ts : List Terminal) → None ≡ value_word ts → None ≡ keyword_at keyword.Return ts → None ≡ keyword_at keyword.Break ts → None ≡ keyword_at keyword.Continue ts → None ≡ keyword_at keyword.If ts → None ≡ keyword_at keyword.For ts → stmt_above b ts ≡ by_block b (lines_above b) ts (mark_at operator.OpenBrace ts)
plain_is b ts v r q c i f = no_if b ts v r q c i ∙ ap (by_for b (lines_above b) (block_at b) ts) (sym f)

pub if_is : (b : ℕ) (ts after : List Terminal) (s : Span × List Terminal) (t : BranchTree) → None ≡ value_word ts → None ≡ keyword_at keyword.Return ts → None ≡ keyword_at keyword.Break ts → None ≡ keyword_at keyword.Continue ts → Some s ≡ keyword_at keyword.If ts → branch_above b s.0 s.1 ≡ Ok (t, after) → stmt_above b ts ≡ Ok (If t, after)
if_is b ts after s t v r q c at found = if_whole b ts s v r q c at ∙ ap (λ r. r >>= λ (x : BranchTree × List Terminal). Ok (If x.0, x.1)) found

-- a block, a loop, what stands behind `else`, and an `if`, from their parts

pub block_is : (b : ℕ) (ts after : List Terminal) (first last : Span) (ls : Lines) (m : Span × List Terminal) → mark_at operator.OpenBrace ts ≡ Some m → braced (block_at (b + 1)) ts ≡ Ok ((first, ls, last), after) → by_block b (lines_above b) ts (mark_at operator.OpenBrace ts) ≡ Ok (Block first ls last, after)
block_is b ts after first last ls m brace found =
    let above : b + 1 ≡ suc b = omega arith in
    ap (by_block b (lines_above b) ts) brace ∙ ap (λ r. r >>= as_block) (sym (block_more (b + 1) b ts above) ∙ found)

pub block_stops : (b : ℕ) (ts : List Terminal) (e : Stop) (m : Span × List Terminal) → mark_at operator.OpenBrace ts ≡ Some m → Fails e (braced (block_at (b + 1)) ts) → Fails e (by_block b (lines_above b) ts (mark_at operator.OpenBrace ts))
block_stops b ts e m brace failed =
    let above : b + 1 ≡ suc b = omega arith in
    fails_along (braced (block_at (b + 1)) ts) (by_block b (lines_above b) ts (mark_at operator.OpenBrace ts)) e (λ f g. ap (by_block b (lines_above b) ts) brace ∙ ap (λ r. r >>= as_block) (sym (block_more (b + 1) b ts above) ∙ g)) failed

pub for_is : (b : ℕ) (k : Span) (ts behind after : List Terminal) (head : ForTree) (first last : Span) (ls : Lines) → for_at b ts ≡ Ok (head, behind) → braced (block_at b) behind ≡ Ok ((first, ls, last), after) → for_by b (block_at b) k ts ≡ Ok (For k head first ls last, after)
for_is b k ts behind after head first last ls header found =
    let made : ForTree → Braced × List Terminal → Reading StmtTree = λ head x. Ok (For k head x.0.0 x.0.1 x.0.2, x.1) in
    ap (λ r. r >>= λ (head : ForTree × List Terminal). (braced (block_at b) head.1 >>= made head.0)) header ∙ ap (λ r. r >>= made head) found

pub else_is : (b : ℕ) (k : Span) (ts behind after : List Terminal) (first last : Span) (ls : Lines) (m : Span × List Terminal) → Some (k, behind) ≡ keyword_at keyword.Else ts → mark_at operator.OpenBrace behind ≡ Some m → braced (block_at b) behind ≡ Ok ((first, ls, last), after) → else_by (block_at b) (branch_at b) ts (keyword_at keyword.Else ts) ≡ Ok (ElseBlock k first ls last, after)
else_is b k ts behind after first last ls m word brace found =
    ap (else_by (block_at b) (branch_at b) ts) (sym word) ∙ ap (else_block (block_at b) k (branch_at b) behind) brace ∙ ap (λ r. r >>= λ (x : Braced × List Terminal). Ok (ElseBlock k x.0.0 x.0.1 x.0.2, x.1)) found

abbrev otherwise_at : ℕ → List Terminal → Reading ElseTree
otherwise_at b ts = else_by (block_at b) (branch_at b) ts (keyword_at keyword.Else ts)

else_if_whole : (b : ℕ) (k i : Span) (ts behind inside : List Terminal) → Some (k, behind) ≡ keyword_at keyword.Else ts → None ≡ mark_at operator.OpenBrace behind → need (keyword_at keyword.If behind) ≡ Ok (i, inside) → otherwise_at b ts ≡ (branch_at b i inside >>= λ x. Ok (ElseIf k x.0, x.1))
else_if_whole b k i ts behind inside word free found =
    ap (else_by (block_at b) (branch_at b) ts) (sym word) ∙ ap (else_block (block_at b) k (branch_at b) behind) (sym free) ∙ ap (else_if k (branch_at b)) (need_ok (keyword_at keyword.If behind) (i, inside) found)

pub else_if_too_high : (b : ℕ) (k i : Span) (ts behind inside : List Terminal) → Some (k, behind) ≡ keyword_at keyword.Else ts → None ≡ mark_at operator.OpenBrace behind → need (keyword_at keyword.If behind) ≡ Ok (i, inside) → b ≡ 0 → else_by (block_at b) (branch_at b) ts (keyword_at keyword.Else ts) ≡ Err TooHigh
else_if_too_high b k i ts behind inside word free found e =
    else_if_whole b k i ts behind inside word free found ∙ ap (λ r. r >>= λ (x : BranchTree × List Terminal). Ok (ElseIf k x.0, x.1)) (branch_zero b i inside e)

pub else_if_fails : (b : ℕ) (k i : Span) (ts behind inside : List Terminal) (e : Stop) → Some (k, behind) ≡ keyword_at keyword.Else ts → None ≡ mark_at operator.OpenBrace behind → need (keyword_at keyword.If behind) ≡ Ok (i, inside) → 0 < b → Fails e (branch_above (b - 1) i inside) → Fails e (else_by (block_at b) (branch_at b) ts (keyword_at keyword.Else ts))
else_if_fails b k i ts behind inside e word free found some failed =
    fails_along (branch_above (b - 1) i inside) (otherwise_at b ts) e (λ f g. else_if_whole b k i ts behind inside word free found ∙ ap (λ r. r >>= λ (x : BranchTree × List Terminal). Ok (ElseIf k x.0, x.1)) (branch_more b i inside some ∙ g)) failed

pub else_if_is : (b : ℕ) (k i : Span) (ts behind inside after : List Terminal) (t : BranchTree) → Some (k, behind) ≡ keyword_at keyword.Else ts → None ≡ mark_at operator.OpenBrace behind → need (keyword_at keyword.If behind) ≡ Ok (i, inside) → 0 < b → branch_above (b - 1) i inside ≡ Ok (t, after) → else_by (block_at b) (branch_at b) ts (keyword_at keyword.Else ts) ≡ Ok (ElseIf k t, after)
else_if_is b k i ts behind inside after t word free found some e =
    else_if_whole b k i ts behind inside word free found ∙ ap (λ r. r >>= λ (x : BranchTree × List Terminal). Ok (ElseIf k x.0, x.1)) (branch_more b i inside some ∙ e)

abbrev branched : Span → IfTree → (Braced × ElseTree) × List Terminal → Reading BranchTree
branched k head x = Ok (Branch k head x.0.0.0 x.0.0.1 x.0.0.2 x.0.1, x.1)

branch_whole : (b : ℕ) (k : Span) (ts inside : List Terminal) (head : IfTree) → if_at b ts ≡ Ok (head, inside) → branch_above b k ts ≡ (branches_above b inside >>= branched k head)
branch_whole b k ts inside head header =
    ap (λ r. r >>= λ (head : IfTree × List Terminal). (braced (block_at b) head.1 >>= λ x. (otherwise_at b x.1 >>= made head.0 x.0))) header ∙ by_block (braced (block_at b) inside)
  where
    made : IfTree → Braced → ElseTree × List Terminal → Reading BranchTree
    made head x rest = Ok (Branch k head x.0 x.1 x.2 rest.0, rest.1)

    by_else : (x : Braced) (r : Reading ElseTree) → (r >>= made head x) ≡ (r >>= (λ (y : ElseTree × List Terminal). Ok ((x, y.0), y.1)) >>= branched k head)
    by_else x (Err e) = refl
    by_else x (Ok y) = refl

    by_block : (r : Reading Braced) → (r >>= λ x. (otherwise_at b x.1 >>= made head x.0)) ≡ (r >>= (λ (x : Braced × List Terminal). (otherwise_at b x.1 >>= λ y. Ok ((x.0, y.0), y.1))) >>= branched k head)
    by_block (Err e) = refl
    by_block (Ok x) = by_else x.0 (otherwise_at b x.1)

pub branch_is : (b : ℕ) (k : Span) (ts inside after : List Terminal) (head : IfTree) (first last : Span) (ls : Lines) (other : ElseTree) → if_at b ts ≡ Ok (head, inside) → branches_above b inside ≡ Ok (((first, ls, last), other), after) → branch_above b k ts ≡ Ok (Branch k head first ls last other, after)
branch_is b k ts inside after head first last ls other header found =
    branch_whole b k ts inside head header ∙ ap (λ r. r >>= branched k head) found

pub branch_fails : (b : ℕ) (k : Span) (ts inside : List Terminal) (head : IfTree) (e : Stop) → if_at b ts ≡ Ok (head, inside) → Fails e (branches_above b inside) → Fails e (branch_above b k ts)
branch_fails b k ts inside head e header failed =
    fails_along (branches_above b inside) (branch_above b k ts) e (λ f g. branch_whole b k ts inside head header ∙ ap (λ r. r >>= branched k head) g) failed
