-- Statements with marks, and statements that leave out semicolons, say the same.
use Rattle.std.proofs.Common.{◌≡◌, Bool, true, false, List, ◌∷◌, ◌++◌, Option, Some, None, refl, sym, ◌∙◌}
use Rattle.go_tree_nodes.specs.text_core.declared.span.Span.{Span}
use Rattle.go_tree_nodes.specs.token_core.declared.kind.Keyword.TheVariants as keyword
use Rattle.go_tree_nodes.specs.token_core.declared.kind.Operator.TheVariants as operator
use Rattle.go_tree_nodes.specs.Terminals.{Terminal}
use Rattle.go_tree_nodes.specs.Trees.{ExprTree, SimpleTree, Alone, Step, Assign, Update, Define, IfTree, ForTree, Forever, While, Clauses, StmtTree, BranchTree, ElseTree, Lines, Empty, Declare, Simple, Return, Break, Continue, Block, If, For, Branch, NoElse, ElseBlock, ElseIf, NoLines, Line}
use Rattle.go_tree_nodes.specs.Spelling.{mark, word, spell_idents, spell_some, spell_simple, spell_some_simple, spell_some_expr, spell_init, spell_if, spell_for, spell_stmt, spell_branch, spell_else, spell_lines}
use Rattle.go_tree_nodes.specs.Rules.{IsKept, IsPost, IsLastLine, MayEnd, Wf_simple, Wf_some_simple, Wf_some_expr, Wf_init, Wf_if, Wf_for, Wf_stmt, Wf_branch, Wf_else, Wf_lines}
use Rattle.go_tree_nodes.specs.Heights.{simple_height, some_simple_height, some_expr_height, init_height, if_height, for_height, stmt_height, branch_height, else_height, lines_height}
use Rattle.go_parse_core.specs.LeftOut.{Symbol, Loose, sure, Closes, symbols_some, symbols_expr, symbols_exprs, symbols_simple, symbols_init, symbols_if, symbols_for, symbols_end, symbols_stmt, symbols_branch, symbols_else, symbols_lines, Fills_some, Fills_expr, Fills_simple, Fills_init, Fills_if, Fills_for, Fills_stmt, Fills_branch, Fills_else, Fills_lines}
use Rattle.go_tree_nodes.specs.Counts.{is_empty}
use Rattle.go_parse_core.proofs.LeftOutParts.{Any, NoClose, Opens, opens_along, opens_not, Splits, nothing, sure_then, one_then, before, both, maps, Kept, loose, kept_then, weaken, Joins, join_nothing, join_before, join_both, join_sure, join_one, join_kept, filled, filled_fills, filled_kept, filled_full, join_loose, Good, Filled, AnyLike, higher, both_high, kept_like, in_braces, join_braces}
use Rattle.go_parse_core.proofs.LeftOutTypes.{idents_open}
use Rattle.go_parse_core.proofs.LeftOutExprs.{expr_opens, exprs_open, expr_split, exprs_split, some_exprs_split, expr_fill, exprs_fill, some_exprs_fill}
use Rattle.go_parse_core.proofs.LeftOutDecls.{value_split, value_fill}

-- a statement, with the semicolon of an empty one, begins with no closing mark

simple_opens : (header : Bool) (s : SimpleTree) → Wf_simple header s → Opens (symbols_simple s)
simple_opens header (Alone t) whole = expr_opens header t whole
simple_opens header (Step t op span) whole = opens_along (symbols_expr t) _ (expr_opens header t whole.1)
simple_opens header (Assign ts span es) whole = opens_along (symbols_exprs ts) _ (exprs_open header ts whole.0)
simple_opens header (Update t op span e) whole = opens_along (symbols_expr t) _ (expr_opens header t whole.1)
simple_opens header (Define xs span es) whole = opens_along (sure (spell_idents xs)) _ (idents_open xs)

line_opens : (c : StmtTree) → Wf_stmt c → (s : Span) (more : List Symbol) → Opens (symbols_stmt c ++ (symbols_end (is_empty c) (Some s) ++ more))
line_opens Empty whole s more = λ c. c
line_opens (Declare v) whole s more = λ c. c
line_opens (Simple x) whole s more = opens_along (symbols_simple x) _ (simple_opens false x whole)
line_opens (Return r es) whole s more = λ c. c
line_opens (Break r) whole s more = λ c. c
line_opens (Continue r) whole s more = λ c. c
line_opens (Block a ls z) whole s more = λ c. c
line_opens (If (Branch k head a ls z otherwise)) whole s more = λ c. c
line_opens (For k head a ls z) whole s more = λ c. c

lines_last : (ls : Lines) → Wf_lines ls → Fills_lines ls ls → (more : List Symbol) → Closes (symbols_lines ls ++ more) → IsLastLine ls
lines_last NoLines whole full more h = tt
lines_last (Line c None rest) whole full more h = absurd full.1
lines_last (Line c (Some s) rest) whole full more h =
    opens_not (symbols_stmt c ++ (symbols_end (is_empty c) (Some s) ++ symbols_lines rest)) more (line_opens c whole.0 s (symbols_lines rest)) h

lines_end : (ls : Lines) → IsLastLine ls → (more : List Symbol) → Closes more → Closes (symbols_lines ls ++ more)
lines_end NoLines last more h = h
lines_end (Line c s rest) last more h = absurd last

-- no closing mark follows a semicolon of a header

clauses_open : (t : Option ExprTree) → Wf_some_expr t → (s : Terminal) (more : List Symbol) → Opens (symbols_some symbols_expr t ++ (Loose s ∷ more))
clauses_open None whole s more = tt
clauses_open (Some t) whole s more = opens_along (symbols_expr t) _ (expr_opens true t whole)

post_not : (s : Option SimpleTree) → Wf_some_simple s → (more : List Symbol) → NoClose more → Closes (symbols_some symbols_simple s ++ more) → ⊥
post_not None whole more ok c = ok c
post_not (Some s) whole more ok c = opens_not (symbols_simple s) more (simple_opens true s whole) c

-- an empty statement keeps its semicolon

may_end : (c : StmtTree) (rest : Lines) → is_empty c ≡ false → IsLastLine rest → MayEnd c rest
may_end Empty rest e last = cc
may_end (Declare v) rest e last = last
may_end (Simple s) rest e last = last
may_end (Return s es) rest e last = last
may_end (Break s) rest e last = last
may_end (Continue s) rest e last = last
may_end (Block a ls z) rest e last = last
may_end (If b) rest e last = last
may_end (For k head a ls z) rest e last = last

ends : (c : StmtTree) (rest : Lines) → MayEnd c rest → (is_empty c ≡ false) × IsLastLine rest
ends Empty rest h = absurd h
ends (Declare v) rest h = (refl, h)
ends (Simple s) rest h = (refl, h)
ends (Return s es) rest h = (refl, h)
ends (Break s) rest h = (refl, h)
ends (Continue s) rest h = (refl, h)
ends (Block a ls z) rest h = (refl, h)
ends (If b) rest h = (refl, h)
ends (For k head a ls z) rest h = (refl, h)

-- what the rules ask of the outside of a statement

abbrev SimplesLike : SimpleTree → SimpleTree → Type 0
SimplesLike a b = IsPost (Some a) → IsPost (Some b)

abbrev SomeSimplesLike : Option SimpleTree → Option SimpleTree → Type 0
SomeSimplesLike a b = IsPost a → IsPost b

abbrev StmtsLike : StmtTree → StmtTree → Type 0
StmtsLike a b = is_empty a ≡ is_empty b

abbrev LinesLike : Lines → Lines → Type 0
LinesLike a b = IsLastLine a → IsLastLine b

-- from whole statements to marked ones

abbrev GoodSimple : Bool → SimpleTree → SimpleTree → Type 0
GoodSimple header = Good Fills_simple (Wf_simple header) simple_height SimplesLike

abbrev GoodSomeSimple : Option SimpleTree → Option SimpleTree → Type 0
GoodSomeSimple = Good (Fills_some Fills_simple) Wf_some_simple some_simple_height SomeSimplesLike

abbrev GoodSomeExpr : Option ExprTree → Option ExprTree → Type 0
GoodSomeExpr = Good (Fills_some Fills_expr) Wf_some_expr some_expr_height AnyLike

abbrev GoodInit : Option (Option SimpleTree × Span) → Option (Option SimpleTree × Span) → Type 0
GoodInit = Good (Fills_some Fills_init) Wf_init init_height AnyLike

abbrev GoodIf : IfTree → IfTree → Type 0
GoodIf = Good Fills_if Wf_if if_height AnyLike

abbrev GoodFor : ForTree → ForTree → Type 0
GoodFor = Good Fills_for Wf_for for_height AnyLike

abbrev if_tree : Option (Option SimpleTree × Span) → ExprTree → IfTree
if_tree i t = record { init = i; condition = t }

simple_split : (header : Bool) (s : SimpleTree) → Wf_simple header s → Fills_simple s s → Splits Any (symbols_simple s) SimpleTree spell_simple (GoodSimple header s)
simple_split header (Alone t) whole full =
    maps (expr_split header t whole full) (λ x. Alone x) (λ x. refl) (λ x g. record { fills = g.fills; wf = g.wf; high = higher g.high; like = λ y. y })
simple_split header (Step t op span) whole full =
    maps (both (expr_split header t whole.1 full.0) (one_then (mark op span) nothing)) (λ x. Step x.0 op span) (λ x. refl)
    (λ x g. record { fills = (g.0.fills, refl, refl); wf = (whole.0, g.0.wf); high = higher g.0.high; like = λ y. y })
simple_split header (Assign ts span es) whole full =
    maps (both (exprs_split header ts whole.0 full.0) (one_then (mark operator.Assign span) (exprs_split header es whole.1 full.2)))
    (λ x. Assign x.0 span x.1) (λ x. refl)
    (λ x g. record { fills = (g.0.fills, refl, g.1.fills); wf = (g.0.wf, g.1.wf); high = higher (both_high g.0.high g.1.high); like = λ y. y })
simple_split header (Update t op span e) whole full =
    maps (both (expr_split header t whole.1 full.0) (one_then (mark op span) (expr_split header e whole.2 full.3))) (λ x. Update x.0 op span x.1) (λ x. refl)
    (λ x g. record { fills = (g.0.fills, refl, refl, g.1.fills); wf = (whole.0, g.0.wf, g.1.wf); high = higher (both_high g.0.high g.1.high); like = λ y. y })
simple_split header (Define xs span es) whole full =
    maps (sure_then (spell_idents xs) (one_then (mark operator.Define span) (exprs_split header es whole full.2))) (λ x. Define xs span x) (λ x. refl)
    (λ x g. record { fills = (refl, refl, g.fills); wf = g.wf; high = higher g.high; like = λ y. y })

some_simple_split : (s : Option SimpleTree) → Wf_some_simple s → Fills_some Fills_simple s s → Splits Any (symbols_some symbols_simple s) (Option SimpleTree) spell_some_simple (GoodSomeSimple s)
some_simple_split None whole full = maps nothing (λ x. None) (λ x. refl) (λ x g. record { fills = tt; wf = tt; high = refl; like = λ y. y })
some_simple_split (Some s) whole full = maps (simple_split true s whole full) (λ x. Some x) (λ x. refl) (λ x g. record { fills = g.fills; wf = g.wf; high = g.high; like = g.like })

some_expr_split : (t : Option ExprTree) → Wf_some_expr t → Fills_some Fills_expr t t → Splits Any (symbols_some symbols_expr t) (Option ExprTree) spell_some_expr (GoodSomeExpr t)
some_expr_split None whole full = maps nothing (λ x. None) (λ x. refl) (λ x g. record { fills = tt; wf = tt; high = refl; like = tt })
some_expr_split (Some t) whole full = maps (expr_split true t whole full) (λ x. Some x) (λ x. refl) (λ x g. record { fills = g.fills; wf = g.wf; high = g.high; like = tt })

init_split : (i : Option (Option SimpleTree × Span)) → Wf_init i → Fills_some Fills_init i i → Splits NoClose (symbols_init i) (Option (Option SimpleTree × Span)) spell_init (GoodInit i)
init_split None whole full = maps nothing (λ x. None) (λ x. refl) (λ x g. record { fills = tt; wf = tt; high = refl; like = tt })
init_split (Some (s, r)) whole full =
    maps (both (some_simple_split s whole full.0) (kept_then (mark operator.Semicolon r) (λ more ok c. ok c) nothing)) (λ x. Some (x.0, r)) (λ x. refl)
    (λ x g. record { fills = (g.0.fills, refl); wf = g.0.wf; high = g.0.high; like = tt })

if_split : (h : IfTree) → Wf_if h → Fills_if h h → Splits Any (symbols_if h) IfTree spell_if (GoodIf h)
if_split h whole full =
    maps (before (init_split h.init whole.0 full.0) (expr_split true h.condition whole.1 full.1) (λ more ok c. opens_not (symbols_expr h.condition) more (expr_opens true h.condition whole.1) c))
    (λ x. if_tree x.0 x.1) (λ x. refl)
    (λ x g. record { fills = (g.0.fills, g.1.fills); wf = (g.0.wf, g.1.wf); high = both_high g.0.high g.1.high; like = tt })

for_split : (h : ForTree) → Wf_for h → Fills_for h h → Splits NoClose (symbols_for h) ForTree spell_for (GoodFor h)
for_split Forever whole full = maps nothing (λ x. Forever) (λ x. refl) (λ x g. record { fills = tt; wf = tt; high = refl; like = tt })
for_split (While t) whole full =
    maps (weaken (expr_split true t whole full)) (λ x. While x) (λ x. refl) (λ x g. record { fills = g.fills; wf = g.wf; high = g.high; like = tt })
for_split (Clauses init a t b post) whole full =
    let second = mark operator.Semicolon b in
    maps (both (some_simple_split init whole.0 full.0) (kept_then (mark operator.Semicolon a) (λ more ok c. opens_not (symbols_some symbols_expr t ++ (Loose second ∷ symbols_some symbols_simple post)) more (clauses_open t whole.1 second (symbols_some symbols_simple post)) c)
    (both (some_expr_split t whole.1 full.2) (kept_then second (post_not post whole.2) (weaken (some_simple_split post whole.2 full.4)))))) (λ x. Clauses x.0 a x.1.0 b x.1.1) (λ x. refl)
    (λ x g. record { fills = (g.0.fills, refl, g.1.0.fills, refl, g.1.1.fills); wf = (g.0.wf, g.1.0.wf, g.1.1.wf, g.1.1.like whole.3); high = both_high g.0.high (both_high g.1.0.high g.1.1.high); like = tt })

abbrev GoodStmt : StmtTree → StmtTree → Type 0
GoodStmt = Good Fills_stmt Wf_stmt stmt_height StmtsLike

abbrev GoodBranch : BranchTree → BranchTree → Type 0
GoodBranch = Good Fills_branch Wf_branch branch_height AnyLike

abbrev GoodElse : ElseTree → ElseTree → Type 0
GoodElse = Good Fills_else Wf_else else_height AnyLike

abbrev pub GoodLines : Lines → Lines → Type 0
GoodLines = Good Fills_lines Wf_lines lines_height LinesLike

-- the statement whose emptiness is asked for is none, and it is the last
abbrev IsEnd : Bool → Lines → Type 0
IsEnd empty rest = (empty ≡ false) × IsLastLine rest

end_split : (empty : Bool) (s : Span) (rest : Lines) → Wf_lines rest → Fills_lines rest rest → Splits Closes (symbols_lines rest) Lines spell_lines (GoodLines rest) → Splits Closes (symbols_end empty (Some s) ++ symbols_lines rest) (Option Span × Lines) (λ x. spell_some operator.Semicolon x.0 ++ spell_lines x.1) (Kept s (IsEnd empty) (GoodLines rest))
end_split true s rest whole full p = maps (one_then (mark operator.Semicolon s) p) (λ x. (Some s, x)) (λ x. refl) (λ x g. record { fills = refl; kept = tt; rest = g })
end_split false s rest whole full p = loose s (IsLastLine rest) (IsEnd false) (lines_last rest whole full) (λ x g last. (refl, g.like last)) p

mutual
  stmt_split : (c : StmtTree) → Wf_stmt c → Fills_stmt c c → Splits Any (symbols_stmt c) StmtTree spell_stmt (GoodStmt c)
  stmt_split Empty whole full = maps nothing (λ x. Empty) (λ x. refl) (λ x g. record { fills = tt; wf = tt; high = refl; like = refl })
  stmt_split (Declare v) whole full = maps (value_split v whole full) (λ x. Declare x) (λ x. refl) (λ x g. record { fills = g.fills; wf = g.wf; high = g.high; like = refl })
  stmt_split (Simple s) whole full = maps (simple_split false s whole full) (λ x. Simple x) (λ x. refl) (λ x g. record { fills = g.fills; wf = g.wf; high = g.high; like = refl })
  stmt_split (Return s es) whole full =
      maps (one_then (word keyword.Return s) (some_exprs_split es whole full.1)) (λ x. Return s x) (λ x. refl) (λ x g. record { fills = (refl, g.fills); wf = g.wf; high = higher g.high; like = refl })
  stmt_split (Break s) whole full = maps (one_then (word keyword.Break s) nothing) (λ x. Break s) (λ x. refl) (λ x g. record { fills = refl; wf = tt; high = refl; like = refl })
  stmt_split (Continue s) whole full = maps (one_then (word keyword.Continue s) nothing) (λ x. Continue s) (λ x. refl) (λ x g. record { fills = refl; wf = tt; high = refl; like = refl })
  stmt_split (Block first ls last) whole full =
      maps (in_braces first last (lines_split ls whole full.1) (λ more. tt))
      (λ x. Block first x last) (λ x. refl)
      (λ x g. record { fills = (refl, g.fills, refl); wf = g.wf; high = higher g.high; like = refl })
  stmt_split (If b) whole full = maps (branch_split b whole full) (λ x. If x) (λ x. refl) (λ x g. record { fills = g.fills; wf = g.wf; high = g.high; like = refl })
  stmt_split (For k head first ls last) whole full =
      maps (one_then (word keyword.For k) (before (for_split head whole.0 full.1) (in_braces first last (lines_split ls whole.1 full.3) (λ more. tt)) (λ more ok c. c)))
      (λ x. For k x.0 first x.1 last) (λ x. refl)
      (λ x g. record { fills = (refl, g.0.fills, refl, g.1.fills, refl); wf = (g.0.wf, g.1.wf); high = higher (both_high g.0.high (higher g.1.high)); like = refl })

  branch_split : (b : BranchTree) → Wf_branch b → Fills_branch b b → Splits Any (symbols_branch b) BranchTree spell_branch (GoodBranch b)
  branch_split (Branch k head first ls last otherwise) whole full =
      maps (one_then (word keyword.If k) (both (if_split head whole.0 full.1) (one_then (mark operator.OpenBrace first) (before (lines_split ls whole.1 full.3) (one_then (mark operator.CloseBrace last) (else_split otherwise whole.2 full.5)) (λ more ok. tt)))))
      (λ x. Branch k x.0 first x.1.0 last x.1.1) (λ x. refl)
      (λ x g. record { fills = (refl, g.0.fills, refl, g.1.0.fills, refl, g.1.1.fills); wf = (g.0.wf, g.1.0.wf, g.1.1.wf); high = higher (both_high g.0.high (both_high (higher g.1.0.high) g.1.1.high)); like = tt })

  else_split : (e : ElseTree) → Wf_else e → Fills_else e e → Splits Any (symbols_else e) ElseTree spell_else (GoodElse e)
  else_split NoElse whole full = maps nothing (λ x. NoElse) (λ x. refl) (λ x g. record { fills = tt; wf = tt; high = refl; like = tt })
  else_split (ElseBlock k first ls last) whole full =
      maps (one_then (word keyword.Else k) (in_braces first last (lines_split ls whole full.2) (λ more. tt)))
      (λ x. ElseBlock k first x last) (λ x. refl)
      (λ x g. record { fills = (refl, refl, g.fills, refl); wf = g.wf; high = higher g.high; like = tt })
  else_split (ElseIf k b) whole full =
      maps (one_then (word keyword.Else k) (branch_split b whole full.1)) (λ x. ElseIf k x) (λ x. refl) (λ x g. record { fills = (refl, g.fills); wf = g.wf; high = g.high; like = tt })

  pub lines_split : (ls : Lines) → Wf_lines ls → Fills_lines ls ls → Splits Closes (symbols_lines ls) Lines spell_lines (GoodLines ls)
  lines_split NoLines whole full = maps nothing (λ x. NoLines) (λ x. refl) (λ x g. record { fills = tt; wf = tt; high = refl; like = λ y. y })
  lines_split (Line c None rest) whole full = absurd full.1
  lines_split (Line c (Some s) rest) whole full =
      maps (both (stmt_split c whole.0 full.0) (end_split (is_empty c) s rest whole.2 full.2 (lines_split rest whole.2 full.2))) (λ x. Line x.0 x.1.0 x.1.1) (λ x. refl)
      (λ x g. record { fills = (g.0.fills, g.1.fills, g.1.rest.fills); wf = (g.0.wf, kept_like x.1.0 (λ last. may_end x.0 x.1.1 (sym g.0.like ∙ last.0) last.1) g.1.kept, g.1.rest.wf); high = both_high g.0.high g.1.rest.high; like = λ y. y })

-- from marked statements to whole ones

abbrev FilledSimple : Bool → SimpleTree → Type 0
FilledSimple header = Filled Any symbols_simple spell_simple Fills_simple (Wf_simple header) simple_height SimplesLike

abbrev FilledSomeSimple : Option SimpleTree → Type 0
FilledSomeSimple = Filled Any (symbols_some symbols_simple) spell_some_simple (Fills_some Fills_simple) (Wf_some_simple) some_simple_height SomeSimplesLike

abbrev FilledSomeExpr : Option ExprTree → Type 0
FilledSomeExpr = Filled Any (symbols_some symbols_expr) spell_some_expr (Fills_some Fills_expr) (Wf_some_expr) some_expr_height AnyLike

abbrev FilledInit : Option (Option SimpleTree × Span) → Type 0
FilledInit = Filled Any symbols_init spell_init (Fills_some Fills_init) Wf_init init_height AnyLike

abbrev FilledIf : IfTree → Type 0
FilledIf = Filled Any symbols_if spell_if Fills_if Wf_if if_height AnyLike

abbrev FilledFor : ForTree → Type 0
FilledFor = Filled Any symbols_for spell_for Fills_for Wf_for for_height AnyLike

simple_fill : (header : Bool) (s : SimpleTree) → Wf_simple header s → FilledSimple header s
simple_fill header (Alone t) wf =
    let q = expr_fill header t wf in
    record { tree = Alone q.tree; fills = q.fills; full = q.full; wf = q.wf; high = higher q.high; like = λ y. y; joins = q.joins }
simple_fill header (Step t op span) wf =
    let q = expr_fill header t wf.1 in
    record {
      tree = Step q.tree op span;
      fills = (q.fills, refl, refl);
      full = (q.full, refl, refl);
      wf = (wf.0, q.wf);
      high = higher q.high;
      like = λ y. y;
      joins = join_both q.joins (join_one (mark op span) join_nothing);
    }
simple_fill header (Assign ts span es) wf =
    let q = exprs_fill header ts wf.0 in
    let r = exprs_fill header es wf.1 in
    record {
      tree = Assign q.tree span r.tree;
      fills = (q.fills, refl, r.fills);
      full = (q.full, refl, r.full);
      wf = (q.wf, r.wf);
      high = higher (both_high q.high r.high);
      like = λ y. y;
      joins = join_both q.joins (join_one (mark operator.Assign span) r.joins);
    }
simple_fill header (Update t op span e) wf =
    let q = expr_fill header t wf.1 in
    let r = expr_fill header e wf.2 in
    record {
      tree = Update q.tree op span r.tree;
      fills = (q.fills, refl, refl, r.fills);
      full = (q.full, refl, refl, r.full);
      wf = (wf.0, q.wf, r.wf);
      high = higher (both_high q.high r.high);
      like = λ y. y;
      joins = join_both q.joins (join_one (mark op span) r.joins);
    }
simple_fill header (Define xs span es) wf =
    let q = exprs_fill header es wf in
    record {
      tree = Define xs span q.tree;
      fills = (refl, refl, q.fills);
      full = (refl, refl, q.full);
      wf = q.wf;
      high = higher q.high;
      like = λ y. y;
      joins = join_sure (spell_idents xs) (join_one (mark operator.Define span) q.joins);
    }

some_simple_fill : (s : Option SimpleTree) → Wf_some_simple s → FilledSomeSimple s
some_simple_fill None wf = record { tree = None; fills = tt; full = tt; wf = tt; high = refl; like = λ y. y; joins = join_nothing }
some_simple_fill (Some s) wf =
    let q = simple_fill true s wf in
    record { tree = Some q.tree; fills = q.fills; full = q.full; wf = q.wf; high = q.high; like = q.like; joins = q.joins }

some_expr_fill : (t : Option ExprTree) → Wf_some_expr t → FilledSomeExpr t
some_expr_fill None wf = record { tree = None; fills = tt; full = tt; wf = tt; high = refl; like = tt; joins = join_nothing }
some_expr_fill (Some t) wf =
    let q = expr_fill true t wf in
    record { tree = Some q.tree; fills = q.fills; full = q.full; wf = q.wf; high = q.high; like = tt; joins = q.joins }

init_fill : (i : Option (Option SimpleTree × Span)) → Wf_init i → FilledInit i
init_fill None wf = record { tree = None; fills = tt; full = tt; wf = tt; high = refl; like = tt; joins = join_nothing }
init_fill (Some (s, r)) wf =
    let q = some_simple_fill s wf in
    record {
      tree = Some (q.tree, r);
      fills = (q.fills, refl);
      full = (q.full, refl);
      wf = q.wf;
      high = q.high;
      like = tt;
      joins = join_both q.joins (join_kept (mark operator.Semicolon r) join_nothing);
    }

if_fill : (h : IfTree) → Wf_if h → FilledIf h
if_fill h wf =
    let q = init_fill h.init wf.0 in
    let r = expr_fill true h.condition wf.1 in
    record {
      tree = if_tree q.tree r.tree;
      fills = (q.fills, r.fills);
      full = (q.full, r.full);
      wf = (q.wf, r.wf);
      high = both_high q.high r.high;
      like = tt;
      joins = join_both q.joins r.joins;
    }

for_fill : (h : ForTree) → Wf_for h → FilledFor h
for_fill Forever wf = record { tree = Forever; fills = tt; full = tt; wf = tt; high = refl; like = tt; joins = join_nothing }
for_fill (While t) wf =
    let q = expr_fill true t wf in
    record { tree = While q.tree; fills = q.fills; full = q.full; wf = q.wf; high = q.high; like = tt; joins = q.joins }
for_fill (Clauses init a t b post) wf =
    let i = some_simple_fill init wf.0 in
    let q = some_expr_fill t wf.1 in
    let p = some_simple_fill post wf.2 in
    record {
      tree = Clauses i.tree a q.tree b p.tree;
      fills = (i.fills, refl, q.fills, refl, p.fills);
      full = (i.full, refl, q.full, refl, p.full);
      wf = (i.wf, q.wf, p.wf, p.like wf.3);
      high = both_high i.high (both_high q.high p.high);
      like = tt;
      joins = join_both i.joins (join_kept (mark operator.Semicolon a) (join_both q.joins (join_kept (mark operator.Semicolon b) p.joins)));
    }

abbrev FilledStmt : StmtTree → Type 0
FilledStmt = Filled Any symbols_stmt spell_stmt Fills_stmt Wf_stmt stmt_height StmtsLike

abbrev FilledBranch : BranchTree → Type 0
FilledBranch = Filled Any symbols_branch spell_branch Fills_branch Wf_branch branch_height AnyLike

abbrev FilledElse : ElseTree → Type 0
FilledElse = Filled Any symbols_else spell_else Fills_else Wf_else else_height AnyLike

abbrev pub FilledLines : Lines → Type 0
FilledLines = Filled Closes symbols_lines spell_lines Fills_lines Wf_lines lines_height LinesLike

end_joins : (empty : Bool) (s : Option Span) (rest : Lines) (q : FilledLines rest) → IsKept s (IsEnd empty rest) → Joins Closes (symbols_end empty (filled s) ++ symbols_lines q.tree) (spell_some operator.Semicolon s ++ spell_lines rest)
end_joins true (Some s) rest q kept = join_one (mark operator.Semicolon s) q.joins
end_joins true None rest q kept = absurd (not_false kept.0)
  where
    not_false : true ≡ false → ⊥
    not_false e = cc
end_joins false s rest q kept = join_loose s (IsEnd false rest) kept (λ last. lines_end q.tree (q.like last.1)) q.joins

mutual
  stmt_fill : (c : StmtTree) → Wf_stmt c → FilledStmt c
  stmt_fill Empty wf = record { tree = Empty; fills = tt; full = tt; wf = tt; high = refl; like = refl; joins = join_nothing }
  stmt_fill (Declare v) wf =
      let q = value_fill v wf in
      record { tree = Declare q.tree; fills = q.fills; full = q.full; wf = q.wf; high = q.high; like = refl; joins = q.joins }
  stmt_fill (Simple s) wf =
      let q = simple_fill false s wf in
      record { tree = Simple q.tree; fills = q.fills; full = q.full; wf = q.wf; high = q.high; like = refl; joins = q.joins }
  stmt_fill (Return s es) wf =
      let q = some_exprs_fill es wf in
      record { tree = Return s q.tree; fills = (refl, q.fills); full = (refl, q.full); wf = q.wf; high = higher q.high; like = refl; joins = join_one (word keyword.Return s) q.joins }
  stmt_fill (Break s) wf = record { tree = Break s; fills = refl; full = refl; wf = tt; high = refl; like = refl; joins = join_one (word keyword.Break s) join_nothing }
  stmt_fill (Continue s) wf = record { tree = Continue s; fills = refl; full = refl; wf = tt; high = refl; like = refl; joins = join_one (word keyword.Continue s) join_nothing }
  stmt_fill (Block first ls last) wf =
      let q = lines_fill ls wf in
      record {
        tree = Block first q.tree last;
        fills = (refl, q.fills, refl);
        full = (refl, q.full, refl);
        wf = q.wf;
        high = higher q.high;
        like = refl;
        joins = join_braces first last q.joins (λ more. tt);
      }
  stmt_fill (If b) wf =
      let q = branch_fill b wf in
      record { tree = If q.tree; fills = q.fills; full = q.full; wf = q.wf; high = q.high; like = refl; joins = q.joins }
  stmt_fill (For k head first ls last) wf =
      let h = for_fill head wf.0 in
      let q = lines_fill ls wf.1 in
      record {
        tree = For k h.tree first q.tree last;
        fills = (refl, h.fills, refl, q.fills, refl);
        full = (refl, h.full, refl, q.full, refl);
        wf = (h.wf, q.wf);
        high = higher (both_high h.high (higher q.high));
        like = refl;
        joins = join_one (word keyword.For k) (join_both h.joins (join_braces first last q.joins (λ more. tt)));
      }

  branch_fill : (b : BranchTree) → Wf_branch b → FilledBranch b
  branch_fill (Branch k head first ls last otherwise) wf =
      let h = if_fill head wf.0 in
      let q = lines_fill ls wf.1 in
      let e = else_fill otherwise wf.2 in
      record {
        tree = Branch k h.tree first q.tree last e.tree;
        fills = (refl, h.fills, refl, q.fills, refl, e.fills);
        full = (refl, h.full, refl, q.full, refl, e.full);
        wf = (h.wf, q.wf, e.wf);
        high = higher (both_high h.high (both_high (higher q.high) e.high));
        like = tt;
        joins = join_one (word keyword.If k) (join_both h.joins (join_one (mark operator.OpenBrace first) (join_before q.joins (join_one (mark operator.CloseBrace last) e.joins) (λ more ok. tt))));
      }

  else_fill : (e : ElseTree) → Wf_else e → FilledElse e
  else_fill NoElse wf = record { tree = NoElse; fills = tt; full = tt; wf = tt; high = refl; like = tt; joins = join_nothing }
  else_fill (ElseBlock k first ls last) wf =
      let q = lines_fill ls wf in
      record {
        tree = ElseBlock k first q.tree last;
        fills = (refl, refl, q.fills, refl);
        full = (refl, refl, q.full, refl);
        wf = q.wf;
        high = higher q.high;
        like = tt;
        joins = join_one (word keyword.Else k) (join_braces first last q.joins (λ more. tt));
      }
  else_fill (ElseIf k b) wf =
      let q = branch_fill b wf in
      record { tree = ElseIf k q.tree; fills = (refl, q.fills); full = (refl, q.full); wf = q.wf; high = q.high; like = tt; joins = join_one (word keyword.Else k) q.joins }

  pub lines_fill : (ls : Lines) → Wf_lines ls → FilledLines ls
  lines_fill NoLines wf = record { tree = NoLines; fills = tt; full = tt; wf = tt; high = refl; like = λ y. y; joins = join_nothing }
  lines_fill (Line c s rest) wf =
      let q = stmt_fill c wf.0 in
      let r = lines_fill rest wf.2 in
      let kept = kept_like s (λ (h : MayEnd c rest). (sym q.like ∙ (ends c rest h).0, (ends c rest h).1)) wf.1 in
      record {
        tree = Line q.tree (filled s) r.tree;
        fills = (q.fills, filled_fills s, r.fills);
        full = (q.full, filled_full s, r.full);
        wf = (q.wf, filled_kept (MayEnd q.tree r.tree) s, r.wf);
        high = both_high q.high r.high;
        like = λ y. y;
        joins = join_both q.joins (end_joins (is_empty q.tree) s rest r kept);
      }
