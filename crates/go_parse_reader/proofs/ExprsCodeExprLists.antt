-- What reading expressions with commas between them gives from the middle on.
use Rattle.std.proofs.Common.{◌≡◌, ℕ, max, Bool, zero, suc, ◌-◌, ◌<◌, List, [], ◌∷◌, ◌++◌, length, Some, None, Ok, Err, refl, sym, ap, ◌∙◌, arith, length-append}
use Rattle.go_tree_nodes.specs.text_core.declared.span.Span.{Span}
use Rattle.go_tree_nodes.specs.token_core.declared.kind.Operator.TheVariants as operator
use Rattle.go_tree_nodes.specs.declared.exprs.Expr.{Expr}
use Rattle.go_tree_nodes.specs.declared.exprs.NextExpr.{NextExpr}
use Rattle.go_tree_nodes.specs.Terminals.{Terminal}
use Rattle.go_tree_nodes.specs.Trees.{ExprTree, Separated, One, Then}
use Rattle.go_tree_nodes.specs.Spelling.{spell}
use Rattle.go_tree_nodes.specs.Heights.{height, exprs_height}
use Rattle.go_tree_nodes.specs.Shapes.{shape, exprs_from}
use Rattle.go_parse_reader.specs.declared.types.stop.Stop.{Stop}
use Rattle.go_parse_reader.specs.types.mirrors.Giving.{Fails}
use Rattle.go_parse_reader.specs.types.mirrors.Marks.{Stuck, ◌>>=◌, Reading, mark_at}
use Rattle.go_parse_reader.specs.exprs.mirrors.CodeShapes.{on_from}
use Rattle.go_parse_reader.specs.exprs.mirrors.ExprReading.{expr_at, exprs_by, exprs_go, exprs_at}
use Rattle.go_parse_reader.proofs.TypesMarks.{mark_shorter}
use Rattle.go_parse_reader.proofs.ExprsFronts.{spell_some}
use Rattle.go_parse_reader.proofs.ExprsExprSound.{expr_sound}
use Rattle.go_parse_reader.proofs.TypesCodeSeparated.{with_front, front_along, front_append, front_err}
use Rattle.go_parse_reader.proofs.TypesCodeSteps.{fails_along}

pub first_shorter : (b : ℕ) (header : Bool) (ts rest : List Terminal) (t : ExprTree) → expr_at b header 1 ts ≡ Ok (t, rest) → length rest < length ts
first_shorter b header ts rest t e =
    let s = (expr_sound b header ts (t, rest) e).spelled in
    omega (arith, ap length s, length-append (spell t) rest, spell_some t)

pub next_shorter : (b : ℕ) (header : Bool) (ts : List Terminal) (m : Span × List Terminal) (x : ExprTree × List Terminal) → Some m ≡ mark_at operator.Comma ts → expr_at b header 1 m.1 ≡ Ok x → length x.1 < length ts
next_shorter b header ts m x at e = omega (arith, mark_shorter operator.Comma ts m (sym at), first_shorter b header m.1 x.1 x.0 e)

abbrev pub Exprs : Type 0
Exprs = Reading (Separated ExprTree)

-- a comma, and the expression behind it
abbrev pub part : NextExpr → Span × ExprTree
part n = (n.comma, shape n.expr)

front_one : (e : Expr) (ns : List NextExpr) (ts : List Terminal) → with_front part (shape e) ns (λ t. Ok (One t, ts)) ≡ Ok (exprs_from e ns, ts)
front_one e [] ts = refl
front_one e (n ∷ ns) ts = ap (λ r. r >>= λ x. Ok (Then (shape e) n.comma x.0, x.1)) (front_one n.expr ns ts)

-- reading gives these expressions, and then what reading the rest gives
pub record ExprsSoFar (b : ℕ) (header : Bool) (whole : Exprs) (first : Expr) (more : List NextExpr) (rest : List Terminal) : Type 0 where
  pub turns : ℕ
  pub enough : length rest < turns
  pub same : whole ≡ with_front part (shape first) more (on_from b header turns rest)

go_is : (b k : ℕ) (header : Bool) (ts rest : List Terminal) (t : ExprTree) → 0 < k → expr_at b header 1 ts ≡ Ok (t, rest) → exprs_go (expr_at b header 1) k ts ≡ on_from b header (k - 1) rest t
unfolding exprs_go
go_is b zero header ts rest t some e = absurd (omega arith)
go_is b (suc k) header ts rest t some e =
    let less : k ≡ suc k - 1 = omega arith in
    ap (λ r. r >>= λ x. exprs_by (exprs_go (expr_at b header 1) k) x.0 x.1 (mark_at operator.Comma x.1)) e ∙ ap (λ m. on_from b header m rest t) less

go_err : (b k : ℕ) (header : Bool) (ts : List Terminal) (f : Stuck) → 0 < k → expr_at b header 1 ts ≡ Err f → exprs_go (expr_at b header 1) k ts ≡ Err f
unfolding exprs_go
go_err b zero header ts f some e = absurd (omega arith)
go_err b (suc k) header ts f some e = ap (λ r. r >>= λ x. exprs_by (exprs_go (expr_at b header 1) k) x.0 x.1 (mark_at operator.Comma x.1)) e

pub exprs_start : (b turns : ℕ) (header : Bool) (ts : List Terminal) (first : Expr) (more : List NextExpr) → more ≡ [] → length ts < turns → ExprsSoFar b header (on_from b header turns ts (shape first)) first more ts
exprs_start b turns header ts first more none some =
    record { turns = turns; enough = some; same = ap (λ ns. with_front part (shape first) ns (on_from b header turns ts)) (sym none) }

-- the first, and what reads on
pub exprs_first : (b : ℕ) (header : Bool) (ts rest : List Terminal) (t : ExprTree) → expr_at b header 1 ts ≡ Ok (t, rest) → exprs_at b header ts ≡ on_from b header (length ts) rest t
unfolding exprs_go
exprs_first b header ts rest t e = ap (λ r. r >>= λ x. exprs_by (exprs_go (expr_at b header 1) (length ts)) x.0 x.1 (mark_at operator.Comma x.1)) e

pub exprs_start_fails : (b : ℕ) (header : Bool) (ts : List Terminal) (e : Stop) → Fails e (expr_at b header 1 ts) → Fails e (exprs_at b header ts)
exprs_start_fails b header ts e failed = fails_along (expr_at b header 1 ts) (exprs_at b header ts) e (λ f g. go_err b (suc (length ts)) header ts f (omega arith) g) failed

pub exprs_more : (b : ℕ) (header : Bool) (whole : Exprs) (rest after : List Terminal) (first : Expr) (more new : List NextExpr) (m : Span × List Terminal) (n : NextExpr) → ExprsSoFar b header whole first more rest → Some m ≡ mark_at operator.Comma rest → expr_at b header 1 m.1 ≡ Ok (shape n.expr, after) → n.comma ≡ m.0 → new ≡ more ++ (n ∷ []) → ExprsSoFar b header whole first new after
exprs_more b header whole rest after first more new m n so at e comma is =
    let less = mark_shorter operator.Comma rest m (sym at) in
    let down = first_shorter b header m.1 after (shape n.expr) e in
    let k = so.turns in
    let some : 0 < k = omega (arith, so.enough) in
    let on : (t : ExprTree) → on_from b header k rest t ≡ (on_from b header (k - 1) after (shape n.expr) >>= λ x. Ok (Then t n.comma x.0, x.1)) =
    λ t. ap (exprs_by (exprs_go (expr_at b header 1) k) t rest) (sym at) ∙ ap (λ r. r >>= λ x. Ok (Then t m.0 x.0, x.1)) (go_is b k header m.1 after (shape n.expr) some e) ∙ ap (λ c. on_from b header (k - 1) after (shape n.expr) >>= λ x. Ok (Then t c x.0, x.1)) (sym comma) in
    record { turns = k - 1; enough = omega (arith, so.enough); same = so.same ∙ front_along part (shape first) more (on_from b header k rest) (λ t. on_from b header (k - 1) after (shape n.expr) >>= λ x. Ok (Then t n.comma x.0, x.1)) on ∙ sym (front_append part (shape first) more n (on_from b header (k - 1) after)) ∙ ap (λ ns. with_front part (shape first) ns (on_from b header (k - 1) after)) (sym is) }

pub exprs_fails : (b : ℕ) (header : Bool) (whole : Exprs) (rest : List Terminal) (first : Expr) (more : List NextExpr) (m : Span × List Terminal) (e : Stop) → ExprsSoFar b header whole first more rest → Some m ≡ mark_at operator.Comma rest → Fails e (expr_at b header 1 m.1) → Fails e whole
exprs_fails b header whole rest first more m e so at failed =
    fails_along (expr_at b header 1 m.1) whole e (λ f g. so.same ∙ front_along part (shape first) more (on_from b header so.turns rest) (λ t. Err f) (on f g) ∙ front_err part (shape first) more f) failed
  where
    on : (f : Stuck) → expr_at b header 1 m.1 ≡ Err f → (t : ExprTree) → on_from b header so.turns rest t ≡ Err f
    on f g t =
        let some : 0 < so.turns = omega (arith, so.enough) in
        ap (exprs_by (exprs_go (expr_at b header 1) so.turns) t rest) (sym at) ∙ ap (λ r. r >>= λ x. Ok (Then t m.0 x.0, x.1)) (go_err b so.turns header m.1 f some g)

pub exprs_end : (b : ℕ) (header : Bool) (whole : Exprs) (rest : List Terminal) (first : Expr) (more : List NextExpr) → ExprsSoFar b header whole first more rest → None ≡ mark_at operator.Comma rest → whole ≡ Ok (exprs_from first more, rest)
exprs_end b header whole rest first more so at =
    so.same ∙ front_along part (shape first) more (on_from b header so.turns rest) (λ t. Ok (One t, rest)) (λ t. ap (exprs_by (exprs_go (expr_at b header 1) so.turns) t rest) (sym at)) ∙ front_one first more rest

-- the height of one more
high_more : (first : Expr) (more : List NextExpr) (n : NextExpr) → exprs_height (exprs_from first (more ++ (n ∷ []))) ≡ max (exprs_height (exprs_from first more)) (height (shape n.expr))
high_more first [] n = refl
high_more first (m ∷ ms) n = omega (arith, high_more m.expr ms n)

pub high_after : (first : Expr) (more new : List NextExpr) (n : NextExpr) (before last after : ℕ) → exprs_height (exprs_from first more) ≡ max (height (shape first)) before → last ≡ height (shape n.expr) → new ≡ more ++ (n ∷ []) → after ≡ max before last → exprs_height (exprs_from first new) ≡ max (height (shape first)) after
high_after first more new n before last after high low is most =
    let all : exprs_height (exprs_from first (more ++ (n ∷ []))) ≡ max (height (shape first)) after = omega (arith, high, low, most, high_more first more n) in
    ap (λ ns. exprs_height (exprs_from first ns)) is ∙ all

pub high_none : (first : Expr) (more : List NextExpr) → more ≡ [] → exprs_height (exprs_from first more) ≡ max (height (shape first)) 0
high_none first more none =
    let all : exprs_height (exprs_from first []) ≡ max (height (shape first)) 0 = omega arith in
    ap (λ ns. exprs_height (exprs_from first ns)) none ∙ all
