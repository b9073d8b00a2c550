-- What reading the headers of `if` and `for` gives, in the words of the program.
use Rattle.std.proofs.Common.{◌≡◌, ℕ, Bool, true, false, List, Option, Some, None, Ok, Err, refl, sym, ap, ◌∙◌, cond}
use Rattle.go_tree_nodes.specs.text_core.declared.span.Span.{Span}
use Rattle.go_tree_nodes.specs.token_core.declared.kind.Operator.TheVariants as operator
use Rattle.go_tree_nodes.specs.Terminals.{Terminal}
use Rattle.go_tree_nodes.specs.Trees.{Separated, ExprTree, SimpleTree, IfTree, ForTree, Clauses}
use Rattle.go_parse_reader.specs.declared.types.stop.Stop.{Stop}
use Rattle.go_parse_reader.specs.types.mirrors.Giving.{Fails}
use Rattle.go_parse_reader.specs.types.mirrors.Marks.{Grammar, ◌>>=◌, Reading, MarkAhead, need, mark_at}
use Rattle.go_parse_reader.proofs.TypesCodeSteps.{fails_along}
use Rattle.go_parse_reader.specs.exprs.mirrors.ExprReading.{expr_at, exprs_at}
use Rattle.go_parse_core.specs.stmts.mirrors.StmtReading as reading
use Rattle.go_parse_core.specs.stmts.mirrors.StmtReading.{simple_from, if_init, if_from, if_first, if_at, is_define, post_first, for_post, for_second, for_test, for_clauses, for_from, for_begins, for_first, for_at}
use Rattle.go_parse_core.specs.stmts.mirrors.CodeShapes.{init_by, init_at, condition_at, test_by, test_at, as_post, post_by, post_at, clauses_at}

-- the parts of a `for`, put together
abbrev with_post : Option SimpleTree → Span → Option ExprTree → Span → Option SimpleTree × List Terminal → Reading ForTree
with_post init a test b p = Ok (Clauses init a test b p.0, p.1)

abbrev with_test : ℕ → Option SimpleTree → Span → (Option ExprTree × Span) × List Terminal → Reading ForTree
with_test n init a t = post_at n t.1 >>= with_post init a t.0.0 t.0.1

post_whole : (init : Option SimpleTree) (a : Span) (test : Option ExprTree) (b : Span) (x : SimpleTree × List Terminal) (c : Bool) → cond c (Err Grammar) (Ok (Clauses init a test b (Some x.0), x.1)) ≡ (cond c (Err Grammar) (Ok (Some x.0, x.1)) >>= with_post init a test b)
post_whole init a test b x true = refl
post_whole init a test b x false = refl

post_last : (init : Option SimpleTree) (a : Span) (test : Option ExprTree) (b : Span) (r : Reading SimpleTree) → (r >>= reading.post_by init a test b) ≡ (r >>= as_post >>= with_post init a test b)
post_last init a test b (Err e) = refl
post_last init a test b (Ok x) = post_whole init a test b x (is_define x.0)

post_is : (n : ℕ) (init : Option SimpleTree) (a : Span) (test : Option ExprTree) (b : Span) (ts : List Terminal) (m : MarkAhead) → for_post n init a test b ts m ≡ (post_by n ts m >>= with_post init a test b)
post_is n init a test b ts (Some brace) = refl
post_is n init a test b ts None = post_last init a test b (post_first n ts)

abbrev tested : ExprTree × List Terminal → Reading (Option ExprTree × Span)
tested t = need (mark_at operator.Semicolon t.1) >>= λ s. Ok ((Some t.0, s.0), s.1)

second_is : (n : ℕ) (init : Option SimpleTree) (a : Span) (t : ExprTree) (m : MarkAhead) → for_second n init a (Some t) m ≡ (need m >>= (λ (s : Span × List Terminal). Ok ((Some t, s.0), s.1)) >>= with_test n init a)
second_is n init a t None = refl
second_is n init a t (Some b) = post_is n init a (Some t) b.0 b.1 (mark_at operator.OpenBrace b.1)

from_test : (n : ℕ) (init : Option SimpleTree) (a : Span) (r : Reading ExprTree) → (r >>= λ t. for_second n init a (Some t.0) (mark_at operator.Semicolon t.1)) ≡ (r >>= tested >>= with_test n init a)
from_test n init a (Err e) = refl
from_test n init a (Ok t) = second_is n init a t.0 (mark_at operator.Semicolon t.1)

test_is : (n : ℕ) (init : Option SimpleTree) (a : Span) (ts : List Terminal) (m : MarkAhead) → for_test n init a ts m ≡ (test_by n ts m >>= with_test n init a)
test_is n init a ts (Some b) = post_is n init a None b.0 b.1 (mark_at operator.OpenBrace b.1)
test_is n init a ts None = from_test n init a (expr_at n true 1 ts)

-- what stands behind the statement before the first semicolon, from its parts

abbrev pub with_clauses : Option SimpleTree → (Span × Option ExprTree × Span × Option SimpleTree) × List Terminal → Reading ForTree
with_clauses init x = Ok (Clauses init x.0.0 x.0.1 x.0.2 x.0.3, x.1)

abbrev as_clauses : Span → (Option ExprTree × Span) × List Terminal → Option SimpleTree × List Terminal → Reading (Span × Option ExprTree × Span × Option SimpleTree)
as_clauses a t p = Ok ((a, t.0.0, t.0.1, p.0), p.1)

posted : (init : Option SimpleTree) (a : Span) (t : (Option ExprTree × Span) × List Terminal) (r : Reading (Option SimpleTree)) → (r >>= with_post init a t.0.0 t.0.1) ≡ (r >>= as_clauses a t >>= with_clauses init)
posted init a t (Err e) = refl
posted init a t (Ok p) = refl

tests : (n : ℕ) (init : Option SimpleTree) (a : Span) (r : Reading (Option ExprTree × Span)) → (r >>= with_test n init a) ≡ (r >>= (λ (t : (Option ExprTree × Span) × List Terminal). (post_at n t.1 >>= as_clauses a t)) >>= with_clauses init)
tests n init a (Err e) = refl
tests n init a (Ok t) = posted init a t (post_at n t.1)

pub clauses_whole : (n : ℕ) (init : Option SimpleTree) (ts : List Terminal) → for_clauses n init (mark_at operator.Semicolon ts) ≡ (clauses_at n ts >>= with_clauses init)
clauses_whole n init ts = from (mark_at operator.Semicolon ts)
  where
    from : (m : MarkAhead) → for_clauses n init m ≡ (need m >>= (λ (a : Span × List Terminal). (test_at n a.1 >>= λ t. (post_at n t.1 >>= as_clauses a.0 t))) >>= with_clauses init)
    from None = refl
    from (Some a) = test_is n init a.0 a.1 (mark_at operator.Semicolon a.1) ∙ tests n init a.0 (test_at n a.1)

pub clauses_are : (n : ℕ) (init : Option SimpleTree) (ts : List Terminal) (x : (Span × Option ExprTree × Span × Option SimpleTree) × List Terminal) → clauses_at n ts ≡ Ok x → for_clauses n init (mark_at operator.Semicolon ts) ≡ with_clauses init x
clauses_are n init ts x found = clauses_whole n init ts ∙ ap (λ r. r >>= with_clauses init) found

pub clauses_fail : (n : ℕ) (init : Option SimpleTree) (ts : List Terminal) (e : Stop) → Fails e (clauses_at n ts) → Fails e (for_clauses n init (mark_at operator.Semicolon ts))
clauses_fail n init ts e failed =
    fails_along (clauses_at n ts) (for_clauses n init (mark_at operator.Semicolon ts)) e (λ f g. clauses_whole n init ts ∙ ap (λ r. r >>= with_clauses init) g) failed

-- the head of an `if` that begins with a statement

abbrev behind_init : ℕ → (Option SimpleTree × Span) × List Terminal → Reading IfTree
behind_init b x = condition_at b x.0.0 x.0.1 x.1

init_whole : (b : ℕ) (i : SimpleTree) (m : MarkAhead) → if_init b i m ≡ (init_by i m >>= behind_init b)
init_whole b i None = refl
init_whole b i (Some s) = refl

if_whole : (b : ℕ) (ts rest : List Terminal) (es : Separated ExprTree) → None ≡ mark_at operator.Semicolon ts → exprs_at b true ts ≡ Ok (es, rest) → None ≡ mark_at operator.OpenBrace rest → if_at b ts ≡ (init_at b es rest >>= behind_init b)
if_whole b ts rest es free first body =
    ap (if_first b ts) (sym free) ∙ ap (λ r. r >>= λ (x : Separated ExprTree × List Terminal). if_from b x.0 x.1 (mark_at operator.OpenBrace x.1)) first ∙ ap (if_from b es rest) (sym body) ∙ by_simple (simple_from b true es rest)
  where
    by_simple : (r : Reading SimpleTree) → (r >>= λ i. if_init b i.0 (mark_at operator.Semicolon i.1)) ≡ (r >>= (λ (i : SimpleTree × List Terminal). init_by i.0 (mark_at operator.Semicolon i.1)) >>= behind_init b)
    by_simple (Err e) = refl
    by_simple (Ok i) = init_whole b i.0 (mark_at operator.Semicolon i.1)

pub if_is : (b : ℕ) (ts rest after : List Terminal) (es : Separated ExprTree) (i : Option SimpleTree) (s : Span) → None ≡ mark_at operator.Semicolon ts → exprs_at b true ts ≡ Ok (es, rest) → None ≡ mark_at operator.OpenBrace rest → init_at b es rest ≡ Ok ((i, s), after) → if_at b ts ≡ condition_at b i s after
if_is b ts rest after es i s free first body found = if_whole b ts rest es free first body ∙ ap (λ r. r >>= behind_init b) found

pub if_fails : (b : ℕ) (ts rest : List Terminal) (es : Separated ExprTree) (e : Stop) → None ≡ mark_at operator.Semicolon ts → exprs_at b true ts ≡ Ok (es, rest) → None ≡ mark_at operator.OpenBrace rest → Fails e (init_at b es rest) → Fails e (if_at b ts)
if_fails b ts rest es e free first body failed =
    fails_along (init_at b es rest) (if_at b ts) e (λ f g. if_whole b ts rest es free first body ∙ ap (λ r. r >>= behind_init b) g) failed

-- the head of a `for` that begins with a statement

for_whole : (n : ℕ) (ts rest : List Terminal) (es : Separated ExprTree) → None ≡ mark_at operator.OpenBrace ts → None ≡ mark_at operator.Semicolon ts → exprs_at n true ts ≡ Ok (es, rest) → None ≡ mark_at operator.OpenBrace rest → for_at n ts ≡ (simple_from n true es rest >>= λ i. for_clauses n (Some i.0) (mark_at operator.Semicolon i.1))
for_whole n ts rest es bare free first body =
    ap (for_first n ts) (sym bare) ∙ ap (for_begins n ts) (sym free) ∙ ap (λ r. r >>= λ (x : Separated ExprTree × List Terminal). for_from n x.0 x.1 (mark_at operator.OpenBrace x.1)) first ∙ ap (for_from n es rest) (sym body)

pub for_is : (n : ℕ) (ts rest after : List Terminal) (es : Separated ExprTree) (i : SimpleTree) → None ≡ mark_at operator.OpenBrace ts → None ≡ mark_at operator.Semicolon ts → exprs_at n true ts ≡ Ok (es, rest) → None ≡ mark_at operator.OpenBrace rest → simple_from n true es rest ≡ Ok (i, after) → for_at n ts ≡ for_clauses n (Some i) (mark_at operator.Semicolon after)
for_is n ts rest after es i bare free first body found =
    for_whole n ts rest es bare free first body ∙ ap (λ r. r >>= λ (i : SimpleTree × List Terminal). for_clauses n (Some i.0) (mark_at operator.Semicolon i.1)) found

pub for_fails : (n : ℕ) (ts rest : List Terminal) (es : Separated ExprTree) (e : Stop) → None ≡ mark_at operator.OpenBrace ts → None ≡ mark_at operator.Semicolon ts → exprs_at n true ts ≡ Ok (es, rest) → None ≡ mark_at operator.OpenBrace rest → Fails e (simple_from n true es rest) → Fails e (for_at n ts)
for_fails n ts rest es e bare free first body failed =
    fails_along (simple_from n true es rest) (for_at n ts) e (λ f g. for_whole n ts rest es bare free first body ∙ ap (λ r. r >>= λ (i : SimpleTree × List Terminal). for_clauses n (Some i.0) (mark_at operator.Semicolon i.1)) g) failed
