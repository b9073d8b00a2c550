-- What reading gives from the middle of an expression on.
use Rattle.std.proofs.Common.{◌≡◌, ℕ, suc, ◌+◌, ◌-◌, ◌<◌, ◌≤◌, Bool, true, false, List, [], ◌∷◌, Option, Some, None, Result, Ok, Err, refl, sym, ap, ◌∙◌, subst, arith, cond}
use Rattle.std.proofs.lemmas.Bool.{lt-ltb}
use Rattle.std.specs.Prelude.{nat_lt}
use Rattle.go_tree_nodes.specs.text_core.declared.span.Span.{Span}
use Rattle.go_tree_nodes.specs.token_core.declared.kind.Keyword.TheVariants as keyword
use Rattle.go_tree_nodes.specs.token_core.declared.kind.Operator.{Operator}
use Rattle.go_tree_nodes.specs.token_core.declared.kind.Operator.TheVariants as operator
use Rattle.go_tree_nodes.specs.declared.names.Ident.{Ident}
use Rattle.go_tree_nodes.specs.declared.types.TypeName.{TypeName}
use Rattle.go_tree_nodes.specs.Terminals.{TerminalKind, Spelled, Number, Quoted, Word, Mark, Stray, Terminal}
use Rattle.go_tree_nodes.specs.Trees.{TypeTree, ExprTree, ItemTrees, Integer, Text, Named, Paren, Unary, Binary, Select, Call, Literal, StructLiteral}
use Rattle.go_tree_nodes.specs.Rules.{rank_of, unary_rank, is_unary}
use Rattle.go_tree_nodes.specs.Heights.{height}
use Rattle.go_parse_reader.specs.types.mirrors.Marks.{Stuck, TooHigh, ◌>>=◌, Reading, MarkAhead, need, mark_at, keyword_at, name_at, mark_that}
use Rattle.go_parse_reader.specs.exprs.mirrors.ExprReading.{Inner, items_at, close_by, Body, body_at, literal_by, named_by, struct_literal_by, struct_body, struct_type, struct_literal, by_word, by_unary, operand_by_paren, operand_in, operand_at, Next, Operate, Pick, Apply, next_apply, next_pick, next_operate, has_rank, next_at, call_by, step, chain, expr_at}
use Rattle.go_parse_reader.proofs.TypesMarks.{bind_ok}
use Rattle.go_parse_reader.proofs.ExprsChains.{chain_goes, chain_high, chain_stops}

-- the steps of the outermost chain on the left
abbrev pub lefts : ExprTree → ℕ
lefts (Binary a op s b) = lefts a + 1
lefts (Select t dot x) = lefts t + 1
lefts (Call t first is last) = lefts t + 1
lefts _ = 0

pub lefts-lt : (t : ExprTree) → lefts t < height t
lefts-lt (Integer n s) = omega arith
lefts-lt (Text x) = omega arith
lefts-lt (Named x) = omega arith
lefts-lt (Paren first t last) = omega arith
lefts-lt (Unary op s t) = omega arith
lefts-lt (Binary a op s b) = omega (arith, lefts-lt a)
lefts-lt (Select t dot x) = omega (arith, lefts-lt t)
lefts-lt (Call t first is last) = omega (arith, lefts-lt t)
lefts-lt (Literal n first is last) = omega arith
lefts-lt (StructLiteral t first is last) = omega arith

-- what reading gives once left is read
unfoldable pub onward : ℕ → Bool → ℕ → ExprTree → List Terminal → Reading ExprTree
onward b header least left ts = chain (expr_at b) header (suc b) least (suc b - lefts left) left ts

-- an operand has no chain of its own

abbrev IsFirst : ExprTree × List Terminal → Type 0
IsFirst x = lefts x.0 ≡ 0

close_first : (s : Span) (t : ExprTree) (m : MarkAhead) (x : ExprTree × List Terminal) → close_by s t m ≡ Ok x → IsFirst x
close_first s t None x e = cc
close_first s t (Some c) x e =
    let same : (Paren s t c.0, c.1) ≡ x = cc in subst IsFirst same refl

literal_first : (n : TypeName) (first : Span) (is : ItemTrees) (m : MarkAhead) (x : ExprTree × List Terminal) → literal_by n first is m ≡ Ok x → IsFirst x
literal_first n first is None x e = cc
literal_first n first is (Some z) x e =
    let same : (Literal n first is z.0, z.1) ≡ x = cc in subst IsFirst same refl

ok_of : {A : Type 0} (c : Bool) (r : Result A Stuck) (x : A) → cond c r (Err TooHigh) ≡ Ok x → r ≡ Ok x
ok_of true r x e = e
ok_of false r x e = cc

named_first : (inner : Inner) (b : ℕ) (n : Ident) (ts : List Terminal) (o : Body) (x : ExprTree × List Terminal) → named_by inner b n ts o ≡ Ok x → IsFirst x
named_first inner b n ts None x e =
    let same : (Named n, ts) ≡ x = cc in subst IsFirst same refl
named_first inner b n ts (Some t) x e =
    let go = λ (y : ItemTrees × List Terminal). literal_by t.0 t.1 y.0 (mark_at operator.CloseBrace y.1) in
    let w = bind_ok (items_at inner true operator.CloseBrace t.2) go x (ok_of (nat_lt 0 b) (items_at inner true operator.CloseBrace t.2 >>= go) x e) in
    literal_first t.0 t.1 w.0.0 (mark_at operator.CloseBrace w.0.1) x w.2

struct_literal_first : (t : TypeTree) (first : Span) (is : ItemTrees) (m : MarkAhead) (x : ExprTree × List Terminal) → struct_literal_by t first is m ≡ Ok x → IsFirst x
struct_literal_first t first is None x e = cc
struct_literal_first t first is (Some z) x e =
    let same : (StructLiteral t first is z.0, z.1) ≡ x = cc in subst IsFirst same refl

struct_body_first : (inner : Inner) (t : TypeTree) (m : MarkAhead) (x : ExprTree × List Terminal) → struct_body inner t m ≡ Ok x → IsFirst x
struct_body_first inner t None x e = cc
struct_body_first inner t (Some first) x e =
    let w = bind_ok (items_at inner true operator.CloseBrace first.1) (λ y. struct_literal_by t first.0 y.0 (mark_at operator.CloseBrace y.1)) x e in
    struct_literal_first t first.0 w.0.0 (mark_at operator.CloseBrace w.0.1) x w.2

word_first : (inner : Inner) (b : ℕ) (m : MarkAhead) (x : ExprTree × List Terminal) → by_word inner b m ≡ Ok x → IsFirst x
word_first inner b None x e = cc
word_first inner b (Some k) x e =
    let w = bind_ok (struct_type b k.0 k.1) (λ t. struct_body inner t.0 (mark_at operator.OpenBrace t.1)) x e in
    struct_body_first inner w.0.0 (mark_at operator.OpenBrace w.0.1) x w.2

unary_first : (inner : Inner) (header : Bool) (o : Option (Operator × Span × List Terminal)) (x : ExprTree × List Terminal) → by_unary inner header o ≡ Ok x → IsFirst x
unary_first inner header None x e = cc
unary_first inner header (Some o) x e =
    let w = bind_ok (inner header unary_rank o.2) (λ x. Ok (Unary o.0 o.1 x.0, x.1)) x e in
    let same : (Unary o.0 o.1 w.0.0, w.0.1) ≡ x = cc (w.2) in subst IsFirst same refl

paren_first : (inner : Inner) (header : Bool) (ts : List Terminal) (m : MarkAhead) (x : ExprTree × List Terminal) → operand_by_paren inner header ts m ≡ Ok x → IsFirst x
paren_first inner header ts None x e = unary_first inner header (mark_that is_unary ts) x e
paren_first inner header ts (Some first) x e =
    let w = bind_ok (inner false 1 first.1) (λ y. close_by first.0 y.0 (mark_at operator.CloseParen y.1)) x e in
    close_first first.0 w.0.0 (mark_at operator.CloseParen w.0.1) x w.2

operand_in_first : (inner : Inner) (b : ℕ) (header : Bool) (k : TerminalKind) (s : Span) (rest ts : List Terminal) (x : ExprTree × List Terminal) → operand_in inner b header k s rest ts ≡ Ok x → IsFirst x
operand_in_first inner b header (Number n) s rest ts x e =
    let same : (Integer n s, rest) ≡ x = cc in subst IsFirst same refl
operand_in_first inner b header (Quoted v) s rest ts x e =
    let same : (Text (record { spelled = v; span = s }), rest) ≡ x = cc in subst IsFirst same refl
operand_in_first inner b header (Spelled n) s rest ts x e = named_first inner b (record { name = n; span = s }) rest (body_at header (record { name = n; span = s }) rest) x e
operand_in_first inner b header (Word k) s rest ts x e = word_first inner b (keyword_at keyword.Struct ts) x e
operand_in_first inner b header (Mark o) s rest ts x e = paren_first inner header ts (mark_at operator.OpenParen ts) x e
operand_in_first inner b header Stray s rest ts x e = cc

operand_first : (inner : Inner) (b : ℕ) (header : Bool) (ts : List Terminal) (x : ExprTree × List Terminal) → operand_at inner b header ts ≡ Ok x → IsFirst x
operand_first inner b header [] x e = cc
operand_first inner b header (t ∷ ts) x e = operand_in_first inner b header t.kind t.span ts (t ∷ ts) x e

starts_by : (b : ℕ) (header : Bool) (least : ℕ) (r : Reading ExprTree) → ((x : ExprTree × List Terminal) → r ≡ Ok x → IsFirst x) → (r >>= λ x. chain (expr_at b) header (suc b) least (suc b) x.0 x.1) ≡ (r >>= λ x. onward b header least x.0 x.1)
unfolding onward
starts_by b header least (Ok x) h =
    let turns : suc b ≡ suc b - lefts x.0 = omega (arith, h x refl) in
    ap (λ k. chain (expr_at b) header (suc b) least k x.0 x.1) turns
starts_by b header least (Err e) h = refl

-- reading an expression: an operand, and on from there
pub starts : (b : ℕ) (header : Bool) (least : ℕ) (ts : List Terminal) → expr_at (suc b) header least ts ≡ (operand_at (expr_at b) b header ts >>= λ x. onward b header least x.0 x.1)
unfolding expr_at
starts b header least ts = starts_by b header least (operand_at (expr_at b) b header ts) (operand_first (expr_at b) b header ts)

-- each step is one of the chain

abbrev IsStep : ExprTree → ExprTree × List Terminal → Type 0
IsStep t x = lefts x.0 ≡ lefts t + 1

call_steps : (t : ExprTree) (s : Span) (is : ItemTrees) (m : MarkAhead) (x : ExprTree × List Terminal) → call_by t s is m ≡ Ok x → IsStep t x
call_steps t s is None x e = cc
call_steps t s is (Some z) x e =
    let same : (Call t s is z.0, z.1) ≡ x = cc in subst (IsStep t) same refl

step_lefts : (inner : Inner) (header : Bool) (t : ExprTree) (o : Next) (x : ExprTree × List Terminal) → step inner header t o ≡ Ok x → IsStep t x
step_lefts inner header t (Operate o s rest) x e =
    let w = bind_ok (inner header (rank_of o + 1) rest) (λ x. Ok (Binary t o s x.0, x.1)) x e in
    let same : (Binary t o s w.0.0, w.0.1) ≡ x = cc (w.2) in subst (IsStep t) same refl
step_lefts inner header t (Pick s rest) x e =
    let w = bind_ok (need (name_at rest)) (λ x. Ok (Select t s x.0, x.1)) x e in
    let same : (Select t s w.0.0, w.0.1) ≡ x = cc (w.2) in subst (IsStep t) same refl
step_lefts inner header t (Apply s rest) x e =
    let w = bind_ok (items_at inner false operator.CloseParen rest) (λ x. call_by t s x.0 (mark_at operator.CloseParen x.1)) x e in
    call_steps t s w.0.0 (mark_at operator.CloseParen w.0.1) x w.2

onward_turn : (b : ℕ) (header : Bool) (least : ℕ) (t : ExprTree) (ts : List Terminal) (o : Next) → next_at least ts ≡ Some o → height t < suc b → onward b header least t ts ≡ (step (expr_at b) header t o >>= λ x. chain (expr_at b) header (suc b) least (suc b - lefts t - 1) x.0 x.1)
unfolding onward
onward_turn b header least t ts o ahead low =
    chain_goes (expr_at b) header (suc b) least (suc b - lefts t) t ts o ahead low (omega (arith, lefts-lt t))

onward_next : (b : ℕ) (header : Bool) (least : ℕ) (t : ExprTree) (x : ExprTree × List Terminal) → IsStep t x → chain (expr_at b) header (suc b) least (suc b - lefts t - 1) x.0 x.1 ≡ onward b header least x.0 x.1
unfolding onward
onward_next b header least t x is =
    let turns : suc b - lefts t - 1 ≡ suc b - lefts x.0 = omega (arith, is) in
    ap (λ k. chain (expr_at b) header (suc b) least k x.0 x.1) turns

pub onward_goes : (b : ℕ) (header : Bool) (least : ℕ) (t : ExprTree) (ts : List Terminal) (o : Next) (x : ExprTree × List Terminal) → next_at least ts ≡ Some o → height t < suc b → step (expr_at b) header t o ≡ Ok x → onward b header least t ts ≡ onward b header least x.0 x.1
onward_goes b header least t ts o x ahead low found =
    onward_turn b header least t ts o ahead low
    ∙ ap (λ r. r >>= λ x. chain (expr_at b) header (suc b) least (suc b - lefts t - 1) x.0 x.1) found
    ∙ onward_next b header least t x (step_lefts (expr_at b) header t o x found)

pub onward_fails : (b : ℕ) (header : Bool) (least : ℕ) (t : ExprTree) (ts : List Terminal) (o : Next) (e : Stuck) → next_at least ts ≡ Some o → height t < suc b → step (expr_at b) header t o ≡ Err e → onward b header least t ts ≡ Err e
onward_fails b header least t ts o e ahead low failed =
    onward_turn b header least t ts o ahead low
    ∙ ap (λ r. r >>= λ x. chain (expr_at b) header (suc b) least (suc b - lefts t - 1) x.0 x.1) failed

pub onward_high : (b : ℕ) (header : Bool) (least : ℕ) (t : ExprTree) (ts : List Terminal) (o : Next) → next_at least ts ≡ Some o → suc b ≤ height t → onward b header least t ts ≡ Err TooHigh
unfolding onward
onward_high b header least t ts o ahead high = chain_high (expr_at b) header (suc b) least _ t ts o ahead high

pub onward_stops : (b : ℕ) (header : Bool) (least : ℕ) (t : ExprTree) (ts : List Terminal) → next_at least ts ≡ None → onward b header least t ts ≡ Ok (t, ts)
unfolding onward
onward_stops b header least t ts ahead = chain_stops (expr_at b) header (suc b) least _ t ts ahead

-- what comes next, by what is in front

pub ahead_operator : (least : ℕ) (ts : List Terminal) (o : Operator × Span × List Terminal) → Some o ≡ mark_that (has_rank least) ts → next_at least ts ≡ Some (Operate o.0 o.1 o.2)
ahead_operator least ts o at = ap (next_operate ts) (sym at)

pub ahead_dot : (least : ℕ) (ts : List Terminal) (m : Span × List Terminal) → None ≡ mark_that (has_rank least) ts → Some m ≡ mark_at operator.Dot ts → next_at least ts ≡ Some (Pick m.0 m.1)
ahead_dot least ts m free at = ap (next_operate ts) (sym free) ∙ ap (next_pick ts) (sym at)

pub ahead_open : (least : ℕ) (ts : List Terminal) (m : Span × List Terminal) → None ≡ mark_that (has_rank least) ts → None ≡ mark_at operator.Dot ts → Some m ≡ mark_at operator.OpenParen ts → next_at least ts ≡ Some (Apply m.0 m.1)
ahead_open least ts m free dot at = ap (next_operate ts) (sym free) ∙ ap (next_pick ts) (sym dot) ∙ ap next_apply (sym at)

pub ahead_none : (least : ℕ) (ts : List Terminal) → None ≡ mark_that (has_rank least) ts → None ≡ mark_at operator.Dot ts → None ≡ mark_at operator.OpenParen ts → next_at least ts ≡ None
ahead_none least ts free dot at = ap (next_operate ts) (sym free) ∙ ap (next_pick ts) (sym dot) ∙ ap next_apply (sym at)

-- a call whose arguments are read, and closed
pub call_closed : (inner : Inner) (header : Bool) (t : ExprTree) (s : Span) (ts : List Terminal) (is : ItemTrees) (rest : List Terminal) (m : Span × List Terminal) → items_at inner false operator.CloseParen ts ≡ Ok (is, rest) → Some m ≡ mark_at operator.CloseParen rest → step inner header t (Apply s ts) ≡ Ok (Call t s is m.0, m.1)
call_closed inner header t s ts is rest m found at =
    ap (λ r. r >>= λ x. call_by t s x.0 (mark_at operator.CloseParen x.1)) found ∙ ap (call_by t s is) (sym at)

-- a literal whose elements are read, and closed
pub literal_closed : (inner : Inner) (b : ℕ) (x : Ident) (ts : List Terminal) (o : Body) (n : TypeName × Span × List Terminal) (is : ItemTrees) (rest : List Terminal) (m : Span × List Terminal) → Some n ≡ o → 0 < b → items_at inner true operator.CloseBrace n.2 ≡ Ok (is, rest) → Some m ≡ mark_at operator.CloseBrace rest → named_by inner b x ts o ≡ Ok (Literal n.0 n.1 is m.0, m.1)
literal_closed inner b x ts o n is rest m at some found last =
    ap (named_by inner b x ts) (sym at)
    ∙ ap (λ c. cond c (items_at inner true operator.CloseBrace n.2 >>= λ y. literal_by n.0 n.1 y.0 (mark_at operator.CloseBrace y.1)) (Err TooHigh)) (lt-ltb 0 b some)
    ∙ ap (λ r. r >>= λ y. literal_by n.0 n.1 y.0 (mark_at operator.CloseBrace y.1)) found
    ∙ ap (literal_by n.0 n.1 is) (sym last)

pub struct_closed : (inner : Inner) (b : ℕ) (k : Span) (ts : List Terminal) (t : TypeTree × List Terminal) (first : Span × List Terminal) (is : ItemTrees) (rest : List Terminal) (m : Span × List Terminal) → struct_type b k ts ≡ Ok t → Some first ≡ mark_at operator.OpenBrace t.1 → items_at inner true operator.CloseBrace first.1 ≡ Ok (is, rest) → Some m ≡ mark_at operator.CloseBrace rest → struct_literal inner b k ts ≡ Ok (StructLiteral t.0 first.0 is m.0, m.1)
struct_closed inner b k ts t first is rest m read brace found last =
    ap (λ r. r >>= λ t. struct_body inner t.0 (mark_at operator.OpenBrace t.1)) read
    ∙ ap (struct_body inner t.0) (sym brace)
    ∙ ap (λ r. r >>= λ y. struct_literal_by t.0 first.0 y.0 (mark_at operator.CloseBrace y.1)) found
    ∙ ap (struct_literal_by t.0 first.0 is) (sym last)

-- the same in the program's words, where n is the budget

pub from_none : (n : ℕ) (header : Bool) (least : ℕ) (ts : List Terminal) → n ≡ 0 → expr_at n header least ts ≡ Err TooHigh
unfolding expr_at
from_none n header least ts e = ap (λ m. expr_at m header least ts) e

from_first : (n : ℕ) (header : Bool) (least : ℕ) (ts : List Terminal) → 0 < n → expr_at n header least ts ≡ (operand_at (expr_at (n - 1)) (n - 1) header ts >>= λ x. onward (n - 1) header least x.0 x.1)
from_first n header least ts some =
    let more : n ≡ suc (n - 1) = omega arith in
    ap (λ m. expr_at m header least ts) more ∙ starts (n - 1) header least ts

pub from_start : (n : ℕ) (header : Bool) (least : ℕ) (ts : List Terminal) (x : ExprTree × List Terminal) → 0 < n → operand_at (expr_at (n - 1)) (n - 1) header ts ≡ Ok x → expr_at n header least ts ≡ onward (n - 1) header least x.0 x.1
from_start n header least ts x some e = from_first n header least ts some ∙ ap (λ r. r >>= λ x. onward (n - 1) header least x.0 x.1) e

pub from_first_err : (n : ℕ) (header : Bool) (least : ℕ) (ts : List Terminal) (e : Stuck) → 0 < n → operand_at (expr_at (n - 1)) (n - 1) header ts ≡ Err e → expr_at n header least ts ≡ Err e
from_first_err n header least ts e some failed = from_first n header least ts some ∙ ap (λ r. r >>= λ x. onward (n - 1) header least x.0 x.1) failed

pub from_turn : (n : ℕ) (header : Bool) (least : ℕ) (whole : Reading ExprTree) (t : ExprTree) (ts : List Terminal) (o : Next) (x : ExprTree × List Terminal) → whole ≡ onward (n - 1) header least t ts → next_at least ts ≡ Some o → height t < n → step (expr_at (n - 1)) header t o ≡ Ok x → whole ≡ onward (n - 1) header least x.0 x.1
from_turn n header least whole t ts o x so ahead low found =
    so ∙ onward_goes (n - 1) header least t ts o x ahead (omega arith) found

pub from_err : (n : ℕ) (header : Bool) (least : ℕ) (whole : Reading ExprTree) (t : ExprTree) (ts : List Terminal) (o : Next) (e : Stuck) → whole ≡ onward (n - 1) header least t ts → next_at least ts ≡ Some o → height t < n → step (expr_at (n - 1)) header t o ≡ Err e → whole ≡ Err e
from_err n header least whole t ts o e so ahead low failed =
    so ∙ onward_fails (n - 1) header least t ts o e ahead (omega arith) failed

pub from_high : (n : ℕ) (header : Bool) (least : ℕ) (whole : Reading ExprTree) (t : ExprTree) (ts : List Terminal) (o : Next) → whole ≡ onward (n - 1) header least t ts → next_at least ts ≡ Some o → n ≤ height t → 0 < n → whole ≡ Err TooHigh
from_high n header least whole t ts o so ahead high some =
    so ∙ onward_high (n - 1) header least t ts o ahead (omega arith)

pub from_stop : (n : ℕ) (header : Bool) (least : ℕ) (whole : Reading ExprTree) (t : ExprTree) (ts : List Terminal) → whole ≡ onward (n - 1) header least t ts → next_at least ts ≡ None → whole ≡ Ok (t, ts)
from_stop n header least whole t ts so ahead = so ∙ onward_stops (n - 1) header least t ts ahead
