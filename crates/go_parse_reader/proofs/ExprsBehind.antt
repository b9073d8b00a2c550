-- What binds how strongly, and what may stand behind an expression.
use Rattle.std.proofs.Common.{◌≡◌, ℕ, ◌+◌, ◌<◌, ◌≤◌, Bool, true, false, List, [], ◌∷◌, Option, Some, None, refl, ap, ◌∙◌, arith, rules}
use Rattle.std.proofs.lemmas.Bool.{lt-leb, leb-false}
use Rattle.std.specs.Prelude.{nat_le}
use denote.Enum.Bare.{same_true}
use Rattle.go_tree_nodes.specs.text_core.declared.span.Span.{Span}
use Rattle.go_tree_nodes.specs.token_core.contracts.kind.Operator as operator_contracts
use Rattle.go_tree_nodes.specs.token_core.declared.kind.Operator.{Operator}
use Rattle.go_tree_nodes.specs.token_core.declared.kind.Operator.TheVariants as operator
use Rattle.go_tree_nodes.specs.declared.names.Ident.{Ident}
use Rattle.go_tree_nodes.specs.declared.types.TypeName.TheVariants as type_name
use Rattle.go_tree_nodes.specs.Terminals.{TerminalKind, Mark, Terminal}
use Rattle.go_tree_nodes.specs.Trees.{ExprTree, Integer, Text, Named, Paren, Unary, Binary, Select, Call, Literal, StructLiteral}
use Rattle.go_tree_nodes.specs.Spelling.{mark, spell_ident}
use Rattle.go_tree_nodes.specs.Rules.{rank_of, unary_rank, primary_rank, is_unary, is_step, is_update, Binds, Wf}
use Rattle.go_parse_reader.specs.types.mirrors.Marks.{MarkAhead, same_operator, mark_at, mark_that_in, mark_that}
use Rattle.go_parse_reader.specs.exprs.mirrors.ExprReading.{literal_dot, body_by, body_behind, body_at, next_apply, next_pick, next_operate, has_rank, next_at}
use Rattle.go_parse_reader.proofs.TypesMarks.{none_when, mark_not, mark_that_not}

-- ranks

pub rank_low : (o : Operator) → rank_of o ≤ 5
rank_low operator.Star = omega arith
rank_low operator.Slash = omega arith
rank_low operator.Percent = omega arith
rank_low operator.ShiftLeft = omega arith
rank_low operator.ShiftRight = omega arith
rank_low operator.And = omega arith
rank_low operator.AndNot = omega arith
rank_low operator.Plus = omega arith
rank_low operator.Minus = omega arith
rank_low operator.Or = omega arith
rank_low operator.Caret = omega arith
rank_low operator.Equal = omega arith
rank_low operator.NotEqual = omega arith
rank_low operator.Less = omega arith
rank_low operator.LessEqual = omega arith
rank_low operator.Greater = omega arith
rank_low operator.GreaterEqual = omega arith
rank_low operator.LogicalAnd = omega arith
rank_low operator.LogicalOr = omega arith
rank_low _ = omega arith

-- operators that a function tells apart are not the same
pub not_same : {A : Type 0} (f : Operator → A) (found want : Operator) → ((f found ≡ f want) → ⊥) → same_operator found want ≡ false
not_same f found want other = decide (same_operator found want) refl
  where
    decide : (c : Bool) → same_operator found want ≡ c → same_operator found want ≡ false
    decide false e = e
    decide true e = absurd (other (ap f (same_true operator_contracts.the_type (search rules) found want e)))

pub not_ranked : (o want : Operator) → 0 < rank_of o → rank_of want ≡ 0 → same_operator o want ≡ false
not_ranked o want some none = not_same rank_of o want (λ e. omega (arith, e, some, none))

pub not_unary : (o want : Operator) → is_unary o ≡ true → is_unary want ≡ false → same_operator o want ≡ false
not_unary o want is other = not_same is_unary o want (λ e. cc (e, is, other))

pub binds_fewer : (m n : ℕ) (t : ExprTree) → m ≤ n → Binds n t → Binds m t
binds_fewer m n (Integer x s) le h = tt
binds_fewer m n (Text x) le h = tt
binds_fewer m n (Named x) le h = tt
binds_fewer m n (Paren f t z) le h = tt
binds_fewer m n (Unary p s t) le h = omega arith
binds_fewer m n (Binary a o s b) le h = omega arith
binds_fewer m n (Select t d x) le h = tt
binds_fewer m n (Call t f is z) le h = tt
binds_fewer m n (Literal x f is z) le h = tt
binds_fewer m n (StructLiteral x f is z) le h = tt

-- every expression binds at the least rank
pub binds_one : (header : Bool) (t : ExprTree) → Wf header t → Binds 1 t
binds_one header (Integer x s) wf = tt
binds_one header (Text x) wf = tt
binds_one header (Named x) wf = tt
binds_one header (Paren f t z) wf = tt
binds_one header (Unary p s t) wf = omega arith
binds_one header (Binary a o s b) wf = omega (arith, wf.0)
binds_one header (Select t d x) wf = tt
binds_one header (Call t f is z) wf = tt
binds_one header (Literal x f is z) wf = tt
binds_one header (StructLiteral x f is z) wf = tt

-- what a selector or a call may follow binds at any rank
pub primary_binds : (least : ℕ) (t : ExprTree) → Binds primary_rank t → Binds least t
primary_binds least (Integer x s) h = tt
primary_binds least (Text x) h = tt
primary_binds least (Named x) h = tt
primary_binds least (Paren f t z) h = tt
primary_binds least (Unary p s t) h = absurd (omega arith)
primary_binds least (Binary a o s b) h = absurd (omega (arith, rank_low o))
primary_binds least (Select t d x) h = tt
primary_binds least (Call t f is z) h = tt
primary_binds least (Literal x f is z) h = tt
primary_binds least (StructLiteral x f is z) h = tt

-- what stands in front

apply_free : (p : MarkAhead) → next_apply p ≡ None → p ≡ None
apply_free None e = refl
apply_free (Some p) e = cc

pick_free : (ts : List Terminal) (p : MarkAhead) → next_pick ts p ≡ None → (p ≡ None) × (mark_at operator.OpenParen ts ≡ None)
pick_free ts None e = (refl, apply_free (mark_at operator.OpenParen ts) e)
pick_free ts (Some p) e = cc

operate_free : (ts : List Terminal) (o : Option (Operator × Span × List Terminal)) → next_operate ts o ≡ None → (o ≡ None) × (mark_at operator.Dot ts ≡ None) × (mark_at operator.OpenParen ts ≡ None)
operate_free ts None e =
    let w = pick_free ts (mark_at operator.Dot ts) e in
    (refl, w.0, w.1)
operate_free ts (Some o) e = cc

-- where nothing goes on, there is no operator, no dot and no opening parenthesis
pub next_free : (least : ℕ) (ts : List Terminal) → next_at least ts ≡ None → (mark_that (has_rank least) ts ≡ None) × (mark_at operator.Dot ts ≡ None) × (mark_at operator.OpenParen ts ≡ None)
next_free least ts e = operate_free ts (mark_that (has_rank least) ts) e

-- and the other way round
pub next_none : (least : ℕ) (ts : List Terminal) → mark_that (has_rank least) ts ≡ None → mark_at operator.Dot ts ≡ None → mark_at operator.OpenParen ts ≡ None → next_at least ts ≡ None
next_none least ts ranked dot paren = ap (next_operate ts) ranked ∙ ap (next_pick ts) dot ∙ ap next_apply paren

-- no brace of a literal stands in front
abbrev pub NoBrace : Bool → List Terminal → Type 0
NoBrace true ts = Unit {0}
NoBrace false ts = mark_at operator.OpenBrace ts ≡ None

pub no_brace : (header : Bool) (ts : List Terminal) → mark_at operator.OpenBrace ts ≡ None → NoBrace header ts
no_brace true ts e = tt
no_brace false ts e = e

-- what stands in front is nothing that goes on with an operand at that rank
abbrev pub Stops : Bool → ℕ → List Terminal → Type 0
Stops header least ts = (next_at least ts ≡ None) × NoBrace header ts

-- what stands in front does not belong to the right end of the tree
abbrev pub Behind : Bool → ExprTree → List Terminal → Type 0
Behind header (Named x) ts = body_at header x ts ≡ None
Behind header (Unary op s t) ts = Stops header unary_rank ts
Behind header (Binary a op s b) ts = Stops header (rank_of op + 1) ts
Behind header (Select t d x) ts = NoBrace header ts
Behind header _ ts = Unit {0}

-- a mark that is no operator, no dot, no opening parenthesis and no opening brace stops each expression
pub stops_mark : (header : Bool) (o : Operator) (s : Span) (ts : List Terminal) → rank_of o ≡ 0 → same_operator o operator.Dot ≡ false → same_operator o operator.OpenParen ≡ false → same_operator o operator.OpenBrace ≡ false → Stops header 1 (mark o s ∷ ts)
stops_mark header o s ts none dot paren brace =
    (next_none 1 (mark o s ∷ ts) (mark_that_not (has_rank 1) o s ts (lt-leb _ _ (omega (arith, none)))) (mark_not operator.Dot o s ts dot) (mark_not operator.OpenParen o s ts paren), no_brace header (mark o s ∷ ts) (mark_not operator.OpenBrace o s ts brace))

-- so do `++`, `--` and an operator with `=`

step_rank : (o : Operator) → is_step o ≡ true → rank_of o ≡ 0
step_rank operator.Increment is = refl
step_rank operator.Decrement is = refl
step_rank _ is = cc

pub stops_step : (header : Bool) (o : Operator) (s : Span) (ts : List Terminal) → is_step o ≡ true → Stops header 1 (mark o s ∷ ts)
stops_step header o s ts is =
    stops_mark header o s ts (step_rank o is) (not_same is_step o operator.Dot (λ e. cc (e, is))) (not_same is_step o operator.OpenParen (λ e. cc (e, is))) (not_same is_step o operator.OpenBrace (λ e. cc (e, is)))

update_rank : (o : Operator) → is_update o ≡ true → rank_of o ≡ 0
update_rank operator.StarAssign is = refl
update_rank operator.SlashAssign is = refl
update_rank operator.PercentAssign is = refl
update_rank operator.ShiftLeftAssign is = refl
update_rank operator.ShiftRightAssign is = refl
update_rank operator.AndAssign is = refl
update_rank operator.AndNotAssign is = refl
update_rank operator.PlusAssign is = refl
update_rank operator.MinusAssign is = refl
update_rank operator.OrAssign is = refl
update_rank operator.CaretAssign is = refl
update_rank _ is = cc

pub stops_update : (header : Bool) (o : Operator) (s : Span) (ts : List Terminal) → is_update o ≡ true → Stops header 1 (mark o s ∷ ts)
stops_update header o s ts is =
    stops_mark header o s ts (update_rank o is) (not_same is_update o operator.Dot (λ e. cc (e, is))) (not_same is_update o operator.OpenParen (λ e. cc (e, is))) (not_same is_update o operator.OpenBrace (λ e. cc (e, is)))

-- where nothing is left, nothing goes on
pub stops_end : (header : Bool) → Stops header 1 []
stops_end header = (refl, no_brace header [] refl)

-- in a header the opening brace of the block stops it too
pub stops_block : (s : Span) (ts : List Terminal) → Stops true 1 (mark operator.OpenBrace s ∷ ts)
stops_block s ts = (refl, tt)

-- operators that bind stronger are fewer
that_more : (m n : ℕ) (ts : List Terminal) → m ≤ n → mark_that (has_rank m) ts ≡ None → mark_that (has_rank n) ts ≡ None
that_more m n [] le e = refl
that_more m n (t ∷ ts) le e = at t.kind e
  where
    at : (k : TerminalKind) → mark_that_in (has_rank m) k t.span ts ≡ None → mark_that_in (has_rank n) k t.span ts ≡ None
    at (Mark o) e =
        let less = leb-false m (rank_of o) (none_when (nat_le m (rank_of o)) (o, t.span, ts) e) in
        mark_that_not (has_rank n) o t.span ts (lt-leb n (rank_of o) (omega (arith, less)))
    at _ e = refl

pub next_more : (m n : ℕ) (ts : List Terminal) → m ≤ n → next_at m ts ≡ None → next_at n ts ≡ None
next_more m n ts le e =
    let w = next_free m ts e in
    next_none n ts (that_more m n ts le w.0) w.1 w.2

pub stops_more : (header : Bool) (m n : ℕ) (ts : List Terminal) → m ≤ n → Stops header m ts → Stops header n ts
stops_more header m n ts le h = (next_more m n ts le h.0, h.1)

-- a name that neither a dot nor a brace follows is no type of a literal
named_alone : (header : Bool) (x : Ident) (ts : List Terminal) → mark_at operator.Dot ts ≡ None → NoBrace header ts → body_at header x ts ≡ None
named_alone true x ts dot brace = refl
named_alone false x ts dot brace = ap (λ m. body_behind (literal_dot x ts m)) dot ∙ ap (body_by (type_name.Plain x)) brace

pub stops_behind : (header : Bool) (least : ℕ) (t : ExprTree) (ts : List Terminal) → Binds least t → Stops header least ts → Behind header t ts
stops_behind header least (Integer n s) ts b h = tt
stops_behind header least (Text x) ts b h = tt
stops_behind header least (Named x) ts b h = named_alone header x ts (next_free least ts h.0).1 h.1
stops_behind header least (Paren f t z) ts b h = tt
stops_behind header least (Unary p s t) ts b h = stops_more header least unary_rank ts b h
stops_behind header least (Binary l o s r) ts b h = stops_more header least (rank_of o + 1) ts (omega arith) h
stops_behind header least (Select t d x) ts b h = h.1
stops_behind header least (Call t f is z) ts b h = tt
stops_behind header least (Literal n f is z) ts b h = tt
stops_behind header least (StructLiteral n f is z) ts b h = tt

-- a weaker operator stops
stops_operator : (header : Bool) (least : ℕ) (o : Operator) (s : Span) (ts : List Terminal) → 0 < rank_of o → rank_of o < least → Stops header least (mark o s ∷ ts)
stops_operator header least o s ts some less =
    (next_none least (mark o s ∷ ts) (mark_that_not (has_rank least) o s ts (lt-leb least (rank_of o) less)) (mark_not operator.Dot o s ts (not_ranked o operator.Dot some refl)) (mark_not operator.OpenParen o s ts (not_ranked o operator.OpenParen some refl)), no_brace header (mark o s ∷ ts) (mark_not operator.OpenBrace o s ts (not_ranked o operator.OpenBrace some refl)))

-- what a binary operator may follow
pub operator_behind : (header : Bool) (o : Operator) (s : Span) (ts : List Terminal) (t : ExprTree) → 0 < rank_of o → Binds (rank_of o) t → Behind header t (mark o s ∷ ts)
operator_behind header o s ts (Integer x z) some h = tt
operator_behind header o s ts (Text x) some h = tt
operator_behind header o s ts (Named x) some h =
    named_alone header x (mark o s ∷ ts) (mark_not operator.Dot o s ts (not_ranked o operator.Dot some refl)) (no_brace header (mark o s ∷ ts) (mark_not operator.OpenBrace o s ts (not_ranked o operator.OpenBrace some refl)))
operator_behind header o s ts (Paren f t z) some h = tt
operator_behind header o s ts (Unary p z t) some h = stops_operator header unary_rank o s ts some (omega (arith, rank_low o))
operator_behind header o s ts (Binary a p z b) some h = stops_operator header (rank_of p + 1) o s ts some (omega arith)
operator_behind header o s ts (Select t d x) some h = no_brace header (mark o s ∷ ts) (mark_not operator.OpenBrace o s ts (not_ranked o operator.OpenBrace some refl))
operator_behind header o s ts (Call t f is z) some h = tt
operator_behind header o s ts (Literal x f is z) some h = tt
operator_behind header o s ts (StructLiteral x f is z) some h = tt

-- what a selector may follow
pub dot_behind : (header : Bool) (d : Span) (x : Ident) (ts : List Terminal) (t : ExprTree) → Binds primary_rank t → NoBrace header ts → Behind header t (mark operator.Dot d ∷ (spell_ident x ∷ ts))
dot_behind header d x ts (Integer y z) h free = tt
dot_behind header d x ts (Text y) h free = tt
dot_behind true d x ts (Named y) h free = refl
dot_behind false d x ts (Named y) h free = ap (body_by (type_name.Qualified y d x)) free
dot_behind header d x ts (Paren f t z) h free = tt
dot_behind header d x ts (Unary p z t) h free = absurd (omega arith)
dot_behind header d x ts (Binary a p z b) h free = absurd (omega (arith, rank_low p))
dot_behind header d x ts (Select t e y) h free = no_brace header (mark operator.Dot d ∷ (spell_ident x ∷ ts)) refl
dot_behind header d x ts (Call t f is z) h free = tt
dot_behind header d x ts (Literal y f is z) h free = tt
dot_behind header d x ts (StructLiteral y f is z) h free = tt

-- what a call may follow
pub open_behind : (header : Bool) (s : Span) (ts : List Terminal) (t : ExprTree) → Binds primary_rank t → Behind header t (mark operator.OpenParen s ∷ ts)
open_behind header s ts (Integer y z) h = tt
open_behind header s ts (Text y) h = tt
open_behind true s ts (Named y) h = refl
open_behind false s ts (Named y) h = refl
open_behind header s ts (Paren f t z) h = tt
open_behind header s ts (Unary p z t) h = absurd (omega arith)
open_behind header s ts (Binary a p z b) h = absurd (omega (arith, rank_low p))
open_behind header s ts (Select t e y) h = no_brace header (mark operator.OpenParen s ∷ ts) refl
open_behind header s ts (Call t f is z) h = tt
open_behind header s ts (Literal y f is z) h = tt
open_behind header s ts (StructLiteral y f is z) h = tt
