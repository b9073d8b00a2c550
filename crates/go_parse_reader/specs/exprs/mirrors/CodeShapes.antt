-- What values of the program stand for, before it is known what they belong to.
use Rattle.std.specs.Prelude.{◌≡◌, ◌<◌, ℕ, max, Bool, true, false, List, length, Option, Some, None, Result, Ok, Err, is_some}
use Rattle.go_tree_nodes.specs.text_core.declared.span.Span.{Span}
use Rattle.go_tree_nodes.specs.token_core.declared.kind.Operator.{Operator}
use Rattle.go_tree_nodes.specs.token_core.declared.kind.Operator.TheVariants as operator
use Rattle.go_tree_nodes.specs.declared.names.Ident.{Ident}
use Rattle.go_tree_nodes.specs.declared.exprs.Expr.{Expr}
use Rattle.go_tree_nodes.specs.declared.exprs.«Item» as declared_item
use Rattle.go_tree_nodes.specs.declared.exprs.Key.{Key}
use Rattle.go_tree_nodes.specs.declared.exprs.NextExpr.{NextExpr}
use Rattle.go_tree_nodes.specs.Terminals.{Terminal}
use Rattle.go_tree_nodes.specs.Trees.{ExprTree, ItemTrees, Separated, Select, Call}
use Rattle.go_tree_nodes.specs.Heights.{height, exprs_height}
use Rattle.go_tree_nodes.specs.Shapes.{shape_key, shape, exprs_from}
use Rattle.go_parse_reader.specs.declared.types.stop.Stop.{Stop}
use Rattle.go_parse_reader.specs.types.mirrors.Giving.{Gives}
use Rattle.go_parse_reader.specs.types.mirrors.Marks.{Grammar, ◌>>=◌, Reading, MarkAhead, need, mark_at, name_at}
use Rattle.go_parse_reader.specs.declared.exprs.after.After.{After}
use Rattle.go_parse_reader.specs.declared.exprs.after.After.TheVariants as after
use Rattle.go_parse_reader.specs.exprs.mirrors.ExprReading.{Inner, ItemTree, key_at, items_at, close_by, Next, Operate, Pick, Apply, expr_at, exprs_by, exprs_go}

abbrev pub next_of : After → Span → List Terminal → Next
next_of (after.Operate o) s rest = Operate o s rest
next_of after.Pick s rest = Pick s rest
next_of after.Apply s rest = Apply s rest

abbrev pub item_of : declared_item.Item → ItemTree × Option Span
item_of i = ((shape_key i.key, shape i.value), i.comma)

-- an opening brace in front
abbrev pub opens_here : List Terminal → Bool
opens_here ts = is_some (mark_at operator.OpenBrace ts)

abbrev pub opens_member : List Terminal → Option (Ident × List Terminal) → Bool
opens_member ts None = opens_here ts
opens_member ts (Some x) = opens_here x.1

abbrev pub opens_dot : List Terminal → MarkAhead → Bool
opens_dot ts None = opens_here ts
opens_dot ts (Some dot) = opens_member ts (name_at dot.1)

-- an opening brace in front, or behind a dot and a name in front; in a header there is none
abbrev pub opens_body : Bool → List Terminal → Bool
opens_body true ts = false
opens_body false ts = opens_dot ts (mark_at operator.Dot ts)

-- the key in front, where there may be one and it stands there, with what is left
abbrev pub key_from : List Terminal → Option (Key × List Terminal) → Option Key × List Terminal
key_from ts None = (None, ts)
key_from ts (Some k) = (Some k.0, k.1)

abbrev pub some_key : Bool → List Terminal → Option Key × List Terminal
some_key false ts = (None, ts)
some_key true ts = key_from ts (key_at ts)

-- the arguments or elements up to a closing mark, with its place
abbrev pub ClosedTree : Type 0
ClosedTree = ItemTrees × Span

abbrev pub closed_by : ItemTrees → MarkAhead → Reading ClosedTree
closed_by is None = Err Grammar
closed_by is (Some last) = Ok ((is, last.0), last.1)

abbrev pub closed_at : Inner → Bool → Operator → List Terminal → Reading ClosedTree
closed_at inner keyed close ts = items_at inner keyed close ts >>= λ y. closed_by y.0 (mark_at close y.1)

-- a name behind an operand and a dot
abbrev pub selected_at : ExprTree → Span → List Terminal → Reading ExprTree
selected_at left dot ts = need (name_at ts) >>= λ x. Ok (Select left dot x.0, x.1)

-- arguments behind what is called and a parenthesis
abbrev pub applied_at : Inner → ExprTree → Span → List Terminal → Reading ExprTree
applied_at inner callee first ts = closed_at inner false operator.CloseParen ts >>= λ x. Ok (Call callee first x.0.0 x.0.1, x.1)

-- the elements of a literal between the places of its braces
abbrev pub ElementsTree : Type 0
ElementsTree = Span × ItemTrees × Span

abbrev pub with_opening : Span → ClosedTree × List Terminal → Reading ElementsTree
with_opening first x = Ok ((first, x.0.0, x.0.1), x.1)

abbrev pub opened_by : Inner → MarkAhead → Reading ElementsTree
opened_by inner None = Err Grammar
opened_by inner (Some first) = closed_at inner true operator.CloseBrace first.1 >>= with_opening first.0

abbrev pub elements_at : Inner → List Terminal → Reading ElementsTree
elements_at inner ts = opened_by inner (mark_at operator.OpenBrace ts)

-- an expression and the closing parenthesis behind it
abbrev pub in_parens : Inner → Span → List Terminal → Reading ExprTree
in_parens inner first ts = inner false 1 ts >>= λ x. close_by first x.0 (mark_at operator.CloseParen x.1)

-- what reads on behind an expression, at most turns of them more
abbrev pub on_from : ℕ → Bool → ℕ → List Terminal → ExprTree → Reading (Separated ExprTree)
on_from b header turns rest t = exprs_by (exprs_go (expr_at b header 1) turns) t rest (mark_at operator.Comma rest)

-- reading on gives what the program returned, behind any first expression
abbrev pub GivesBehind : {X : Type 0} → (X → List NextExpr × List Terminal) → Result X Stop → ℕ → Bool → List Terminal → Type 0
GivesBehind view result b header ts =
    (first : Expr) (turns : ℕ) → length ts < turns → Gives (λ x. (exprs_from first (view x).0, (view x).1)) result (on_from b header turns ts (shape first))

-- these expressions raise what stands before them to this height
abbrev pub HighBehind : List NextExpr → ℕ → Type 0
HighBehind more high = (first : Expr) → exprs_height (exprs_from first more) ≡ max (height (shape first)) high
