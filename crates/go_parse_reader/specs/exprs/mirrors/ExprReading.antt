-- Reading expressions.
use Rattle.std.specs.Prelude.{ℕ, zero, suc, ◌+◌, Bool, true, false, List, [], ◌∷◌, length, Option, Some, None, Ok, Err, nat_lt, nat_le, if◌then◌else◌}
use Rattle.go_tree_nodes.specs.text_core.declared.span.Span.{Span}
use Rattle.go_tree_nodes.specs.token_core.declared.kind.Keyword.TheVariants as keyword
use Rattle.go_tree_nodes.specs.token_core.declared.kind.Operator.{Operator}
use Rattle.go_tree_nodes.specs.token_core.declared.kind.Operator.TheVariants as operator
use Rattle.go_tree_nodes.specs.declared.names.Ident.{Ident}
use Rattle.go_tree_nodes.specs.declared.types.TypeName.{TypeName}
use Rattle.go_tree_nodes.specs.declared.types.TypeName.TheVariants as type_name
use Rattle.go_tree_nodes.specs.declared.exprs.Key.{Key}
use Rattle.go_tree_nodes.specs.Terminals.{TerminalKind, Spelled, Number, Quoted, Word, Mark, Stray, Terminal}
use Rattle.go_tree_nodes.specs.Trees.{Separated, One, Then, TypeTree, ExprTree, ItemTrees, Integer, Text, Named, Paren, Unary, Binary, Select, Call, Literal, StructLiteral, NoItems, Item}
use Rattle.go_tree_nodes.specs.Rules.{rank_of, unary_rank, is_unary}
use Rattle.go_tree_nodes.specs.Heights.{height}
use Rattle.go_parse_reader.specs.types.mirrors.Marks.{Grammar, TooHigh, ◌>>=◌, Reading, MarkAhead, need, mark_at, keyword_at, name_at, mark_that, list_go}
use Rattle.go_parse_reader.specs.types.mirrors.TypeReading.{struct_at, type_at}

-- what reads an expression, at a lower height: in a header or not, and how strongly its operators bind at least
abbrev pub Inner : Type 0
Inner = Bool → ℕ → List Terminal → Reading ExprTree

-- arguments and elements

abbrev pub ItemTree : Type 0
ItemTree = Option Key × ExprTree

abbrev pub key_by : Ident → MarkAhead → Option (Key × List Terminal)
key_by x None = None
key_by x (Some colon) = Some (record { name = x; colon = colon.0 }, colon.1)

abbrev pub key_of_name : Option (Ident × List Terminal) → Option (Key × List Terminal)
key_of_name None = None
key_of_name (Some x) = key_by x.0 (mark_at operator.Colon x.1)

-- a name and a colon in front
abbrev pub key_at : List Terminal → Option (Key × List Terminal)
key_at ts = key_of_name (name_at ts)

abbrev pub item_by : Inner → List Terminal → Option (Key × List Terminal) → Reading ItemTree
item_by inner ts None = inner false 1 ts >>= λ x. Ok ((None, x.0), x.1)
item_by inner ts (Some k) = inner false 1 k.1 >>= λ x. Ok ((Some k.0, x.0), x.1)

-- an argument, which has no key, or an element, which may have one
abbrev pub item_ahead : Inner → Bool → List Terminal → Reading ItemTree
item_ahead inner false ts = item_by inner ts None
item_ahead inner true ts = item_by inner ts (key_at ts)

abbrev pub as_items : List (ItemTree × Option Span) → ItemTrees
as_items [] = NoItems
as_items (i ∷ is) = Item i.0.0 i.0.1 i.1 (as_items is)

-- the arguments or elements up to a closing mark, which is left
abbrev pub items_at : Inner → Bool → Operator → List Terminal → Reading ItemTrees
items_at inner keyed close ts = list_go (item_ahead inner keyed) operator.Comma close (suc (length ts)) ts >>= λ x. Ok (as_items x.0, x.1)

-- operands

abbrev pub close_by : Span → ExprTree → MarkAhead → Reading ExprTree
close_by first t None = Err Grammar
close_by first t (Some last) = Ok (Paren first t last.0, last.1)

-- the name of a type in front, with what is left; a dot belongs to it where a name stands behind
abbrev pub literal_member : Ident → List Terminal → Span → Option (Ident × List Terminal) → TypeName × List Terminal
literal_member x rest dot None = (type_name.Plain x, rest)
literal_member x rest dot (Some y) = (type_name.Qualified x dot y.0, y.1)

abbrev pub literal_dot : Ident → List Terminal → MarkAhead → TypeName × List Terminal
literal_dot x rest None = (type_name.Plain x, rest)
literal_dot x rest (Some dot) = literal_member x rest dot.0 (name_at dot.1)

abbrev pub literal_name : Ident → List Terminal → TypeName × List Terminal
literal_name x rest = literal_dot x rest (mark_at operator.Dot rest)

abbrev pub Body : Type 0
Body = Option (TypeName × Span × List Terminal)

abbrev pub body_by : TypeName → MarkAhead → Body
body_by n None = None
body_by n (Some first) = Some (n, first.0, first.1)

abbrev pub body_behind : TypeName × List Terminal → Body
body_behind n = body_by n.0 (mark_at operator.OpenBrace n.1)

-- the name of a literal's type and its opening brace, where they stand in front; in a header there is none
abbrev pub body_at : Bool → Ident → List Terminal → Body
body_at true x rest = None
body_at false x rest = body_behind (literal_name x rest)

abbrev pub literal_by : TypeName → Span → ItemTrees → MarkAhead → Reading ExprTree
literal_by n first is None = Err Grammar
literal_by n first is (Some last) = Ok (Literal n first is last.0, last.1)

-- a literal is at least two high, since its type is a node
abbrev pub named_by : Inner → ℕ → Ident → List Terminal → Body → Reading ExprTree
named_by inner b x rest None = Ok (Named x, rest)
named_by inner b x rest (Some n) =
    if nat_lt 0 b then (items_at inner true operator.CloseBrace n.2 >>= λ y. literal_by n.0 n.1 y.0 (mark_at operator.CloseBrace y.1)) else Err TooHigh

abbrev pub struct_literal_by : TypeTree → Span → ItemTrees → MarkAhead → Reading ExprTree
struct_literal_by t first is None = Err Grammar
struct_literal_by t first is (Some last) = Ok (StructLiteral t first is last.0, last.1)

abbrev pub struct_body : Inner → TypeTree → MarkAhead → Reading ExprTree
struct_body inner t None = Err Grammar
struct_body inner t (Some first) = items_at inner true operator.CloseBrace first.1 >>= λ y. struct_literal_by t first.0 y.0 (mark_at operator.CloseBrace y.1)

abbrev pub struct_type : ℕ → Span → List Terminal → Reading TypeTree
struct_type zero k ts = Err TooHigh
struct_type (suc b) k ts = struct_at (type_at b) k ts

-- a literal of a struct type that is written out, behind `struct`
abbrev pub struct_literal : Inner → ℕ → Span → List Terminal → Reading ExprTree
struct_literal inner b k ts = struct_type b k ts >>= λ t. struct_body inner t.0 (mark_at operator.OpenBrace t.1)

abbrev pub by_word : Inner → ℕ → MarkAhead → Reading ExprTree
by_word inner b None = Err Grammar
by_word inner b (Some k) = struct_literal inner b k.0 k.1

abbrev pub by_unary : Inner → Bool → Option (Operator × Span × List Terminal) → Reading ExprTree
by_unary inner header None = Err Grammar
by_unary inner header (Some o) = inner header unary_rank o.2 >>= λ x. Ok (Unary o.0 o.1 x.0, x.1)

abbrev pub operand_by_paren : Inner → Bool → List Terminal → MarkAhead → Reading ExprTree
operand_by_paren inner header ts None = by_unary inner header (mark_that is_unary ts)
operand_by_paren inner header ts (Some first) = inner false 1 first.1 >>= λ x. close_by first.0 x.0 (mark_at operator.CloseParen x.1)

abbrev pub operand_in : Inner → ℕ → Bool → TerminalKind → Span → List Terminal → List Terminal → Reading ExprTree
operand_in inner b header (Number n) s rest ts = Ok (Integer n s, rest)
operand_in inner b header (Quoted spelled) s rest ts = Ok (Text (record { spelled = spelled; span = s }), rest)
operand_in inner b header (Spelled x) s rest ts =
    named_by inner b (record { name = x; span = s }) rest (body_at header (record { name = x; span = s }) rest)
operand_in inner b header (Word k) s rest ts = by_word inner b (keyword_at keyword.Struct ts)
operand_in inner b header (Mark o) s rest ts = operand_by_paren inner header ts (mark_at operator.OpenParen ts)
operand_in inner b header Stray s rest ts = Err Grammar

-- an operand, whose parts are at most b high
abbrev pub operand_at : Inner → ℕ → Bool → List Terminal → Reading ExprTree
operand_at inner b header [] = Err Grammar
operand_at inner b header (t ∷ rest) = operand_in inner b header t.kind t.span rest (t ∷ rest)

-- what comes behind an operand: an operator, a dot, or an opening parenthesis
pub data Next : Type 0 where
  Operate : Operator → Span → List Terminal → Next
  Pick : Span → List Terminal → Next
  Apply : Span → List Terminal → Next

abbrev pub next_apply : MarkAhead → Option Next
next_apply None = None
next_apply (Some first) = Some (Apply first.0 first.1)

abbrev pub next_pick : List Terminal → MarkAhead → Option Next
next_pick ts None = next_apply (mark_at operator.OpenParen ts)
next_pick ts (Some dot) = Some (Pick dot.0 dot.1)

abbrev pub next_operate : List Terminal → Option (Operator × Span × List Terminal) → Option Next
next_operate ts None = next_pick ts (mark_at operator.Dot ts)
next_operate ts (Some o) = Some (Operate o.0 o.1 o.2)

-- an operator that ranked as strongly as least; least is never 0
abbrev pub has_rank : ℕ → Operator → Bool
has_rank least o = nat_le least (rank_of o)

abbrev pub next_at : ℕ → List Terminal → Option Next
next_at least ts = next_operate ts (mark_that (has_rank least) ts)

abbrev pub call_by : ExprTree → Span → ItemTrees → MarkAhead → Reading ExprTree
call_by t first is None = Err Grammar
call_by t first is (Some last) = Ok (Call t first is last.0, last.1)

abbrev pub step : Inner → Bool → ExprTree → Next → Reading ExprTree
step inner header left (Operate o s rest) = inner header (rank_of o + 1) rest >>= λ x. Ok (Binary left o s x.0, x.1)
step inner header left (Pick dot rest) = need (name_at rest) >>= λ x. Ok (Select left dot x.0, x.1)
step inner header left (Apply first rest) = items_at inner false operator.CloseParen rest >>= λ x. call_by left first x.0 (mark_at operator.CloseParen x.1)

abbrev pub turn : Inner → Bool → (ExprTree → List Terminal → Reading ExprTree) → ℕ → ExprTree → List Terminal → Option Next → Reading ExprTree
turn inner header more budget left ts None = Ok (left, ts)
turn inner header more budget left ts (Some next) =
    if nat_lt (height left) budget then (step inner header left next >>= λ x. more x.0 x.1) else Err TooHigh

-- what stands behind left, at most turns of it
unfoldable pub chain : Inner → Bool → ℕ → ℕ → ℕ → ExprTree → List Terminal → Reading ExprTree
chain inner header budget least zero left ts = turn inner header (λ _ _. Err TooHigh) zero left ts (next_at least ts)
chain inner header budget least (suc turns) left ts =
    turn inner header (chain inner header budget least turns) budget left ts (next_at least ts)

-- the longest expression in front whose operators bind as strongly as least, at most as high as budget
unfoldable pub expr_at : ℕ → Bool → ℕ → List Terminal → Reading ExprTree
expr_at zero header least ts = Err TooHigh
expr_at (suc b) header least ts =
    operand_at (expr_at b) b header ts >>= λ x. chain (expr_at b) header (suc b) least (suc b) x.0 x.1

-- expressions with commas between them

abbrev pub exprs_by : (List Terminal → Reading (Separated ExprTree)) → ExprTree → List Terminal → MarkAhead → Reading (Separated ExprTree)
exprs_by more t rest None = Ok (One t, rest)
exprs_by more t rest (Some comma) = more comma.1 >>= λ x. Ok (Then t comma.0 x.0, x.1)

-- at most turns of them
unfoldable pub exprs_go : (List Terminal → Reading ExprTree) → ℕ → List Terminal → Reading (Separated ExprTree)
exprs_go expr zero ts = Err Grammar
exprs_go expr (suc turns) ts = expr ts >>= λ x. exprs_by (exprs_go expr turns) x.0 x.1 (mark_at operator.Comma x.1)

-- each at most as high as budget
abbrev pub exprs_at : ℕ → Bool → List Terminal → Reading (Separated ExprTree)
exprs_at b header ts = exprs_go (expr_at b header 1) (suc (length ts)) ts
