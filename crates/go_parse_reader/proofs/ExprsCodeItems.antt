-- What reading calls and literals gives, in the words of the program.
use Rattle.std.proofs.Common.{◌≡◌, ℕ, zero, suc, ◌+◌, ◌-◌, ◌<◌, ◌≤◌, max, Bool, true, false, List, [], ◌∷◌, ◌++◌, Option, Some, None, Vec, Ok, Err, refl, sym, ap, ◌∙◌, arith}
use Rattle.std.specs.Global.{Global}
use Rattle.go_tree_nodes.specs.text_core.declared.span.Span.{Span}
use Rattle.go_tree_nodes.specs.token_core.declared.kind.Keyword.TheVariants as keyword
use Rattle.go_tree_nodes.specs.token_core.declared.kind.Operator.{Operator}
use Rattle.go_tree_nodes.specs.token_core.declared.kind.Operator.TheVariants as operator
use Rattle.go_tree_nodes.specs.declared.names.Ident.{Ident}
use Rattle.go_tree_nodes.specs.declared.types.TypeName.{TypeName}
use Rattle.go_tree_nodes.specs.declared.types.TypeExpr.{TypeExpr}
use Rattle.go_tree_nodes.specs.declared.exprs.Expr.{Expr}
use Rattle.go_tree_nodes.specs.declared.exprs.CallExpr.{CallExpr, roll-CallExpr}
use Rattle.go_tree_nodes.specs.declared.exprs.LiteralExpr.{LiteralExpr, roll-LiteralExpr}
use Rattle.go_tree_nodes.specs.declared.exprs.StructLiteralExpr.{StructLiteralExpr, roll-StructLiteralExpr}
use Rattle.go_tree_nodes.specs.declared.exprs.«Item» as declared_item
use Rattle.go_tree_nodes.specs.declared.exprs.Key.{Key}
use Rattle.go_tree_nodes.specs.Terminals.{Terminal}
use Rattle.go_tree_nodes.specs.Trees.{TypeTree, ExprTree, Binary, Call, Literal, StructLiteral}
use Rattle.go_tree_nodes.specs.Rules.{rank_of}
use Rattle.go_tree_nodes.specs.Spelling.{word}
use Rattle.go_tree_nodes.specs.TypeShapes.{shape_type}
use Rattle.go_tree_nodes.specs.Shapes.{shape, shape_call, shape_literal, shape_struct_literal, items_of}
use Rattle.go_tree_nodes.proofs.ShapeLemmas.{shape_called, shape_literal_made, shape_struct_literal_made}
use Rattle.go_tree_nodes.specs.Heights.{type_height, height, items_height}
use Rattle.go_parse_reader.specs.declared.types.stop.Stop.{Stop}
use Rattle.go_parse_reader.specs.types.mirrors.EntryShapes.{with_mark, then_mark}
use Rattle.go_parse_reader.specs.types.mirrors.Giving.{Fails}
use Rattle.go_parse_reader.specs.types.mirrors.Marks.{◌>>=◌, Reading, mark_at, mark_or_end}
use Rattle.go_parse_reader.specs.types.mirrors.TypeReading.{struct_at, type_at}
use Rattle.go_parse_reader.proofs.TypesTypes.{type_sound}
use Rattle.go_parse_reader.specs.exprs.mirrors.CodeShapes.{opens_body, key_from, some_key, ClosedTree, closed_at, applied_at, ElementsTree, elements_at}
use Rattle.go_parse_reader.specs.exprs.mirrors.ExprReading.{Inner, ItemTree, key_at, item_by, item_ahead, items_at, Operate, Apply, literal_name, body_at, named_by, struct_body, struct_type, struct_literal, call_by, step}
use Rattle.go_parse_reader.proofs.ExprsExprFound.{struct_type_is}
use Rattle.go_parse_reader.proofs.ExprsCodeExprs.{bind_fails, closed_as, literal_with, named_elements, struct_with, struct_elements}

-- the height of one more item

items_push : (is : List declared_item.Item) (i : declared_item.Item) → items_height (items_of (is ++ (i ∷ []))) ≡ max (items_height (items_of is)) (height (shape i.value))
items_push [] i = omega arith
items_push (j ∷ js) i = omega (arith, items_push js i)

pub items_more : (is new : List declared_item.Item) (i : declared_item.Item) → new ≡ is ++ (i ∷ []) → items_height (items_of new) ≡ max (items_height (items_of is)) (height (shape i.value))
items_more is new i e = ap (λ l. items_height (items_of l)) e ∙ items_push is i

-- an operator, by the operand behind it

pub binary_fails : (inner : Inner) (header : Bool) (t : ExprTree) (o : Operator) (s : Span) (ts : List Terminal) (r : ℕ) (e : Stop) → r ≡ rank_of o → Fails e (inner header (r + 1) ts) → Fails e (step inner header t (Operate o s ts))
binary_fails inner header t o s ts r e rank failed =
    bind_fails (inner header (r + 1) ts) (λ x. Ok (Binary t o s x.0, x.1)) (step inner header t (Operate o s ts)) e
    (ap (λ r. inner header (r + 1) ts >>= λ x. Ok (Binary t o s x.0, x.1)) (sym rank)) failed

-- a call, by its arguments

pub applied : (inner : Inner) (header : Bool) (t : ExprTree) (s : Span) (ts : List Terminal) → step inner header t (Apply s ts) ≡ applied_at inner t s ts
applied inner header t s ts =
    closed_as (items_at inner false operator.CloseParen ts) operator.CloseParen (λ z. Call t s z.0 z.1) (call_by t s) (λ is. refl) (λ is last. refl)

pub call_fails : (inner : Inner) (t : ExprTree) (s : Span) (ts : List Terminal) (e : Stop) → Fails e (closed_at inner false operator.CloseParen ts) → Fails e (applied_at inner t s ts)
call_fails inner t s ts e failed =
    bind_fails (closed_at inner false operator.CloseParen ts) (λ x. Ok (Call t s x.0.0 x.0.1, x.1)) (applied_at inner t s ts) e refl failed

pub call_is : (inner : Inner) (t : ExprTree) (s : Span) (ts : List Terminal) (x : ClosedTree × List Terminal) → closed_at inner false operator.CloseParen ts ≡ Ok x → applied_at inner t s ts ≡ Ok (Call t s x.0.0 x.0.1, x.1)
call_is inner t s ts x found = ap (λ r. r >>= λ x. Ok (Call t s x.0.0 x.0.1, x.1)) found

-- an item, by its key, its value and the mark behind it

item_from : (inner : Inner) (keyed : Bool) (ts : List Terminal) → item_ahead inner keyed ts ≡ (inner false 1 (some_key keyed ts).1 >>= λ x. Ok (((some_key keyed ts).0, x.0), x.1))
item_from inner false ts = refl
item_from inner true ts = by (key_at ts)
  where
    by : (o : Option (Key × List Terminal)) → item_by inner ts o ≡ (inner false 1 (key_from ts o).1 >>= λ x. Ok (((key_from ts o).0, x.0), x.1))
    by None = refl
    by (Some k) = refl

item_keyed : (inner : Inner) (keyed : Bool) (close : Operator) (ts : List Terminal) (k : Option Key × List Terminal) → k ≡ some_key keyed ts → then_mark operator.Comma close (item_ahead inner keyed ts) ≡ (inner false 1 k.1 >>= λ x. with_mark (k.0, x.0) (mark_or_end operator.Comma close x.1))
item_keyed inner keyed close ts k is =
    ap (then_mark operator.Comma close) (item_from inner keyed ts)
    ∙ fused (inner false 1 (some_key keyed ts).1) (some_key keyed ts).0
    ∙ ap (λ (k : Option Key × List Terminal). inner false 1 k.1 >>= λ x. with_mark (k.0, x.0) (mark_or_end operator.Comma close x.1)) (sym is)
  where
    fused : (r : Reading ExprTree) (key : Option Key) → then_mark {A = ItemTree} operator.Comma close (r >>= λ x. Ok ((key, x.0), x.1)) ≡ (r >>= λ x. with_mark (key, x.0) (mark_or_end operator.Comma close x.1))
    fused (Ok x) key = refl
    fused (Err f) key = refl

pub item_is : (inner : Inner) (keyed : Bool) (close : Operator) (ts : List Terminal) (k : Option Key × List Terminal) (t : ExprTree × List Terminal) (s : Option Span × List Terminal) → k ≡ some_key keyed ts → inner false 1 k.1 ≡ Ok t → mark_or_end operator.Comma close t.1 ≡ Ok s → then_mark operator.Comma close (item_ahead inner keyed ts) ≡ Ok (((k.0, t.0), s.0), s.1)
item_is inner keyed close ts k t s is read ended =
    item_keyed inner keyed close ts k is ∙ ap (λ r. r >>= λ x. with_mark (k.0, x.0) (mark_or_end operator.Comma close x.1)) read ∙ ap (with_mark (k.0, t.0)) ended

pub item_fails : (inner : Inner) (keyed : Bool) (close : Operator) (ts : List Terminal) (k : Option Key × List Terminal) (e : Stop) → k ≡ some_key keyed ts → Fails e (inner false 1 k.1) → Fails e (then_mark operator.Comma close (item_ahead inner keyed ts))
item_fails inner keyed close ts k e is failed =
    bind_fails (inner false 1 k.1) (λ x. with_mark (k.0, x.0) (mark_or_end operator.Comma close x.1)) (then_mark operator.Comma close (item_ahead inner keyed ts)) e (item_keyed inner keyed close ts k is) failed

pub item_unended : (inner : Inner) (keyed : Bool) (close : Operator) (ts : List Terminal) (k : Option Key × List Terminal) (t : ExprTree × List Terminal) (e : Stop) → k ≡ some_key keyed ts → inner false 1 k.1 ≡ Ok t → Fails e (mark_or_end operator.Comma close t.1) → Fails e (then_mark operator.Comma close (item_ahead inner keyed ts))
item_unended inner keyed close ts k t e is read failed =
    bind_fails (mark_or_end operator.Comma close t.1) (λ s. Ok (((k.0, t.0), s.0), s.1)) (then_mark operator.Comma close (item_ahead inner keyed ts)) e
    (item_keyed inner keyed close ts k is ∙ ap (λ r. r >>= λ x. with_mark (k.0, x.0) (mark_or_end operator.Comma close x.1)) read) failed

-- a literal of a type with a name, by its elements

pub literal_fails : (inner : Inner) (b : ℕ) (header : Bool) (x : Ident) (ts : List Terminal) (n : TypeName × List Terminal) (e : Stop) → opens_body header ts ≡ true → 0 < b → n ≡ literal_name x ts → Fails e (elements_at inner n.1) → Fails e (named_by inner b x ts (body_at header x ts))
literal_fails inner b header x ts n e opens some named failed =
    bind_fails (elements_at inner n.1) (λ z. Ok (literal_with n.0 z.0, z.1)) (named_by inner b x ts (body_at header x ts)) e (named_elements inner b header x ts n opens some named) failed

pub literal_is : (inner : Inner) (b : ℕ) (header : Bool) (x : Ident) (ts : List Terminal) (n : TypeName × List Terminal) (z : ElementsTree × List Terminal) → opens_body header ts ≡ true → 0 < b → n ≡ literal_name x ts → elements_at inner n.1 ≡ Ok z → named_by inner b x ts (body_at header x ts) ≡ Ok (literal_with n.0 z.0, z.1)
literal_is inner b header x ts n z opens some named found =
    named_elements inner b header x ts n opens some named ∙ ap (λ r. r >>= λ z. Ok (literal_with n.0 z.0, z.1)) found

-- a literal of a struct type, by its type and its elements

struct_inner : (b : ℕ) (k : Span) (ts : List Terminal) → 0 < b → struct_type b k ts ≡ struct_at (type_at (b - 1)) k ts
struct_inner zero k ts some = absurd (omega arith)
struct_inner (suc b) k ts some = let less : b ≡ suc b - 1 = omega arith in ap (λ m. struct_at (type_at m) k ts) less

-- its type is not too high
pub struct_low : (b : ℕ) (k : Span) (ts : List Terminal) (t : TypeTree × List Terminal) → 0 < b → struct_at (type_at (b - 1)) k ts ≡ Ok t → type_height t.0 ≤ b
struct_low b k ts t some read =
    (type_sound b (word keyword.Struct k ∷ ts) t (sym (struct_type_is b k ts) ∙ struct_inner b k ts some ∙ read)).low

struct_typed : (inner : Inner) (b : ℕ) (k : Span) (ts : List Terminal) (t : TypeTree × List Terminal) → 0 < b → struct_at (type_at (b - 1)) k ts ≡ Ok t → struct_literal inner b k ts ≡ struct_body inner t.0 (mark_at operator.OpenBrace t.1)
struct_typed inner b k ts t some read =
    ap (λ r. r >>= λ (t : TypeTree × List Terminal). struct_body inner t.0 (mark_at operator.OpenBrace t.1)) (struct_inner b k ts some ∙ read)

struct_read : (inner : Inner) (b : ℕ) (k : Span) (ts : List Terminal) (t : TypeTree × List Terminal) → 0 < b → struct_at (type_at (b - 1)) k ts ≡ Ok t → struct_literal inner b k ts ≡ (elements_at inner t.1 >>= λ z. Ok (struct_with t.0 z.0, z.1))
struct_read inner b k ts t some read = struct_typed inner b k ts t some read ∙ struct_elements inner t.0 (mark_at operator.OpenBrace t.1)

pub struct_unread : (inner : Inner) (b : ℕ) (k : Span) (ts : List Terminal) (e : Stop) → 0 < b → Fails e (struct_at (type_at (b - 1)) k ts) → Fails e (struct_literal inner b k ts)
struct_unread inner b k ts e some failed =
    bind_fails (struct_at (type_at (b - 1)) k ts) (λ t. struct_body inner t.0 (mark_at operator.OpenBrace t.1)) (struct_literal inner b k ts) e
    (ap (λ r. r >>= λ (t : TypeTree × List Terminal). struct_body inner t.0 (mark_at operator.OpenBrace t.1)) (struct_inner b k ts some)) failed

pub struct_fails : (inner : Inner) (b : ℕ) (k : Span) (ts : List Terminal) (t : TypeTree × List Terminal) (e : Stop) → 0 < b → struct_at (type_at (b - 1)) k ts ≡ Ok t → Fails e (elements_at inner t.1) → Fails e (struct_literal inner b k ts)
struct_fails inner b k ts t e some read failed =
    bind_fails (elements_at inner t.1) (λ z. Ok (struct_with t.0 z.0, z.1)) (struct_literal inner b k ts) e (struct_read inner b k ts t some read) failed

pub struct_is : (inner : Inner) (b : ℕ) (k : Span) (ts : List Terminal) (t : TypeTree × List Terminal) (z : ElementsTree × List Terminal) → 0 < b → struct_at (type_at (b - 1)) k ts ≡ Ok t → elements_at inner t.1 ≡ Ok z → struct_literal inner b k ts ≡ Ok (struct_with t.0 z.0, z.1)
struct_is inner b k ts t z some read found =
    struct_read inner b k ts t some read ∙ ap (λ r. r >>= λ z. Ok (struct_with t.0 z.0, z.1)) found

-- the trees of what is built

pub called : (c : CallExpr) (callee : Expr) (first : Span) (is : Vec declared_item.Item Global) (last : Span) → c ≡ roll-CallExpr (record { callee = callee; «open» = first; args = is; close = last }) → Call (shape callee) first (items_of is.items) last ≡ shape_call c
called c callee first is last made = sym (ap shape_call made ∙ shape_called callee first is last)

pub literal_built : (l : LiteralExpr) (n : TypeName) (first : Span) (is : Vec declared_item.Item Global) (last : Span) → l ≡ roll-LiteralExpr (record { type_name = n; «open» = first; elements = is; close = last }) → Literal n first (items_of is.items) last ≡ shape_literal l
literal_built l n first is last made = sym (ap shape_literal made ∙ shape_literal_made n first is last)

pub struct_built : (l : StructLiteralExpr) (t : TypeExpr) (first : Span) (is : Vec declared_item.Item Global) (last : Span) → l ≡ roll-StructLiteralExpr (record { type_expr = t; «open» = first; elements = is; close = last }) → StructLiteral (shape_type t) first (items_of is.items) last ≡ shape_struct_literal l
struct_built l t first is last made = sym (ap shape_struct_literal made ∙ shape_struct_literal_made t first is last)
