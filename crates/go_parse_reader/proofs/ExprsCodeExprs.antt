-- What reading an expression gives, in the words of the program.
use Rattle.std.proofs.Common.{◌≡◌, ℕ, ◌-◌, ◌<◌, Bool, true, false, List, [], ◌∷◌, map, Option, Some, None, Result, Ok, Err, refl, sym, ap, ◌∙◌, cond}
use Rattle.std.proofs.lemmas.Bool.{lt-ltb}
use Rattle.std.specs.Prelude.{is_some}
use Rattle.go_tree_nodes.specs.text_core.declared.span.Span.{Span}
use Rattle.go_tree_nodes.specs.token_core.declared.kind.Keyword.TheVariants as keyword
use Rattle.go_tree_nodes.specs.token_core.declared.kind.Operator.{Operator}
use Rattle.go_tree_nodes.specs.token_core.declared.kind.Operator.TheVariants as operator
use Rattle.go_tree_nodes.specs.declared.names.Ident.{Ident}
use Rattle.go_tree_nodes.specs.declared.names.TextLiteral.{TextLiteral}
use Rattle.go_tree_nodes.specs.declared.types.TypeName.{TypeName}
use Rattle.go_tree_nodes.specs.declared.types.TypeName.TheVariants as type_name
use Rattle.go_tree_nodes.specs.declared.exprs.«Item» as declared_item
use Rattle.go_tree_nodes.specs.Terminals.{TerminalKind, Spelled, Number, Quoted, Word, Mark, Stray, Terminal}
use Rattle.go_tree_nodes.specs.Trees.{TypeTree, ExprTree, ItemTrees, Item, Integer, Text, Named, Paren, Literal, StructLiteral}
use Rattle.go_tree_nodes.specs.Shapes.{shape_key, shape, items_of}
use Rattle.go_tree_nodes.specs.Heights.{height}
use Rattle.go_tree_nodes.specs.Rules.{is_unary}
use Rattle.go_parse_reader.specs.declared.types.stop.Stop.{Stop}
use Rattle.go_parse_reader.specs.types.mirrors.EntryShapes.{list_all}
use Rattle.go_parse_reader.specs.types.mirrors.Giving.{Fails}
use Rattle.go_parse_reader.specs.types.mirrors.Marks.{Stuck, Grammar, TooHigh, ◌>>=◌, Reading, MarkAhead, need, mark_in, mark_at, keyword_in, keyword_at, name_in, name_at, number_ahead, number_at, text_in, text_at, mark_that_in, mark_that}
use Rattle.go_parse_reader.proofs.TypesCodeSteps.{fails_along}
use Rattle.go_parse_reader.proofs.TypesMarks.{need_ok}
use Rattle.go_parse_reader.specs.exprs.mirrors.CodeShapes.{item_of, opens_member, opens_dot, opens_body, in_parens, ClosedTree, ElementsTree, closed_by, closed_at, with_opening, opened_by, elements_at}
use Rattle.go_parse_reader.specs.exprs.mirrors.ExprReading.{Inner, as_items, item_ahead, items_at, close_by, literal_member, literal_dot, literal_name, body_by, body_behind, body_at, literal_by, named_by, struct_literal_by, struct_body, struct_literal, by_word, by_unary, operand_by_paren, operand_in, operand_at, Next, next_at, step, expr_at}
use Rattle.go_parse_reader.proofs.ExprsOnward.{onward, from_err, from_first_err}

-- what fails

pub expr_turn_fails : (n : ℕ) (header : Bool) (least : ℕ) (whole : Reading ExprTree) (t : ExprTree) (ts : List Terminal) (o : Next) (e : Stop) → whole ≡ onward (n - 1) header least t ts → Some o ≡ next_at least ts → height t < n → Fails e (step (expr_at (n - 1)) header t o) → Fails e whole
expr_turn_fails n header least whole t ts o e so ahead low failed =
    fails_along (step (expr_at (n - 1)) header t o) whole e (λ f g. from_err n header least whole t ts o f so (sym ahead) low g) failed

pub expr_start_fails : (n : ℕ) (header : Bool) (least : ℕ) (ts : List Terminal) (e : Stop) → 0 < n → Fails e (operand_at (expr_at (n - 1)) (n - 1) header ts) → Fails e (expr_at n header least ts)
expr_start_fails n header least ts e some failed =
    fails_along (operand_at (expr_at (n - 1)) (n - 1) header ts) (expr_at n header least ts) e (λ f g. from_first_err n header least ts f some g) failed

pub bind_fails : {X Y : Type 0} (r : Result X Stuck) (go : X → Result Y Stuck) (whole : Result Y Stuck) (e : Stop) → whole ≡ (r >>= go) → Fails e r → Fails e whole
bind_fails r go whole e is failed = fails_along r whole e (λ f g. is ∙ ap (λ r. r >>= go) g) failed

need_err : {X : Type 0} (o : Option X) (f : Stuck) → need o ≡ Err f → (o ≡ None) × (f ≡ Grammar)
need_err None f e = (refl, cc)
need_err (Some x) f e = cc

pub need_fails : {X Y : Type 0} (o : Option X) (go : Option X → Result Y Stuck) (whole : Result Y Stuck) (e : Stop) → whole ≡ go o → go None ≡ Err Grammar → Fails e (need o) → Fails e whole
need_fails o go whole e is none failed =
    fails_along (need o) whole e (λ f g. let w = need_err o f g in is ∙ ap go w.0 ∙ none ∙ ap (λ f. Err f) (sym w.1)) failed

-- what is there is not missed
pub found_fails : {X Y : Type 0} (o : Option X) (x : X) (whole : Result Y Stuck) (e : Stop) → o ≡ Some x → Fails e (need o) → Fails e whole
found_fails o x whole e is failed = fails_along (need o) whole e (λ f g. let w = need_err o f g in cc (w.0, is)) failed

-- operands, by what is in front

in_integer : (inner : Inner) (b : ℕ) (header : Bool) (k : TerminalKind) (s : Span) (rest ts : List Terminal) (m : ℕ × Span × List Terminal) → Some m ≡ number_ahead k s rest → operand_in inner b header k s rest ts ≡ Ok (Integer m.0 m.1, m.2)
in_integer inner b header (Number n) s rest ts m e =
    let same : (n, s, rest) ≡ m = cc in ap (λ (m : ℕ × Span × List Terminal). Ok (Integer m.0 m.1, m.2)) same
in_integer inner b header _ s rest ts m e = cc

pub operand_integer : (inner : Inner) (b : ℕ) (header : Bool) (ts : List Terminal) (m : ℕ × Span × List Terminal) → Some m ≡ number_at ts → operand_at inner b header ts ≡ Ok (Integer m.0 m.1, m.2)
operand_integer inner b header [] m e = cc
operand_integer inner b header (t ∷ ts) m e = in_integer inner b header t.kind t.span ts (t ∷ ts) m e

in_text : (inner : Inner) (b : ℕ) (header : Bool) (k : TerminalKind) (s : Span) (rest ts : List Terminal) (m : TextLiteral × List Terminal) → Some m ≡ text_in k s rest → operand_in inner b header k s rest ts ≡ Ok (Text m.0, m.1)
in_text inner b header (Quoted v) s rest ts m e =
    let same : (record { spelled = v; span = s }, rest) ≡ m = cc in ap (λ (m : TextLiteral × List Terminal). Ok (Text m.0, m.1)) same
in_text inner b header _ s rest ts m e = cc

pub operand_text : (inner : Inner) (b : ℕ) (header : Bool) (ts : List Terminal) (m : TextLiteral × List Terminal) → Some m ≡ text_at ts → operand_at inner b header ts ≡ Ok (Text m.0, m.1)
operand_text inner b header [] m e = cc
operand_text inner b header (t ∷ ts) m e = in_text inner b header t.kind t.span ts (t ∷ ts) m e

in_name : (inner : Inner) (b : ℕ) (header : Bool) (k : TerminalKind) (s : Span) (rest ts : List Terminal) (m : Ident × List Terminal) → Some m ≡ name_in k s rest → operand_in inner b header k s rest ts ≡ named_by inner b m.0 m.1 (body_at header m.0 m.1)
in_name inner b header (Spelled x) s rest ts m e =
    let same : (record { name = x; span = s }, rest) ≡ m = cc in ap (λ (m : Ident × List Terminal). named_by inner b m.0 m.1 (body_at header m.0 m.1)) same
in_name inner b header _ s rest ts m e = cc

pub operand_name : (inner : Inner) (b : ℕ) (header : Bool) (ts : List Terminal) (m : Ident × List Terminal) → Some m ≡ name_at ts → operand_at inner b header ts ≡ named_by inner b m.0 m.1 (body_at header m.0 m.1)
operand_name inner b header [] m e = cc
operand_name inner b header (t ∷ ts) m e = in_name inner b header t.kind t.span ts (t ∷ ts) m e

in_word : (inner : Inner) (b : ℕ) (header : Bool) (k : TerminalKind) (s : Span) (rest ts : List Terminal) (m : Span × List Terminal) → Some m ≡ keyword_in keyword.Struct k s rest → Some m ≡ keyword_at keyword.Struct ts → operand_in inner b header k s rest ts ≡ struct_literal inner b m.0 m.1
in_word inner b header (Word k) s rest ts m e f = ap (by_word inner b) (sym f)
in_word inner b header _ s rest ts m e f = cc

pub operand_word : (inner : Inner) (b : ℕ) (header : Bool) (ts : List Terminal) (m : Span × List Terminal) → Some m ≡ keyword_at keyword.Struct ts → operand_at inner b header ts ≡ struct_literal inner b m.0 m.1
operand_word inner b header [] m e = cc
operand_word inner b header (t ∷ ts) m e = in_word inner b header t.kind t.span ts (t ∷ ts) m e e

in_paren : (inner : Inner) (b : ℕ) (header : Bool) (k : TerminalKind) (s : Span) (rest ts : List Terminal) (m : Span × List Terminal) → Some m ≡ mark_in operator.OpenParen k s rest → Some m ≡ mark_at operator.OpenParen ts → operand_in inner b header k s rest ts ≡ (inner false 1 m.1 >>= λ x. close_by m.0 x.0 (mark_at operator.CloseParen x.1))
in_paren inner b header (Mark o) s rest ts m e f = ap (operand_by_paren inner header ts) (sym f)
in_paren inner b header _ s rest ts m e f = cc

pub operand_paren : (inner : Inner) (b : ℕ) (header : Bool) (ts : List Terminal) (m : Span × List Terminal) → Some m ≡ mark_at operator.OpenParen ts → operand_at inner b header ts ≡ (inner false 1 m.1 >>= λ x. close_by m.0 x.0 (mark_at operator.CloseParen x.1))
operand_paren inner b header [] m e = cc
operand_paren inner b header (t ∷ ts) m e = in_paren inner b header t.kind t.span ts (t ∷ ts) m e e

in_unary : (inner : Inner) (b : ℕ) (header : Bool) (k : TerminalKind) (s : Span) (rest ts : List Terminal) → None ≡ number_ahead k s rest → None ≡ text_in k s rest → None ≡ name_in k s rest → None ≡ keyword_at keyword.Struct ts → None ≡ mark_at operator.OpenParen ts → mark_that is_unary ts ≡ mark_that_in is_unary k s rest → operand_in inner b header k s rest ts ≡ by_unary inner header (mark_that_in is_unary k s rest)
in_unary inner b header (Number n) s rest ts number text name struct paren same = cc
in_unary inner b header (Quoted v) s rest ts number text name struct paren same = cc
in_unary inner b header (Spelled x) s rest ts number text name struct paren same = cc
in_unary inner b header (Word k) s rest ts number text name struct paren same = ap (by_word inner b) (sym struct)
in_unary inner b header (Mark o) s rest ts number text name struct paren same = ap (operand_by_paren inner header ts) (sym paren) ∙ ap (by_unary inner header) same
in_unary inner b header Stray s rest ts number text name struct paren same = refl

pub operand_unary : (inner : Inner) (b : ℕ) (header : Bool) (ts : List Terminal) → None ≡ number_at ts → None ≡ text_at ts → None ≡ name_at ts → None ≡ keyword_at keyword.Struct ts → None ≡ mark_at operator.OpenParen ts → operand_at inner b header ts ≡ by_unary inner header (mark_that is_unary ts)
operand_unary inner b header [] number text name struct paren = refl
operand_unary inner b header (t ∷ ts) number text name struct paren = in_unary inner b header t.kind t.span ts (t ∷ ts) number text name struct paren refl

-- a parenthesis, by what stands inside it

paren_inside : (inner : Inner) (first : Span) (ts : List Terminal) (t : ExprTree × List Terminal) → inner false 1 ts ≡ Ok t → in_parens inner first ts ≡ close_by first t.0 (mark_at operator.CloseParen t.1)
paren_inside inner first ts t read = ap (λ r. r >>= λ x. close_by first x.0 (mark_at operator.CloseParen x.1)) read

pub paren_fails : (inner : Inner) (first : Span) (ts : List Terminal) (e : Stop) → Fails e (inner false 1 ts) → Fails e (in_parens inner first ts)
paren_fails inner first ts e failed =
    bind_fails (inner false 1 ts) (λ x. close_by first x.0 (mark_at operator.CloseParen x.1)) (in_parens inner first ts) e refl failed

pub paren_unclosed : (inner : Inner) (first : Span) (ts : List Terminal) (t : ExprTree × List Terminal) (e : Stop) → inner false 1 ts ≡ Ok t → Fails e (need (mark_at operator.CloseParen t.1)) → Fails e (in_parens inner first ts)
paren_unclosed inner first ts t e read failed =
    need_fails (mark_at operator.CloseParen t.1) (close_by first t.0) (in_parens inner first ts) e (paren_inside inner first ts t read) refl failed

pub paren_is : (inner : Inner) (first : Span) (ts : List Terminal) (t : ExprTree × List Terminal) (last : Span × List Terminal) → inner false 1 ts ≡ Ok t → need (mark_at operator.CloseParen t.1) ≡ Ok last → in_parens inner first ts ≡ Ok (Paren first t.0 last.0, last.1)
paren_is inner first ts t last read closed =
    paren_inside inner first ts t read ∙ ap (close_by first t.0) (need_ok (mark_at operator.CloseParen t.1) last closed)

-- the type's name and the opening brace of a literal

no_brace : (n : TypeName) (m : MarkAhead) → is_some m ≡ false → body_by n m ≡ None
no_brace n None e = refl
no_brace n (Some m) e = cc

none_member : (x : Ident) (ts : List Terminal) (dot : Span) (o : Option (Ident × List Terminal)) → opens_member ts o ≡ false → body_behind (literal_member x ts dot o) ≡ None
none_member x ts dot None e = no_brace (type_name.Plain x) (mark_at operator.OpenBrace ts) e
none_member x ts dot (Some y) e = no_brace (type_name.Qualified x dot y.0) (mark_at operator.OpenBrace y.1) e

none_dot : (x : Ident) (ts : List Terminal) (m : MarkAhead) → opens_dot ts m ≡ false → body_behind (literal_dot x ts m) ≡ None
none_dot x ts None e = no_brace (type_name.Plain x) (mark_at operator.OpenBrace ts) e
none_dot x ts (Some dot) e = none_member x ts dot.0 (name_at dot.1) e

body_none : (header : Bool) (x : Ident) (ts : List Terminal) → opens_body header ts ≡ false → body_at header x ts ≡ None
body_none true x ts e = refl
body_none false x ts e = none_dot x ts (mark_at operator.Dot ts) e

pub named_plain : (inner : Inner) (b : ℕ) (header : Bool) (x : Ident) (ts : List Terminal) → opens_body header ts ≡ false → named_by inner b x ts (body_at header x ts) ≡ Ok (Named x, ts)
named_plain inner b header x ts e = ap (named_by inner b x ts) (body_none header x ts e)

brace_of : (m : MarkAhead) → is_some m ≡ true → (s : Span × List Terminal) × (m ≡ Some s)
brace_of None e = cc
brace_of (Some s) e = (s, refl)

some_member : (x : Ident) (ts : List Terminal) (dot : Span) (o : Option (Ident × List Terminal)) → opens_member ts o ≡ true → (s : Span × List Terminal) × (mark_at operator.OpenBrace (literal_member x ts dot o).1 ≡ Some s)
some_member x ts dot None e = brace_of (mark_at operator.OpenBrace ts) e
some_member x ts dot (Some y) e = brace_of (mark_at operator.OpenBrace y.1) e

some_dot : (x : Ident) (ts : List Terminal) (m : MarkAhead) → opens_dot ts m ≡ true → (s : Span × List Terminal) × (mark_at operator.OpenBrace (literal_dot x ts m).1 ≡ Some s)
some_dot x ts None e = brace_of (mark_at operator.OpenBrace ts) e
some_dot x ts (Some dot) e = some_member x ts dot.0 (name_at dot.1) e

-- where a brace opens, it does behind the type's name
pub body_some : (header : Bool) (x : Ident) (ts : List Terminal) → opens_body header ts ≡ true → (s : Span × List Terminal) × (mark_at operator.OpenBrace (literal_name x ts).1 ≡ Some s) × (body_at header x ts ≡ Some ((literal_name x ts).0, s.0, s.1))
body_some true x ts e = cc
body_some false x ts e =
    let s = some_dot x ts (mark_at operator.Dot ts) e in
    (s.0, s.1, ap (body_by (literal_name x ts).0) s.1)

pub named_high : (inner : Inner) (b : ℕ) (header : Bool) (x : Ident) (ts : List Terminal) → opens_body header ts ≡ true → b ≡ 0 → named_by inner b x ts (body_at header x ts) ≡ Err TooHigh
named_high inner b header x ts e none =
    ap (λ b. named_by inner b x ts (body_at header x ts)) none ∙ ap (named_by inner 0 x ts) (body_some header x ts e).2

-- arguments and elements

pub items_are : (is : List declared_item.Item) → as_items (map item_of is) ≡ items_of is
items_are [] = refl
items_are (i ∷ is) = ap (Item (shape_key i.key) (shape i.value) i.comma) (items_are is)

pub items_found : (inner : Inner) (keyed : Bool) (close : Operator) (ts rest : List Terminal) (is : List declared_item.Item) → list_all (item_ahead inner keyed) operator.Comma close ts ≡ Ok (map item_of is, rest) → items_at inner keyed close ts ≡ Ok (items_of is, rest)
items_found inner keyed close ts rest is e =
    ap (λ r. r >>= λ x. Ok (as_items x.0, x.1)) e ∙ ap (λ l. Ok (l, rest)) (items_are is)

pub items_fail : {Y : Type 0} (inner : Inner) (keyed : Bool) (close : Operator) (ts : List Terminal) (go : ItemTrees × List Terminal → Result Y Stuck) (whole : Result Y Stuck) (e : Stop) → whole ≡ (items_at inner keyed close ts >>= go) → Fails e (list_all (item_ahead inner keyed) operator.Comma close ts) → Fails e whole
items_fail inner keyed close ts go whole e is failed =
    fails_along (list_all (item_ahead inner keyed) operator.Comma close ts) whole e (λ f g. is ∙ ap (λ r. (r >>= λ x. Ok (as_items x.0, x.1)) >>= go) g) failed

-- arguments and elements with the mark that closes them

pub closed_are : (inner : Inner) (keyed : Bool) (close : Operator) (ts behind : List Terminal) (is : ItemTrees) (last : Span × List Terminal) → items_at inner keyed close ts ≡ Ok (is, behind) → need (mark_at close behind) ≡ Ok last → closed_at inner keyed close ts ≡ Ok ((is, last.0), last.1)
closed_are inner keyed close ts behind is last found closed =
    ap (λ r. r >>= λ y. closed_by y.0 (mark_at close y.1)) found ∙ ap (closed_by is) (need_ok (mark_at close behind) last closed)

pub closed_fail : (inner : Inner) (keyed : Bool) (close : Operator) (ts : List Terminal) (e : Stop) → Fails e (list_all (item_ahead inner keyed) operator.Comma close ts) → Fails e (closed_at inner keyed close ts)
closed_fail inner keyed close ts e failed =
    items_fail inner keyed close ts (λ y. closed_by y.0 (mark_at close y.1)) (closed_at inner keyed close ts) e refl failed

pub closed_missing : (inner : Inner) (keyed : Bool) (close : Operator) (ts behind : List Terminal) (is : ItemTrees) (e : Stop) → items_at inner keyed close ts ≡ Ok (is, behind) → Fails e (need (mark_at close behind)) → Fails e (closed_at inner keyed close ts)
closed_missing inner keyed close ts behind is e found failed =
    need_fails (mark_at close behind) (closed_by is) (closed_at inner keyed close ts) e (ap (λ r. r >>= λ y. closed_by y.0 (mark_at close y.1)) found) refl failed

-- what they belong to
pub closed_as : (r : Reading ItemTrees) (close : Operator) (make : ClosedTree → ExprTree) (by : ItemTrees → MarkAhead → Reading ExprTree) → ((is : ItemTrees) → by is None ≡ Err Grammar) → ((is : ItemTrees) (last : Span × List Terminal) → by is (Some last) ≡ Ok (make (is, last.0), last.1)) → (r >>= λ y. by y.0 (mark_at close y.1)) ≡ ((r >>= λ y. closed_by y.0 (mark_at close y.1)) >>= λ z. Ok (make z.0, z.1))
closed_as (Err f) close make by none some = refl
closed_as (Ok y) close make by none some = at (mark_at close y.1)
  where
    at : (o : MarkAhead) → by y.0 o ≡ (closed_by y.0 o >>= λ z. Ok (make z.0, z.1))
    at None = none y.0
    at (Some last) = some y.0 last

fused : (r : Reading ClosedTree) (first : Span) (make : ElementsTree → ExprTree) → ◌>>=◌ {B = ExprTree × List Terminal} r (λ z. Ok (make (first, z.0.0, z.0.1), z.1)) ≡ ((r >>= with_opening first) >>= λ z. Ok (make z.0, z.1))
fused (Ok z) first make = refl
fused (Err e) first make = refl

elements_as : (inner : Inner) (first : Span × List Terminal) (make : ElementsTree → ExprTree) (by : ItemTrees → MarkAhead → Reading ExprTree) → ((is : ItemTrees) → by is None ≡ Err Grammar) → ((is : ItemTrees) (last : Span × List Terminal) → by is (Some last) ≡ Ok (make (first.0, is, last.0), last.1)) → (items_at inner true operator.CloseBrace first.1 >>= λ y. by y.0 (mark_at operator.CloseBrace y.1)) ≡ (opened_by inner (Some first) >>= λ z. Ok (make z.0, z.1))
elements_as inner first make by none some =
    closed_as (items_at inner true operator.CloseBrace first.1) operator.CloseBrace (λ z. make (first.0, z.0, z.1)) by none some
    ∙ fused (closed_at inner true operator.CloseBrace first.1) first.0 make

-- the elements of a literal, with what they belong to

abbrev pub literal_from : Inner → TypeName → Span → List Terminal → Reading ExprTree
literal_from inner n first ts = items_at inner true operator.CloseBrace ts >>= λ y. literal_by n first y.0 (mark_at operator.CloseBrace y.1)

abbrev pub literal_with : TypeName → ElementsTree → ExprTree
literal_with n z = Literal n z.0 z.1 z.2

pub named_elements : (inner : Inner) (b : ℕ) (header : Bool) (x : Ident) (ts : List Terminal) (n : TypeName × List Terminal) → opens_body header ts ≡ true → 0 < b → n ≡ literal_name x ts → named_by inner b x ts (body_at header x ts) ≡ (elements_at inner n.1 >>= λ z. Ok (literal_with n.0 z.0, z.1))
named_elements inner b header x ts n opens some is =
    let s = body_some header x ts opens in
    let first = s.0 in
    let name = literal_name x ts in
    ap (named_by inner b x ts) s.2
    ∙ ap (λ c. cond c (literal_from inner name.0 first.0 first.1) (Err TooHigh)) (lt-ltb 0 b some)
    ∙ elements_as inner first (literal_with name.0) (literal_by name.0 first.0) (λ is. refl) (λ is last. refl)
    ∙ ap (λ o. opened_by inner o >>= λ z. Ok (literal_with name.0 z.0, z.1)) (sym s.1)
    ∙ ap (λ (n : TypeName × List Terminal). elements_at inner n.1 >>= λ z. Ok (literal_with n.0 z.0, z.1)) (sym is)

abbrev pub struct_with : TypeTree → ElementsTree → ExprTree
struct_with t z = StructLiteral t z.0 z.1 z.2

pub struct_elements : (inner : Inner) (t : TypeTree) (o : MarkAhead) → struct_body inner t o ≡ (opened_by inner o >>= λ z. Ok (struct_with t z.0, z.1))
struct_elements inner t None = refl
struct_elements inner t (Some first) = elements_as inner first (struct_with t) (struct_literal_by t first.0) (λ is. refl) (λ is last. refl)

pub elements_are : (inner : Inner) (ts : List Terminal) (first : Span × List Terminal) (x : ClosedTree × List Terminal) → need (mark_at operator.OpenBrace ts) ≡ Ok first → closed_at inner true operator.CloseBrace first.1 ≡ Ok x → elements_at inner ts ≡ Ok ((first.0, x.0.0, x.0.1), x.1)
elements_are inner ts first x opened found =
    ap (opened_by inner) (need_ok (mark_at operator.OpenBrace ts) first opened) ∙ ap (λ r. r >>= with_opening first.0) found

pub elements_unopened : (inner : Inner) (ts : List Terminal) (e : Stop) → Fails e (need (mark_at operator.OpenBrace ts)) → Fails e (elements_at inner ts)
elements_unopened inner ts e failed = need_fails (mark_at operator.OpenBrace ts) (opened_by inner) (elements_at inner ts) e refl refl failed

pub elements_fail : (inner : Inner) (ts : List Terminal) (first : Span × List Terminal) (e : Stop) → need (mark_at operator.OpenBrace ts) ≡ Ok first → Fails e (closed_at inner true operator.CloseBrace first.1) → Fails e (elements_at inner ts)
elements_fail inner ts first e opened failed =
    bind_fails (closed_at inner true operator.CloseBrace first.1) (with_opening first.0) (elements_at inner ts) e (ap (opened_by inner) (need_ok (mark_at operator.OpenBrace ts) first opened)) failed
