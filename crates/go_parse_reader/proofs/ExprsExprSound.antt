-- What is read as an expression is spelled in front, respects the rules, is low enough and as long as it can be.
use Rattle.std.proofs.Common.{◌≡◌, ℕ, zero, suc, ◌+◌, ◌<◌, ◌≤◌, Bool, true, false, List, [], ◌∷◌, ◌++◌, length, Option, Some, None, Result, Ok, Err, refl, sym, ap, ◌∙◌, subst, arith, cond, append_assoc, length-append}
use Rattle.std.proofs.lemmas.Bool.{ltb-true, leb-true, leb-false}
use Rattle.std.specs.Prelude.{nat_lt, nat_le}
use Rattle.go_tree_nodes.specs.text_core.declared.span.Span.{Span}
use Rattle.go_tree_nodes.specs.token_core.declared.kind.Keyword.TheVariants as keyword
use Rattle.go_tree_nodes.specs.token_core.declared.kind.Operator.{Operator}
use Rattle.go_tree_nodes.specs.token_core.declared.kind.Operator.TheVariants as operator
use Rattle.go_tree_nodes.specs.declared.names.Ident.{Ident}
use Rattle.go_tree_nodes.specs.declared.types.TypeName.{TypeName}
use Rattle.go_tree_nodes.specs.declared.types.TypeName.TheVariants as type_name
use Rattle.go_tree_nodes.specs.declared.exprs.Key.{Key}
use Rattle.go_tree_nodes.specs.Terminals.{TerminalKind, Spelled, Number, Quoted, Word, Mark, Stray, Terminal, terminal}
use Rattle.go_tree_nodes.specs.Trees.{TypeTree, NamedType, Pointer, ParenType, Struct, Interface, ExprTree, ItemTrees, Integer, Text, Named, Paren, Unary, Binary, Select, Call, Literal, StructLiteral}
use Rattle.go_tree_nodes.specs.Spelling.{mark, word, spell_ident, spell_type_name, spell_type, spell_key, spell, spell_items}
use Rattle.go_tree_nodes.specs.Rules.{rank_of, unary_rank, primary_rank, is_unary, MayHaveKey, IsFalse, IsStructType, Binds, Wf, Wf_items}
use Rattle.go_tree_nodes.specs.Heights.{height, items_height}
use Rattle.go_parse_reader.specs.types.mirrors.Marks.{Stuck, TooHigh, ◌>>=◌, Reading, MarkAhead, need, mark_at, keyword_at, name_at, mark_that, list_go}
use Rattle.go_parse_reader.specs.exprs.mirrors.ExprReading.{Inner, ItemTree, key_by, key_of_name, key_at, item_by, item_ahead, as_items, items_at, close_by, literal_member, literal_dot, literal_name, Body, body_by, body_at, literal_by, named_by, struct_literal_by, struct_body, struct_type, by_word, by_unary, operand_by_paren, operand_in, operand_at, Next, Operate, Pick, Apply, next_apply, next_pick, next_operate, has_rank, next_at, call_by, step, turn, chain, expr_at}
use Rattle.go_parse_reader.proofs.TypesMarks.{none_when, mark_was, mark_here, word_was, name_was, mark_that_was, bind_ok, need_ok}
use Rattle.go_parse_reader.proofs.TypesLists.{ReadsItem, list_sound}
use Rattle.go_parse_reader.proofs.TypesTypeFacts.{ReadsType}
use Rattle.go_parse_reader.proofs.TypesTypes.{type_sound}
use Rattle.go_parse_reader.proofs.ExprsBehind.{rank_low, next_free}
use Rattle.go_parse_reader.proofs.ExprsFronts.{spell_some}
use Rattle.go_parse_reader.proofs.ExprsItems.{spell_item, item_height, list_spelled_items, list_items_height, Wf_item, list_wf_items}
use Rattle.go_parse_reader.proofs.ExprsExprFound.{item_some, struct_type_is}

-- what stands in front does not belong to the right end of the tree
abbrev pub Done : ExprTree → List Terminal → Type 0
Done (Unary op s t) ts = next_at unary_rank ts ≡ None
Done (Binary a op s b) ts = next_at (rank_of op + 1) ts ≡ None
Done _ ts = Unit {0}

pub record Reads (b : ℕ) (header : Bool) (least : ℕ) (ts : List Terminal) (x : ExprTree × List Terminal) : Type 0 where
  pub spelled : ts ≡ spell x.0 ++ x.1
  pub wf : Wf header x.0
  pub ranked : Binds least x.0
  pub low : height x.0 ≤ b
  pub stops : next_at least x.1 ≡ None

pub record ReadsItems (b : ℕ) (keyed : Bool) (ts : List Terminal) (x : ItemTrees × List Terminal) : Type 0 where
  pub spelled : ts ≡ spell_items x.0 ++ x.1
  pub wf : Wf_items keyed x.0
  pub low : items_height x.0 ≤ b

record ReadsOperand (b : ℕ) (header : Bool) (ts : List Terminal) (x : ExprTree × List Terminal) : Type 0 where
  pub spelled : ts ≡ spell x.0 ++ x.1
  pub wf : Wf header x.0
  pub ranked : Binds unary_rank x.0
  pub low : height x.0 ≤ suc b
  pub done : Done x.0 x.1

-- what reading inside gives
abbrev pub Inside : ℕ → Inner → Type 0
Inside b inner = (header : Bool) (least : ℕ) (ts : List Terminal) (x : ExprTree × List Terminal) → 0 < least → least ≤ unary_rank → inner header least ts ≡ Ok x → Reads b header least ts x

abbrev ItemRead : ℕ → Bool → List Terminal → ItemTree × List Terminal → Type 0
ItemRead b keyed ts x = ReadsItem ItemTree spell_item item_height (Wf_item keyed) b ts x

ok_when : {A : Type 0} (c : Bool) (r : Result A Stuck) (x : A) → cond c r (Err TooHigh) ≡ Ok x → (c ≡ true) × (r ≡ Ok x)
ok_when true r x e = (refl, e)
ok_when false r x e = cc

-- items

plain_item : (b : ℕ) (keyed : Bool) (inner : Inner) → Inside b inner → (ts : List Terminal) (x : ItemTree × List Terminal) → item_by inner ts None ≡ Ok x → ItemRead b keyed ts x
plain_item b keyed inner ih ts x e =
    let w = bind_ok (inner false 1 ts) (λ x. Ok ((None, x.0), x.1)) x e in
    let r = ih false 1 ts w.0 (omega arith) (omega arith) w.1 in
    let same : ((None, w.0.0), w.0.1) ≡ x = cc (w.2) in
    subst (ItemRead b keyed ts) same (record { spelled_as = r.spelled; wf = (free keyed, r.wf); low = r.low })
  where
    free : (keyed : Bool) → MayHaveKey keyed None
    free true = tt
    free false = tt

key_was : (ts : List Terminal) (k : Key × List Terminal) → key_at ts ≡ Some k → ts ≡ spell_key (Some k.0) ++ k.1
key_was ts k e = named (name_at ts) refl e
  where
    colon : (x : Ident) (rest : List Terminal) (m : MarkAhead) → mark_at operator.Colon rest ≡ m → key_by x m ≡ Some k → spell_ident x ∷ rest ≡ spell_key (Some k.0) ++ k.1
    colon x rest None at e = cc
    colon x rest (Some c) at e =
        let same : (record { name = x; colon = c.0 }, c.1) ≡ k = cc in
        ap (λ l. spell_ident x ∷ l) (mark_was operator.Colon rest c at) ∙ ap (λ (k : Key × List Terminal). spell_key (Some k.0) ++ k.1) same

    named : (o : Option (Ident × List Terminal)) → name_at ts ≡ o → key_of_name o ≡ Some k → ts ≡ spell_key (Some k.0) ++ k.1
    named None at e = cc
    named (Some x) at e = name_was ts x at ∙ colon x.0 x.1 (mark_at operator.Colon x.1) refl e

keyed_item : (b : ℕ) (inner : Inner) → Inside b inner → (ts : List Terminal) (o : Option (Key × List Terminal)) → key_at ts ≡ o → (x : ItemTree × List Terminal) → item_by inner ts o ≡ Ok x → ItemRead b true ts x
keyed_item b inner ih ts None at x e = plain_item b true inner ih ts x e
keyed_item b inner ih ts (Some k) at x e =
    let w = bind_ok (inner false 1 k.1) (λ x. Ok ((Some k.0, x.0), x.1)) x e in
    let r = ih false 1 k.1 w.0 (omega arith) (omega arith) w.1 in
    let same : ((Some k.0, w.0.0), w.0.1) ≡ x = cc (w.2) in
    subst (ItemRead b true ts) same (record { spelled_as = key_was ts k at ∙ ap (λ l. spell_key (Some k.0) ++ l) r.spelled; wf = (tt, r.wf); low = r.low })

item_reads : (b : ℕ) (keyed : Bool) (inner : Inner) → Inside b inner → (ts : List Terminal) (x : ItemTree × List Terminal) → item_ahead inner keyed ts ≡ Ok x → ItemRead b keyed ts x
item_reads b false inner ih ts x e = plain_item b false inner ih ts x e
item_reads b true inner ih ts x e = keyed_item b inner ih ts (key_at ts) refl x e

items_read : (b : ℕ) (inner : Inner) → Inside b inner → (keyed : Bool) (close : Operator) (ts : List Terminal) (y : ItemTrees × List Terminal) → items_at inner keyed close ts ≡ Ok y → ReadsItems b keyed ts y
items_read b inner ih keyed close ts y e =
    let w = bind_ok (list_go (item_ahead inner keyed) operator.Comma close (suc (length ts)) ts) (λ x. Ok (as_items x.0, x.1)) y e in
    let r = list_sound ItemTree (item_ahead inner keyed) spell_item operator.Comma close item_height (Wf_item keyed) b (item_reads b keyed inner ih) (suc (length ts)) ts w.0 w.1 in
    let xs = w.0.0 in
    let same : (as_items xs, w.0.1) ≡ y = cc (w.2) in
    subst (ReadsItems b keyed ts) same (record { spelled = r.spelled_as ∙ ap (λ l. l ++ w.0.1) (list_spelled_items xs); wf = list_wf_items keyed xs r.wf; low = omega (arith, r.low, list_items_height xs) })

-- the type of a literal

type_spelled : (x : Ident) (rest : List Terminal) → spell_ident x ∷ rest ≡ spell_type_name (literal_name x rest).0 ++ (literal_name x rest).1
type_spelled x rest = dot (mark_at operator.Dot rest) refl
  where
    member : (d : Span) (after : List Terminal) (o : Option (Ident × List Terminal)) → rest ≡ mark operator.Dot d ∷ after → name_at after ≡ o → spell_ident x ∷ rest ≡ spell_type_name (literal_member x rest d o).0 ++ (literal_member x rest d o).1
    member d after None is at = refl
    member d after (Some y) is at = ap (λ l. spell_ident x ∷ l) (is ∙ ap (λ l. mark operator.Dot d ∷ l) (name_was after y at))

    dot : (m : MarkAhead) → mark_at operator.Dot rest ≡ m → spell_ident x ∷ rest ≡ spell_type_name (literal_dot x rest m).0 ++ (literal_dot x rest m).1
    dot None at = refl
    dot (Some d) at = member d.0 d.1 (name_at d.1) (mark_was operator.Dot rest d at) refl

body_was : (header : Bool) (x : Ident) (rest : List Terminal) (n : TypeName × Span × List Terminal) → body_at header x rest ≡ Some n → (spell_ident x ∷ rest ≡ spell_type_name n.0 ++ (mark operator.OpenBrace n.1 ∷ n.2)) × IsFalse header
body_was true x rest n e = cc
body_was false x rest n e = (brace (literal_name x rest) (type_spelled x rest) (mark_at operator.OpenBrace (literal_name x rest).1) refl e, tt)
  where
    brace : (y : TypeName × List Terminal) → spell_ident x ∷ rest ≡ spell_type_name y.0 ++ y.1 → (m : MarkAhead) → mark_at operator.OpenBrace y.1 ≡ m → body_by y.0 m ≡ Some n → spell_ident x ∷ rest ≡ spell_type_name n.0 ++ (mark operator.OpenBrace n.1 ∷ n.2)
    brace y is None at e = cc
    brace y is (Some a) at e =
        let same : (y.0, a.0, a.1) ≡ n = cc in
        is ∙ ap (λ l. spell_type_name y.0 ++ l) (mark_was operator.OpenBrace y.1 a at) ∙ ap (λ (n : TypeName × Span × List Terminal). spell_type_name n.0 ++ (mark operator.OpenBrace n.1 ∷ n.2)) same

-- a type that begins with `struct` is a struct type
begins_struct : (t : TypeTree) (k : Span) (ts rest : List Terminal) → word keyword.Struct k ∷ ts ≡ spell_type t ++ rest → IsStructType t
begins_struct (NamedType (type_name.Plain x)) k ts rest e = cc (ap (keyword_at keyword.Struct) e)
begins_struct (NamedType (type_name.Qualified p dot x)) k ts rest e = cc (ap (keyword_at keyword.Struct) e)
begins_struct (Pointer star t) k ts rest e = cc (ap (keyword_at keyword.Struct) e)
begins_struct (ParenType a t z) k ts rest e = cc (ap (keyword_at keyword.Struct) e)
begins_struct (Struct a b fs z) k ts rest e = tt
begins_struct (Interface a b ms z) k ts rest e = cc (ap (keyword_at keyword.Struct) e)

-- operands

close_reads : (b : ℕ) (header : Bool) (s : Span) (ts : List Terminal) (y : ExprTree × List Terminal) → Reads b false 1 ts y → (m : MarkAhead) → mark_at operator.CloseParen y.1 ≡ m → (x : ExprTree × List Terminal) → close_by s y.0 m ≡ Ok x → ReadsOperand b header (mark operator.OpenParen s ∷ ts) x
close_reads b header s ts y h None at x e = cc
close_reads b header s ts y h (Some c) at x e =
    let same : (Paren s y.0 c.0, c.1) ≡ x = cc in
    let last = mark operator.CloseParen c.0 in
    let path : ts ≡ (spell y.0 ++ (last ∷ [])) ++ c.1 = h.spelled ∙ ap (λ l. spell y.0 ++ l) (mark_was operator.CloseParen y.1 c at) ∙ sym (append_assoc (spell y.0) (last ∷ []) c.1) in
    subst (ReadsOperand b header (mark operator.OpenParen s ∷ ts)) same (record { spelled = ap (λ l. mark operator.OpenParen s ∷ l) path; wf = h.wf; ranked = tt; low = omega (arith, h.low); done = tt })

-- what stands between braces, up to the closing one
braces_spelled : (front : List Terminal) (first : Span) (is : ItemTrees) (last : Span) (ts middle rest : List Terminal) → ts ≡ spell_items is ++ middle → middle ≡ mark operator.CloseBrace last ∷ rest → front ++ (mark operator.OpenBrace first ∷ ts) ≡ (front ++ (mark operator.OpenBrace first ∷ (spell_items is ++ mark operator.CloseBrace last ∷ []))) ++ rest
braces_spelled front first is last ts middle rest spelled at =
    let end = mark operator.CloseBrace last in
    let path : ts ≡ (spell_items is ++ (end ∷ [])) ++ rest = spelled ∙ ap (λ l. spell_items is ++ l) at ∙ sym (append_assoc (spell_items is) (end ∷ []) rest) in
    ap (λ l. front ++ (mark operator.OpenBrace first ∷ l)) path ∙ sym (append_assoc front (mark operator.OpenBrace first ∷ (spell_items is ++ (end ∷ []))) rest)

literal_reads : (b : ℕ) (header : Bool) (n : TypeName) (first : Span) (ts : List Terminal) (y : ItemTrees × List Terminal) → IsFalse header → 0 < b → ReadsItems b true ts y → (m : MarkAhead) → mark_at operator.CloseBrace y.1 ≡ m → (x : ExprTree × List Terminal) → literal_by n first y.0 m ≡ Ok x → ReadsOperand b header (spell_type_name n ++ (mark operator.OpenBrace first ∷ ts)) x
literal_reads b header n first ts y out some h None at x e = cc
literal_reads b header n first ts y out some h (Some z) at x e =
    let same : (Literal n first y.0 z.0, z.1) ≡ x = cc in
    subst (ReadsOperand b header (spell_type_name n ++ (mark operator.OpenBrace first ∷ ts))) same (record { spelled = braces_spelled (spell_type_name n) first y.0 z.0 ts y.1 z.1 h.spelled (mark_was operator.CloseBrace y.1 z at); wf = (out, h.wf); ranked = tt; low = omega (arith, h.low); done = tt })

named_reads : (b : ℕ) (inner : Inner) → Inside b inner → (header : Bool) (n : Ident) (ts : List Terminal) (o : Body) → body_at header n ts ≡ o → (x : ExprTree × List Terminal) → named_by inner b n ts o ≡ Ok x → ReadsOperand b header (spell_ident n ∷ ts) x
named_reads b inner ih header n ts None at x e =
    let same : (Named n, ts) ≡ x = cc in
    subst (ReadsOperand b header (spell_ident n ∷ ts)) same (record { spelled = refl; wf = tt; ranked = tt; low = omega arith; done = tt })
named_reads b inner ih header n ts (Some t) at x e =
    let c = ok_when (nat_lt 0 b) (items_at inner true operator.CloseBrace t.2 >>= λ y. literal_by t.0 t.1 y.0 (mark_at operator.CloseBrace y.1)) x e in
    let w = bind_ok (items_at inner true operator.CloseBrace t.2) (λ y. literal_by t.0 t.1 y.0 (mark_at operator.CloseBrace y.1)) x c.1 in
    let was = body_was header n ts t at in
    subst (λ l. ReadsOperand b header l x) (sym was.0) (literal_reads b header t.0 t.1 t.2 w.0 was.1 (ltb-true _ _ c.0) (items_read b inner ih true operator.CloseBrace t.2 w.0 w.1) (mark_at operator.CloseBrace w.0.1) refl x w.2)

struct_literal_reads : (b : ℕ) (header : Bool) (t : TypeTree) (first : Span) (ts : List Terminal) (y : ItemTrees × List Terminal) → IsStructType t → (all after : List Terminal) → ReadsType b all (t, after) → after ≡ mark operator.OpenBrace first ∷ ts → ReadsItems b true ts y → (m : MarkAhead) → mark_at operator.CloseBrace y.1 ≡ m → (x : ExprTree × List Terminal) → struct_literal_by t first y.0 m ≡ Ok x → ReadsOperand b header all x
struct_literal_reads b header t first ts y is all after r brace h None at x e = cc
struct_literal_reads b header t first ts y is all after r brace h (Some z) at x e =
    let same : (StructLiteral t first y.0 z.0, z.1) ≡ x = cc in
    let path = r.spelled ∙ ap (λ l. spell_type t ++ l) brace ∙ braces_spelled (spell_type t) first y.0 z.0 ts y.1 z.1 h.spelled (mark_was operator.CloseBrace y.1 z at) in
    subst (ReadsOperand b header all) same (record { spelled = path; wf = (is, r.wf, h.wf); ranked = tt; low = omega (arith, r.low, h.low); done = tt })

struct_body_reads : (b : ℕ) (inner : Inner) → Inside b inner → (header : Bool) (t : TypeTree × List Terminal) → IsStructType t.0 → (all : List Terminal) → ReadsType b all t → (m : MarkAhead) → mark_at operator.OpenBrace t.1 ≡ m → (x : ExprTree × List Terminal) → struct_body inner t.0 m ≡ Ok x → ReadsOperand b header all x
struct_body_reads b inner ih header t is all r None at x e = cc
struct_body_reads b inner ih header t is all r (Some first) at x e =
    let w = bind_ok (items_at inner true operator.CloseBrace first.1) (λ y. struct_literal_by t.0 first.0 y.0 (mark_at operator.CloseBrace y.1)) x e in
    struct_literal_reads b header t.0 first.0 first.1 w.0 is all t.1 r (mark_was operator.OpenBrace t.1 first at) (items_read b inner ih true operator.CloseBrace first.1 w.0 w.1) (mark_at operator.CloseBrace w.0.1) refl x w.2

word_reads : (b : ℕ) (inner : Inner) → Inside b inner → (header : Bool) (ts : List Terminal) (m : MarkAhead) → keyword_at keyword.Struct ts ≡ m → (x : ExprTree × List Terminal) → by_word inner b m ≡ Ok x → ReadsOperand b header ts x
word_reads b inner ih header ts None at x e = cc
word_reads b inner ih header ts (Some k) at x e =
    let all = word keyword.Struct k.0 ∷ k.1 in
    let w = bind_ok (struct_type b k.0 k.1) (λ t. struct_body inner t.0 (mark_at operator.OpenBrace t.1)) x e in
    let r = type_sound b all w.0 (sym (struct_type_is b k.0 k.1) ∙ w.1) in
    subst (λ l. ReadsOperand b header l x) (sym (word_was keyword.Struct ts k at)) (struct_body_reads b inner ih header w.0 (begins_struct w.0.0 k.0 k.1 w.0.1 r.spelled) all r (mark_at operator.OpenBrace w.0.1) refl x w.2)

unary_reads : (b : ℕ) (inner : Inner) → Inside b inner → (header : Bool) (ts : List Terminal) (o : Option (Operator × Span × List Terminal)) → mark_that is_unary ts ≡ o → (x : ExprTree × List Terminal) → by_unary inner header o ≡ Ok x → ReadsOperand b header ts x
unary_reads b inner ih header ts None at x e = cc
unary_reads b inner ih header ts (Some o) at x e =
    let w = bind_ok (inner header unary_rank o.2) (λ x. Ok (Unary o.0 o.1 x.0, x.1)) x e in
    let r = ih header unary_rank o.2 w.0 (omega arith) (omega arith) w.1 in
    let was = mark_that_was is_unary ts o at in
    let same : (Unary o.0 o.1 w.0.0, w.0.1) ≡ x = cc (w.2) in
    subst (ReadsOperand b header ts) same (record { spelled = was.0 ∙ ap (λ l. mark o.0 o.1 ∷ l) r.spelled; wf = (was.1, r.wf, r.ranked); ranked = omega arith; low = omega (arith, r.low); done = r.stops })

paren_reads : (b : ℕ) (inner : Inner) → Inside b inner → (header : Bool) (ts : List Terminal) (m : MarkAhead) → mark_at operator.OpenParen ts ≡ m → (x : ExprTree × List Terminal) → operand_by_paren inner header ts m ≡ Ok x → ReadsOperand b header ts x
paren_reads b inner ih header ts None at x e = unary_reads b inner ih header ts (mark_that is_unary ts) refl x e
paren_reads b inner ih header ts (Some first) at x e =
    let w = bind_ok (inner false 1 first.1) (λ y. close_by first.0 y.0 (mark_at operator.CloseParen y.1)) x e in
    subst (λ l. ReadsOperand b header l x) (sym (mark_was operator.OpenParen ts first at)) (close_reads b header first.0 first.1 w.0 (ih false 1 first.1 w.0 (omega arith) (omega arith) w.1) (mark_at operator.CloseParen w.0.1) refl x w.2)

operand_in_reads : (b : ℕ) (inner : Inner) → Inside b inner → (header : Bool) (k : TerminalKind) (s : Span) (ts : List Terminal) (x : ExprTree × List Terminal) → operand_in inner b header k s ts (terminal k s ∷ ts) ≡ Ok x → ReadsOperand b header (terminal k s ∷ ts) x
operand_in_reads b inner ih header (Number n) s ts x e =
    let same : (Integer n s, ts) ≡ x = cc in
    subst (ReadsOperand b header (terminal (Number n) s ∷ ts)) same (record { spelled = refl; wf = tt; ranked = tt; low = omega arith; done = tt })
operand_in_reads b inner ih header (Quoted v) s ts x e =
    let same : (Text (record { spelled = v; span = s }), ts) ≡ x = cc in
    subst (ReadsOperand b header (terminal (Quoted v) s ∷ ts)) same (record { spelled = refl; wf = tt; ranked = tt; low = omega arith; done = tt })
operand_in_reads b inner ih header (Spelled n) s ts x e = named_reads b inner ih header (record { name = n; span = s }) ts (body_at header (record { name = n; span = s }) ts) refl x e
operand_in_reads b inner ih header (Word k) s ts x e = word_reads b inner ih header (terminal (Word k) s ∷ ts) (keyword_at keyword.Struct (terminal (Word k) s ∷ ts)) refl x e
operand_in_reads b inner ih header (Mark o) s ts x e = paren_reads b inner ih header (terminal (Mark o) s ∷ ts) (mark_at operator.OpenParen (terminal (Mark o) s ∷ ts)) refl x e
operand_in_reads b inner ih header Stray s ts x e = cc

operand_reads : (b : ℕ) (inner : Inner) → Inside b inner → (header : Bool) (ts : List Terminal) (x : ExprTree × List Terminal) → operand_at inner b header ts ≡ Ok x → ReadsOperand b header ts x
operand_reads b inner ih header [] x e = cc
operand_reads b inner ih header (t ∷ ts) x e = operand_in_reads b inner ih header t.kind t.span ts x e

binds_less : (least : ℕ) (t : ExprTree) → least ≤ unary_rank → Binds unary_rank t → Binds least t
binds_less least (Integer x s) le h = tt
binds_less least (Text x) le h = tt
binds_less least (Named x) le h = tt
binds_less least (Paren f t z) le h = tt
binds_less least (Unary p s t) le h = le
binds_less least (Binary a o s b) le h = absurd (omega (arith, rank_low o))
binds_less least (Select t d x) le h = tt
binds_less least (Call t f is z) le h = tt
binds_less least (Literal x f is z) le h = tt
binds_less least (StructLiteral x f is z) le h = tt

-- what comes next

abbrev spell_next : Next → List Terminal
spell_next (Operate o s rest) = mark o s ∷ rest
spell_next (Pick s rest) = mark operator.Dot s ∷ rest
spell_next (Apply s rest) = mark operator.OpenParen s ∷ rest

abbrev NextBinds : ℕ → Next → Type 0
NextBinds least (Operate o s rest) = least ≤ rank_of o
NextBinds least _ = Unit {0}

abbrev IsNext : ℕ → List Terminal → Next → Type 0
IsNext least ts n = (ts ≡ spell_next n) × NextBinds least n

apply_was : (least : ℕ) (ts : List Terminal) (p : MarkAhead) → mark_at operator.OpenParen ts ≡ p → (n : Next) → next_apply p ≡ Some n → IsNext least ts n
apply_was least ts None at n e = cc
apply_was least ts (Some first) at n e =
    let same : Apply first.0 first.1 ≡ n = cc in subst (IsNext least ts) same (mark_was operator.OpenParen ts first at, tt)

pick_was : (least : ℕ) (ts : List Terminal) (p : MarkAhead) → mark_at operator.Dot ts ≡ p → (n : Next) → next_pick ts p ≡ Some n → IsNext least ts n
pick_was least ts None at n e = apply_was least ts (mark_at operator.OpenParen ts) refl n e
pick_was least ts (Some dot) at n e =
    let same : Pick dot.0 dot.1 ≡ n = cc in subst (IsNext least ts) same (mark_was operator.Dot ts dot at, tt)

operate_was : (least : ℕ) (ts : List Terminal) (o : Option (Operator × Span × List Terminal)) → mark_that (has_rank least) ts ≡ o → (n : Next) → next_operate ts o ≡ Some n → IsNext least ts n
operate_was least ts None at n e = pick_was least ts (mark_at operator.Dot ts) refl n e
operate_was least ts (Some o) at n e =
    let was = mark_that_was (has_rank least) ts o at in
    let same : Operate o.0 o.1 o.2 ≡ n = cc in subst (IsNext least ts) same (was.0, leb-true _ _ was.1)

next_was : (least : ℕ) (ts : List Terminal) (n : Next) → next_at least ts ≡ Some n → IsNext least ts n
next_was least ts n e = operate_was least ts (mark_that (has_rank least) ts) refl n e

-- a left side that what comes next may follow
abbrev Takes : ExprTree → Next → Type 0
Takes t (Operate o s rest) = Binds (rank_of o) t
Takes t _ = Binds primary_rank t

weaker : (least : ℕ) (o : Operator) (s : Span) (ts : List Terminal) → next_at least (mark o s ∷ ts) ≡ None → rank_of o < least
weaker least o s ts e = leb-false least (rank_of o) (none_when (nat_le least (rank_of o)) (o, s, ts) (next_free least (mark o s ∷ ts) e).0)

operator_takes : (t : ExprTree) (o : Operator) (s : Span) (ts : List Terminal) → Done t (mark o s ∷ ts) → Binds (rank_of o) t
operator_takes (Integer x z) o s ts h = tt
operator_takes (Text x) o s ts h = tt
operator_takes (Named x) o s ts h = tt
operator_takes (Paren f t z) o s ts h = tt
operator_takes (Unary p z t) o s ts h = omega (arith, rank_low o)
operator_takes (Binary a p z b) o s ts h = omega (arith, weaker (rank_of p + 1) o s ts h)
operator_takes (Select t d x) o s ts h = tt
operator_takes (Call t f is z) o s ts h = tt
operator_takes (Literal n f is z) o s ts h = tt
operator_takes (StructLiteral n f is z) o s ts h = tt

primary_takes : (t : ExprTree) (ts : List Terminal) → ((least : ℕ) → next_at least ts ≡ None → ⊥) → Done t ts → Binds primary_rank t
primary_takes (Integer x z) ts goes h = tt
primary_takes (Text x) ts goes h = tt
primary_takes (Named x) ts goes h = tt
primary_takes (Paren f t z) ts goes h = tt
primary_takes (Unary p z t) ts goes h = absurd (goes unary_rank h)
primary_takes (Binary a p z b) ts goes h = absurd (goes (rank_of p + 1) h)
primary_takes (Select t d x) ts goes h = tt
primary_takes (Call t f is z) ts goes h = tt
primary_takes (Literal n f is z) ts goes h = tt
primary_takes (StructLiteral n f is z) ts goes h = tt

done_takes : (t : ExprTree) (n : Next) → Done t (spell_next n) → Takes t n
done_takes t (Operate o s rest) h = operator_takes t o s rest h
done_takes t (Pick s rest) h =
    primary_takes t (mark operator.Dot s ∷ rest) (λ least e. cc ((next_free least (mark operator.Dot s ∷ rest) e).1, mark_here operator.Dot s rest)) h
done_takes t (Apply s rest) h =
    primary_takes t (mark operator.OpenParen s ∷ rest) (λ least e. cc ((next_free least (mark operator.OpenParen s ∷ rest) e).2, mark_here operator.OpenParen s rest)) h

-- one step behind a left side
record Steps (b : ℕ) (header : Bool) (least : ℕ) (t : ExprTree) (ts : List Terminal) (x : ExprTree × List Terminal) : Type 0 where
  pub spelled : spell t ++ ts ≡ spell x.0 ++ x.1
  pub wf : Wf header x.0
  pub ranked : Binds least x.0
  pub low : height x.0 ≤ suc b
  pub done : Done x.0 x.1

call_reads : (b : ℕ) (header : Bool) (least : ℕ) (t : ExprTree) (s : Span) (ts : List Terminal) (y : ItemTrees × List Terminal) → Wf header t → Binds primary_rank t → height t ≤ b → ReadsItems b false ts y → (m : MarkAhead) → mark_at operator.CloseParen y.1 ≡ m → (x : ExprTree × List Terminal) → call_by t s y.0 m ≡ Ok x → Steps b header least t (mark operator.OpenParen s ∷ ts) x
call_reads b header least t s ts y wf tight low h None at x e = cc
call_reads b header least t s ts y wf tight low h (Some z) at x e =
    let same : (Call t s y.0 z.0, z.1) ≡ x = cc in
    let first = mark operator.OpenParen s in
    let last = mark operator.CloseParen z.0 in
    let path : ts ≡ (spell_items y.0 ++ (last ∷ [])) ++ z.1 = h.spelled ∙ ap (λ l. spell_items y.0 ++ l) (mark_was operator.CloseParen y.1 z at) ∙ sym (append_assoc (spell_items y.0) (last ∷ []) z.1) in
    subst (Steps b header least t (first ∷ ts)) same (record { spelled = ap (λ l. spell t ++ (first ∷ l)) path ∙ sym (append_assoc (spell t) (first ∷ (spell_items y.0 ++ (last ∷ []))) z.1); wf = (wf, tight, h.wf); ranked = tt; low = omega (arith, h.low); done = tt })

step_reads : (b : ℕ) (inner : Inner) → Inside b inner → (header : Bool) (least : ℕ) → 0 < least → (t : ExprTree) (n : Next) → Wf header t → Takes t n → NextBinds least n → height t ≤ b → (x : ExprTree × List Terminal) → step inner header t n ≡ Ok x → Steps b header least t (spell_next n) x
step_reads b inner ih header least some t (Operate o s rest) wf takes ranked low x e =
    let w = bind_ok (inner header (rank_of o + 1) rest) (λ x. Ok (Binary t o s x.0, x.1)) x e in
    let r = ih header (rank_of o + 1) rest w.0 (omega arith) (omega (arith, rank_low o)) w.1 in
    let same : (Binary t o s w.0.0, w.0.1) ≡ x = cc (w.2) in
    let op = mark o s in
    let some_rank : 0 < rank_of o = omega arith in
    subst (Steps b header least t (op ∷ rest)) same (record { spelled = ap (λ l. spell t ++ (op ∷ l)) r.spelled ∙ sym (append_assoc (spell t) (op ∷ spell w.0.0) w.0.1); wf = (some_rank, wf, takes, r.wf, r.ranked); ranked = ranked; low = omega (arith, r.low); done = r.stops })
step_reads b inner ih header least some t (Pick s rest) wf takes ranked low x e =
    let w = bind_ok (need (name_at rest)) (λ x. Ok (Select t s x.0, x.1)) x e in
    let y = w.0 in
    let same : (Select t s y.0, y.1) ≡ x = cc (w.2) in
    let dot = mark operator.Dot s in
    subst (Steps b header least t (dot ∷ rest)) same (record { spelled = ap (λ l. spell t ++ (dot ∷ l)) (name_was rest y (need_ok (name_at rest) y w.1)) ∙ sym (append_assoc (spell t) (dot ∷ (spell_ident y.0 ∷ [])) y.1); wf = (wf, takes); ranked = tt; low = omega arith; done = tt })
step_reads b inner ih header least some t (Apply s rest) wf takes ranked low x e =
    let w = bind_ok (items_at inner false operator.CloseParen rest) (λ x. call_by t s x.0 (mark_at operator.CloseParen x.1)) x e in
    call_reads b header least t s rest w.0 wf takes low (items_read b inner ih false operator.CloseParen rest w.0 w.1) (mark_at operator.CloseParen w.0.1) refl x w.2

abbrev Goes : ℕ → Bool → ℕ → (ExprTree → List Terminal → Reading ExprTree) → Type 0
Goes b header least more = (t : ExprTree) (ts : List Terminal) (x : ExprTree × List Terminal) → Wf header t → Binds least t → height t ≤ suc b → Done t ts → more t ts ≡ Ok x → Reads (suc b) header least (spell t ++ ts) x

turn_reads : (b : ℕ) (inner : Inner) → Inside b inner → (header : Bool) (least n : ℕ) → 0 < least → n ≤ suc b → (more : ExprTree → List Terminal → Reading ExprTree) → Goes b header least more → (t : ExprTree) (ts : List Terminal) (x : ExprTree × List Terminal) → Wf header t → Binds least t → height t ≤ suc b → Done t ts → (o : Option Next) → next_at least ts ≡ o → turn inner header more n t ts o ≡ Ok x → Reads (suc b) header least (spell t ++ ts) x
turn_reads b inner ih header least n some le more goes t ts x wf ranked low done None at e =
    let same : (t, ts) ≡ x = cc in
    subst (Reads (suc b) header least (spell t ++ ts)) same (record { spelled = refl; wf = wf; ranked = ranked; low = low; stops = at })
turn_reads b inner ih header least n some le more goes t ts x wf ranked low done (Some o) at e =
    let w = ok_when (nat_lt (height t) n) (step inner header t o >>= λ x. more x.0 x.1) x e in
    let v = bind_ok (step inner header t o) (λ x. more x.0 x.1) x w.1 in
    let below : height t < n = ltb-true _ _ w.0 in
    let was = next_was least ts o at in
    let one = step_reads b inner ih header least some t o wf (done_takes t o (subst (Done t) was.0 done)) was.1 (omega arith) v.0 v.1 in
    let all = goes v.0.0 v.0.1 x one.wf one.ranked one.low one.done v.2 in
    record { spelled = ap (λ l. spell t ++ l) was.0 ∙ one.spelled ∙ all.spelled; wf = all.wf; ranked = all.ranked; low = all.low; stops = all.stops }

chain_reads : (b : ℕ) (inner : Inner) → Inside b inner → (header : Bool) (least : ℕ) → 0 < least → (k : ℕ) → Goes b header least (chain inner header (suc b) least k)
unfolding chain
chain_reads b inner ih header least some zero = λ t ts x wf ranked low done e. turn_reads b inner ih header least zero some (omega arith) (λ _ _. Err TooHigh) (λ t ts x wf ranked low done e. cc) t ts x wf ranked low done (next_at least ts) refl e
chain_reads b inner ih header least some (suc k) = λ t ts x wf ranked low done e. turn_reads b inner ih header least (suc b) some (omega arith) (chain inner header (suc b) least k) (chain_reads b inner ih header least some k) t ts x wf ranked low done (next_at least ts) refl e

pub sound : (b : ℕ) → Inside b (expr_at b)
unfolding expr_at
sound zero header least ts x some le e = cc
sound (suc b) header least ts x some le e =
    let w = bind_ok (operand_at (expr_at b) b header ts) (λ x. chain (expr_at b) header (suc b) least (suc b) x.0 x.1) x e in
    let p = operand_reads b (expr_at b) (sound b) header ts w.0 w.1 in
    let all = chain_reads b (expr_at b) (sound b) header least some (suc b) w.0.0 w.0.1 x p.wf (binds_less least w.0.0 le p.ranked) p.low p.done w.2 in
    record { spelled = p.spelled ∙ all.spelled; wf = all.wf; ranked = all.ranked; low = all.low; stops = all.stops }

-- At the least rank: what was read is spelled in front, respects the rules and is low enough; what is left goes on with
-- no operator, no dot and no opening parenthesis.
pub record ReadsExpr (b : ℕ) (header : Bool) (ts : List Terminal) (x : ExprTree × List Terminal) : Type 0 where
  pub spelled : ts ≡ spell x.0 ++ x.1
  pub wf : Wf header x.0
  pub low : height x.0 ≤ b
  pub stops : next_at 1 x.1 ≡ None

pub expr_sound : (b : ℕ) (header : Bool) (ts : List Terminal) (x : ExprTree × List Terminal) → expr_at b header 1 ts ≡ Ok x → ReadsExpr b header ts x
expr_sound b header ts x e =
    let r = sound b header 1 ts x (omega arith) (omega arith) e in
    record { spelled = r.spelled; wf = r.wf; low = r.low; stops = r.stops }

-- arguments or elements
pub items_sound : (b : ℕ) (keyed : Bool) (close : Operator) (ts : List Terminal) (x : ItemTrees × List Terminal) → items_at (expr_at b) keyed close ts ≡ Ok x → ReadsItems b keyed ts x
items_sound b keyed close ts x e = items_read b (expr_at b) (sound b) keyed close ts x e

pub item_sound : (b : ℕ) (keyed : Bool) (ts : List Terminal) (x : ItemTree × List Terminal) → item_ahead (expr_at b) keyed ts ≡ Ok x → ReadsItem ItemTree spell_item item_height (Wf_item keyed) b ts x
item_sound b keyed ts x e = item_reads b keyed (expr_at b) (sound b) ts x e

pub item_shorter : (b : ℕ) (keyed : Bool) (ts : List Terminal) (x : ItemTree × List Terminal) → item_ahead (expr_at b) keyed ts ≡ Ok x → length x.1 < length ts
item_shorter b keyed ts x e =
    omega (arith, ap length (item_sound b keyed ts x e).spelled_as, item_some x.0, length-append (spell_item x.0) x.1)

-- an expression takes a terminal
pub expr_shorter : (b : ℕ) (header : Bool) (ts : List Terminal) (x : ExprTree × List Terminal) → expr_at b header 1 ts ≡ Ok x → length x.1 < length ts
expr_shorter b header ts x e =
    omega (arith, ap length (expr_sound b header ts x e).spelled, spell_some x.0, length-append (spell x.0) x.1)
