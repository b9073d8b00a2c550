-- The identifiers that a file declares are among what it writes, and those that stand at one offset have one name.
use Rattle.std.proofs.Common.{◌≡◌, ◌⊎◌, ℕ, ◌+◌, ◌≤◌, List, [], ◌∷◌, ◌++◌, Option, Some, None, inl, inr, refl, sym, ap, subst, ◌∙◌, arith}
use Rattle.std.specs.List.{flat_map}
use Rattle.go_site_core.specs.text_core.declared.span.Span.{Span}
use Rattle.go_tree_nodes.specs.token_core.declared.kind.Operator.TheVariants as operator
use Rattle.go_tree_nodes.specs.declared.names.Ident.{Ident}
use Rattle.go_tree_nodes.specs.declared.decls.ValueKind.{ValueKind}
use Rattle.go_tree_nodes.specs.declared.files.Receiver.{Receiver}
use Rattle.go_tree_nodes.specs.declared.types.TypeName.{TypeName}
use Rattle.go_tree_nodes.specs.declared.types.TypeName.TheVariants as type_name
use Rattle.go_tree_nodes.specs.Terminals.{InOrder, Spelled, Terminal}
use Rattle.go_tree_nodes.specs.Trees as tree
use Rattle.go_tree_nodes.specs.Trees.{Separated, One, Then, TypeTree, NamedType, Pointer, ParenType, Struct, Interface, FieldTrees, NoFields, NamedFields, EmbeddedField, MethodTrees, NoMethods, Method, SignatureTree, ResultTree, ParamTrees, Signed, NoResult, OneResult, Results, NoParams, Param, ExprTree, ItemTrees, Integer, Text, Named, Paren, Unary, Binary, Select, Call, Literal, StructLiteral, NoItems, Item, ValueSpecTree, TypeSpecTree, Specs, Single, Group, SimpleTree, Alone, Step, Assign, Update, Define, IfTree, ForTree, Forever, While, Clauses, StmtTree, BranchTree, ElseTree, Lines, Empty, Simple, Return, Break, Continue, Block, If, For, Branch, NoElse, ElseBlock, ElseIf, NoLines, Line, FuncTree, DeclTree, Value, Types, Func, TopTree, FileTree, of_specs}
use Rattle.go_tree_nodes.specs.Spelling.{spell_ident, spell_idents, spell_some, spell_type_name, spell_names, spell_type, spell_fields, spell_methods, spell_result, spell_params, spell_signature, spell_key, spell, spell_items, spell_exprs, spell_some_type, spell_values, spell_value_spec, spell_specs_of, spell_specs, spell_type_spec, spell_simple, spell_some_simple, spell_some_expr, spell_some_exprs, spell_init, spell_if, spell_for, spell_stmt, spell_branch, spell_else, spell_lines, spell_receiver_name, spell_receiver, spell_func, spell_decl, spell_tops, spell_imports, spell_file, IsPlaced}
use Rattle.go_tree_nodes.specs.WrittenTypes.{expr_types, items_types, exprs_types, some_expr_types, some_exprs_types, params_types, result_types, signature_types, some_type, values_types, spec_types, specs_types, simple_types}
use Rattle.go_term_core.specs.decl_core.declared.places.DeclKind.{DeclKind}
use Rattle.go_term_core.specs.decl_core.Outer.{Outer, Manner, outer, last_ident, idents_outers, names_outers, type_outers, fields_outers, methods_outers, signature_outers, result_outers, params_outers, expr_outers, items_outers, exprs_outers, some_type_outers, values_outers, value_spec_outers, type_spec_outers, receiver_name_outers, receiver_outers, func_outers, decl_outers, tops_outers, outer_names}
use Rattle.go_stmt_core.specs.inline_core.Trees.{some_simple_types, init_types, if_types, for_types, stmt_types, branch_types, else_types, lines_types, func_types}
use Rattle.go_typexpr_core.proofs.EntryAmong.{Among, among_cases, among_flat, among_left, among_right}
use Rattle.go_query_core.specs.body_core.FileStands.{decl_funcs, file_funcs}

-- what these terminals have of each of a list
record Gives {X : Type 0} (Has : List Terminal → X → Type 0) (ts : List Terminal) (xs : List X) : Type 0 where
  has : (x : X) → Among xs x → Has ts x

-- identifiers of the file's table

abbrev HasOuter : List Terminal → Outer → Type 0
HasOuter ts o = Among ts (spell_ident o.ident)

abbrev OutersIn : List Terminal → List Outer → Type 0
OutersIn = Gives HasOuter

gives_none : {ts : List Terminal} → OutersIn ts []
gives_none = record { has = λ x a. absurd a }

gives_skip : {t : Terminal} {ts : List Terminal} {os : List Outer} → OutersIn ts os → OutersIn (t ∷ ts) os
gives_skip m = record { has = λ o a. inr (m.has o a) }

gives_name : {k : DeclKind} {m : Manner} {x : Ident} {ts : List Terminal} {os : List Outer} → OutersIn ts os → OutersIn (spell_ident x ∷ ts) (outer k m x ∷ os)
gives_name m = record {
  has = λ o a. elim a [
    | inl e ↦ inl (ap (λ (q : Outer). spell_ident q.ident) e)
    | inr r ↦ inr (m.has o r)
  ];
}

gives_both : {ts us : List Terminal} {os more : List Outer} → OutersIn ts os → OutersIn us more → OutersIn (ts ++ us) (os ++ more)
gives_both {ts} {us} {os} {more} m n = record {
  has = λ o a. elim (among_cases os more o a) [
    | inl l ↦ among_left ts us (spell_ident o.ident) (m.has o l)
    | inr r ↦ among_right ts us (spell_ident o.ident) (n.has o r)
  ];
}

gives_first : {ts : List Terminal} (us : List Terminal) {os : List Outer} → OutersIn ts os → OutersIn (ts ++ us) os
gives_first {ts} us m = record { has = λ o a. among_left ts us (spell_ident o.ident) (m.has o a) }

gives_second : (ts : List Terminal) {us : List Terminal} {os : List Outer} → OutersIn us os → OutersIn (ts ++ us) os
gives_second ts {us} m = record { has = λ o a. among_right ts us (spell_ident o.ident) (m.has o a) }

idents_give : (k : DeclKind) (m : Manner) (xs : Separated Ident) → OutersIn (spell_idents xs) (idents_outers k m xs)
idents_give k m (One x) = gives_name gives_none
idents_give k m (Then x comma xs) = gives_name (gives_skip (idents_give k m xs))

names_give : (xs : Option (Separated Ident)) → OutersIn (spell_names xs) (names_outers xs)
names_give None = gives_none
names_give (Some xs) = idents_give _ _ xs

-- the last identifier of a type's name
last_gives : (k : DeclKind) (m : Manner) (n : TypeName) → OutersIn (spell_type_name n) (outer k m (last_ident n) ∷ [])
last_gives k m (type_name.Plain x) = gives_name gives_none
last_gives k m (type_name.Qualified p dot x) = gives_skip (gives_skip (gives_name gives_none))

mutual
  type_gives : (t : TypeTree) → OutersIn (spell_type t) (type_outers t)
  type_gives (NamedType n) = gives_none
  type_gives (Pointer star t) = gives_skip (type_gives t)
  type_gives (ParenType first t last) = gives_skip (gives_first _ (type_gives t))
  type_gives (Struct k first ls last) = gives_skip (gives_skip (gives_first _ (fields_give ls)))
  type_gives (Interface k first ms last) = gives_skip (gives_skip (gives_first _ (methods_give ms)))

  fields_give : (ls : FieldTrees) → OutersIn (spell_fields ls) (fields_outers ls)
  fields_give NoFields = gives_none
  fields_give (NamedFields xs t tag s rest) = gives_both (idents_give _ _ xs) (gives_both (type_gives t) (gives_second _ (gives_second _ (fields_give rest))))
  fields_give (EmbeddedField star n tag s rest) = gives_second _ (gives_both (last_gives _ _ n) (gives_second _ (gives_second _ (fields_give rest))))

  methods_give : (ms : MethodTrees) → OutersIn (spell_methods ms) (methods_outers ms)
  methods_give NoMethods = gives_none
  methods_give (Method x signature s rest) = gives_name (gives_both (signature_gives signature) (gives_second _ (methods_give rest)))

  signature_gives : (s : SignatureTree) → OutersIn (spell_signature s) (signature_outers s)
  signature_gives (Signed first params last result) = gives_skip (gives_both (params_give params) (gives_skip (result_gives result)))

  result_gives : (r : ResultTree) → OutersIn (spell_result r) (result_outers r)
  result_gives NoResult = gives_none
  result_gives (OneResult t) = type_gives t
  result_gives (Results first params last) = gives_skip (gives_first _ (params_give params))

  params_give : (ps : ParamTrees) → OutersIn (spell_params ps) (params_outers ps)
  params_give NoParams = gives_none
  params_give (Param xs t comma rest) = gives_both (names_give xs) (gives_both (type_gives t) (gives_second _ (params_give rest)))

mutual
  expr_gives : (t : ExprTree) → OutersIn (spell t) (expr_outers t)
  expr_gives (Integer n span) = gives_none
  expr_gives (Text t) = gives_none
  expr_gives (Named x) = gives_none
  expr_gives (Paren first t last) = gives_skip (gives_first _ (expr_gives t))
  expr_gives (Unary op span t) = gives_skip (expr_gives t)
  expr_gives (Binary a op span b) = gives_both (expr_gives a) (gives_skip (expr_gives b))
  expr_gives (Select t dot x) = gives_first _ (expr_gives t)
  expr_gives (Call t first items last) = gives_both (expr_gives t) (gives_skip (gives_first _ (items_give items)))
  expr_gives (Literal n first items last) = gives_second _ (gives_skip (gives_first _ (items_give items)))
  expr_gives (StructLiteral t first items last) = gives_both (type_gives t) (gives_skip (gives_first _ (items_give items)))

  items_give : (is : ItemTrees) → OutersIn (spell_items is) (items_outers is)
  items_give NoItems = gives_none
  items_give (Item key t comma rest) = gives_second _ (gives_both (expr_gives t) (gives_second _ (items_give rest)))

exprs_give : (es : Separated ExprTree) → OutersIn (spell_exprs es) (exprs_outers es)
exprs_give (One t) = expr_gives t
exprs_give (Then t comma more) = gives_both (expr_gives t) (gives_skip (exprs_give more))

some_type_gives : (t : Option TypeTree) → OutersIn (spell_some_type t) (some_type_outers t)
some_type_gives None = gives_none
some_type_gives (Some t) = type_gives t

values_give : (v : Option (Span × Separated ExprTree)) → OutersIn (spell_values v) (values_outers v)
values_give None = gives_none
values_give (Some v) = gives_skip (exprs_give v.1)

value_spec_gives : (k : ValueKind) (v : ValueSpecTree) → OutersIn (spell_value_spec v) (value_spec_outers k v)
value_spec_gives k v = gives_both (idents_give _ _ v.names) (gives_both (some_type_gives v.type_expr) (values_give v.values))

type_spec_gives : (t : TypeSpecTree) → OutersIn (spell_type_spec t) (type_spec_outers t)
type_spec_gives t = gives_name (gives_second _ (type_gives t.type_expr))

group_gives : {A : Type 0} (f : A → List Terminal) (g : A → List Outer) → ((x : A) → OutersIn (f x) (g x)) → (xs : List (A × Option Span)) → OutersIn (spell_specs_of f xs) (flat_map (λ l. g l.0) xs)
group_gives f g each [] = gives_none
group_gives f g each (x ∷ xs) = gives_both (each x.0) (gives_second _ (group_gives f g each xs))

specs_give : {A : Type 0} (f : A → List Terminal) (g : A → List Outer) → ((x : A) → OutersIn (f x) (g x)) → (s : Specs A) → OutersIn (spell_specs f s) (of_specs g s)
specs_give f g each (Single x) = each x
specs_give f g each (Group first xs last) = gives_skip (gives_first _ (group_gives f g each xs))

receiver_name_gives : (x : Option Ident) → OutersIn (spell_receiver_name x) (receiver_name_outers x)
receiver_name_gives None = gives_none
receiver_name_gives (Some x) = gives_name gives_none

receiver_gives : (r : Option Receiver) → OutersIn (spell_receiver r) (receiver_outers r)
receiver_gives None = gives_none
receiver_gives (Some r) = gives_skip (gives_first _ (receiver_name_gives r.name))

func_gives : (f : FuncTree) → OutersIn (spell_func f) (func_outers f)
func_gives f = gives_skip (gives_both (receiver_gives f.receiver) (gives_name (gives_first _ (signature_gives f.signature))))

decl_gives : (d : DeclTree) → OutersIn (spell_decl d) (decl_outers d)
decl_gives (Value v) = gives_skip (specs_give spell_value_spec (value_spec_outers v.kind) (value_spec_gives v.kind) v.specs)
decl_gives (Types t) = gives_skip (specs_give spell_type_spec type_spec_outers type_spec_gives t.specs)
decl_gives (Func f) = func_gives f

tops_give : (ds : List TopTree) → OutersIn (spell_tops ds) (tops_outers ds)
tops_give [] = gives_none
tops_give (d ∷ ds) = gives_both (decl_gives d.decl) (gives_skip (tops_give ds))

-- identifiers of the types that a function writes

abbrev HasType : List Terminal → TypeTree → Type 0
HasType ts t = (o : Outer) → Among (type_outers t) o → Among ts (spell_ident o.ident)

abbrev TypesIn : List Terminal → List TypeTree → Type 0
TypesIn = Gives HasType

types_none : {ts : List Terminal} → TypesIn ts []
types_none = record { has = λ x a. absurd a }

types_skip : {t : Terminal} {ts : List Terminal} {us : List TypeTree} → TypesIn ts us → TypesIn (t ∷ ts) us
types_skip m = record { has = λ u a o b. inr (m.has u a o b) }

types_both : {ts us : List Terminal} {ws vs : List TypeTree} → TypesIn ts ws → TypesIn us vs → TypesIn (ts ++ us) (ws ++ vs)
types_both {ts} {us} {ws} {vs} m n = record {
  has = λ w a o b. elim (among_cases ws vs w a) [
    | inl l ↦ among_left ts us (spell_ident o.ident) (m.has w l o b)
    | inr r ↦ among_right ts us (spell_ident o.ident) (n.has w r o b)
  ];
}

types_first : {ts : List Terminal} (us : List Terminal) {ws : List TypeTree} → TypesIn ts ws → TypesIn (ts ++ us) ws
types_first {ts} us m = record { has = λ w a o b. among_left ts us (spell_ident o.ident) (m.has w a o b) }

types_second : (ts : List Terminal) {us : List Terminal} {ws : List TypeTree} → TypesIn us ws → TypesIn (ts ++ us) ws
types_second ts {us} m = record { has = λ w a o b. among_right ts us (spell_ident o.ident) (m.has w a o b) }

type_begins : (t : TypeTree) → TypesIn (spell_type t) (t ∷ [])
type_begins t = record {
  has = λ u a o b. elim a [
    | inl e ↦ (type_gives t).has o (subst (λ w. Among (type_outers w) o) (sym e) b)
    | inr none ↦ absurd none
  ];
}

params_begin : (ps : ParamTrees) → TypesIn (spell_params ps) (params_types ps)
params_begin NoParams = types_none
params_begin (Param xs t comma rest) = types_second (spell_names xs) (types_both (type_begins t) (types_second (spell_some operator.Comma comma) (params_begin rest)))

result_begins : (r : ResultTree) → TypesIn (spell_result r) (result_types r)
result_begins NoResult = types_none
result_begins (OneResult t) = type_begins t
result_begins (Results first params last) = types_skip (types_first _ (params_begin params))

signature_begins : (s : SignatureTree) → TypesIn (spell_signature s) (signature_types s)
signature_begins (Signed first params last result) = types_skip (types_both (params_begin params) (types_skip (result_begins result)))

mutual
  expr_begins : (t : ExprTree) → TypesIn (spell t) (expr_types t)
  expr_begins (Integer n span) = types_none
  expr_begins (Text t) = types_none
  expr_begins (Named x) = types_none
  expr_begins (Paren first t last) = types_skip (types_first _ (expr_begins t))
  expr_begins (Unary op span t) = types_skip (expr_begins t)
  expr_begins (Binary a op span b) = types_both (expr_begins a) (types_skip (expr_begins b))
  expr_begins (Select t dot x) = types_first _ (expr_begins t)
  expr_begins (Call t first items last) = types_both (expr_begins t) (types_skip (types_first _ (items_begin items)))
  expr_begins (Literal n first items last) = types_second (spell_type_name n) (types_skip (types_first _ (items_begin items)))
  expr_begins (StructLiteral t first items last) = types_both (type_begins t) (types_skip (types_first _ (items_begin items)))

  items_begin : (is : ItemTrees) → TypesIn (spell_items is) (items_types is)
  items_begin NoItems = types_none
  items_begin (Item key t comma rest) = types_second (spell_key key) (types_both (expr_begins t) (types_second (spell_some operator.Comma comma) (items_begin rest)))

exprs_begin : (es : Separated ExprTree) → TypesIn (spell_exprs es) (exprs_types es)
exprs_begin (One t) = expr_begins t
exprs_begin (Then t comma more) = types_both (expr_begins t) (types_skip (exprs_begin more))

some_expr_begins : (t : Option ExprTree) → TypesIn (spell_some_expr t) (some_expr_types t)
some_expr_begins None = types_none
some_expr_begins (Some t) = expr_begins t

some_exprs_begin : (es : Option (Separated ExprTree)) → TypesIn (spell_some_exprs es) (some_exprs_types es)
some_exprs_begin None = types_none
some_exprs_begin (Some es) = exprs_begin es

some_type_begins : (t : Option TypeTree) → TypesIn (spell_some_type t) (some_type t)
some_type_begins None = types_none
some_type_begins (Some t) = type_begins t

values_begin : (v : Option (Span × Separated ExprTree)) → TypesIn (spell_values v) (values_types v)
values_begin None = types_none
values_begin (Some v) = types_skip (exprs_begin v.1)

spec_begins : (v : ValueSpecTree) → TypesIn (spell_value_spec v) (spec_types v)
spec_begins v = types_second (spell_idents v.names) (types_both (some_type_begins v.type_expr) (values_begin v.values))

group_begins : (vs : List (ValueSpecTree × Option Span)) → TypesIn (spell_specs_of spell_value_spec vs) (flat_map (λ v. spec_types v.0) vs)
group_begins [] = types_none
group_begins (v ∷ vs) = types_both (spec_begins v.0) (types_second (spell_some operator.Semicolon v.1) (group_begins vs))

specs_begin : (s : Specs ValueSpecTree) → TypesIn (spell_specs spell_value_spec s) (specs_types s)
specs_begin (Single v) = spec_begins v
specs_begin (Group first vs last) = types_skip (types_first _ (group_begins vs))

simple_begins : (s : SimpleTree) → TypesIn (spell_simple s) (simple_types s)
simple_begins (Alone t) = expr_begins t
simple_begins (Step t op span) = types_first _ (expr_begins t)
simple_begins (Assign ts span es) = types_both (exprs_begin ts) (types_skip (exprs_begin es))
simple_begins (Update t op span e) = types_both (expr_begins t) (types_skip (expr_begins e))
simple_begins (Define xs span es) = types_second (spell_idents xs) (types_skip (exprs_begin es))

some_simple_begins : (s : Option SimpleTree) → TypesIn (spell_some_simple s) (some_simple_types s)
some_simple_begins None = types_none
some_simple_begins (Some s) = simple_begins s

init_begins : (i : Option (Option SimpleTree × Span)) → TypesIn (spell_init i) (init_types i)
init_begins None = types_none
init_begins (Some i) = types_first _ (some_simple_begins i.0)

if_begins : (h : IfTree) → TypesIn (spell_if h) (if_types h)
if_begins h = types_both (init_begins h.init) (expr_begins h.condition)

for_begins : (h : ForTree) → TypesIn (spell_for h) (for_types h)
for_begins Forever = types_none
for_begins (While t) = expr_begins t
for_begins (Clauses init a test b post) = types_both (some_simple_begins init) (types_skip (types_both (some_expr_begins test) (types_skip (some_simple_begins post))))

mutual
  stmt_begins : (s : StmtTree) → TypesIn (spell_stmt s) (stmt_types s)
  stmt_begins Empty = types_none
  stmt_begins (tree.Declare v) = types_skip (specs_begin v.specs)
  stmt_begins (Simple s) = simple_begins s
  stmt_begins (Return s es) = types_skip (some_exprs_begin es)
  stmt_begins (Break s) = types_none
  stmt_begins (Continue s) = types_none
  stmt_begins (Block first ls last) = types_skip (types_first _ (lines_begin ls))
  stmt_begins (If b) = branch_begins b
  stmt_begins (For k head first ls last) = types_skip (types_both (for_begins head) (types_skip (types_first _ (lines_begin ls))))

  branch_begins : (b : BranchTree) → TypesIn (spell_branch b) (branch_types b)
  branch_begins (Branch k head first ls last otherwise) = types_skip (types_both (if_begins head) (types_skip (types_both (lines_begin ls) (types_skip (else_begins otherwise)))))

  else_begins : (e : ElseTree) → TypesIn (spell_else e) (else_types e)
  else_begins NoElse = types_none
  else_begins (ElseBlock k first ls last) = types_skip (types_skip (types_first _ (lines_begin ls)))
  else_begins (ElseIf k b) = types_skip (branch_begins b)

  lines_begin : (ls : Lines) → TypesIn (spell_lines ls) (lines_types ls)
  lines_begin NoLines = types_none
  lines_begin (Line s semicolon more) = types_both (stmt_begins s) (types_second (spell_some operator.Semicolon semicolon) (lines_begin more))

func_begins : (f : FuncTree) → TypesIn (spell_func f) (func_types f)
func_begins f = types_skip (types_second (spell_receiver f.receiver) (types_skip (types_both (signature_begins f.signature) (types_skip (types_first _ (lines_begin f.body))))))

-- of a file

abbrev Writes : FileTree → Ident → Type 0
Writes f x = Among (spell_file f) (spell_ident x)

pub outers_written : (f : FileTree) (o : Outer) → Among (outer_names f) o → Writes f o.ident
outers_written f o a = (let m : OutersIn (spell_file f) (outer_names f) = gives_skip (gives_skip (gives_skip (gives_second _ (tops_give f.decls)))) in m.has o a)

decl_writes : (d : DeclTree) (g : FuncTree) (t : Terminal) → Among (decl_funcs d) g → Among (spell_func g) t → Among (spell_decl d) t
decl_writes (Value v) g t a b = absurd a
decl_writes (Types s) g t a b = absurd a
decl_writes (Func f) g t a b = elim a [
  | inl e ↦ subst (λ h. Among (spell_func h) t) (sym e) b
  | inr none ↦ absurd none
]

tops_write : (ds : List TopTree) (g : FuncTree) (t : Terminal) → Among (flat_map (λ (d : TopTree). decl_funcs d.decl) ds) g → Among (spell_func g) t → Among (spell_tops ds) t
tops_write [] g t a b = absurd a
tops_write (d ∷ ds) g t a b = elim (among_cases (decl_funcs d.decl) (flat_map (λ (d : TopTree). decl_funcs d.decl) ds) g a) [
  | inl l ↦ among_left (spell_decl d.decl) _ t (decl_writes d.decl g t l b)
  | inr r ↦ among_right (spell_decl d.decl) _ t (inr (tops_write ds g t r b))
]

pub types_written : (f : FileTree) (g : FuncTree) (t : TypeTree) (o : Outer) → Among (file_funcs f) g → Among (func_types g) t → Among (type_outers t) o → Writes f o.ident
types_written f g t o a b c = inr (inr (inr (among_right (spell_imports f.imports) (spell_tops f.decls) (spell_ident o.ident) (tops_write f.decls g (spell_ident o.ident) a ((func_begins g).has t b o c)))))

-- two of them that stand at one offset

least : (ts : List Terminal) (t : Terminal) (low high : ℕ) → InOrder low ts high → Among ts t → low ≤ t.span.start
least [] t low high h a = absurd a
least (u ∷ ts) t low high h (inl e) = (let up = h.0 in let same : u.span.start ≡ t.span.start = ap (λ (w : Terminal). w.span.start) e in omega (arith, up, same))
least (u ∷ ts) t low high h (inr r) = (let up = h.0 in let wide = h.1 in let far = least ts t u.span.end high h.2 r in omega (arith, up, wide, far))

head_name : (x y : Ident) (ts : List Terminal) (low high : ℕ) → InOrder low (spell_ident x ∷ ts) high → x.span.start ≡ y.span.start → Among ts (spell_ident y) → ⊥
head_name x y ts low high h same a = (let wide = h.1 in let far = least ts (spell_ident y) x.span.end high h.2 a in omega (arith, wide, far, same))

spelled_same : (x y : Ident) (t : Terminal) → t ≡ spell_ident x → t ≡ spell_ident y → x.name ≡ y.name
spelled_same x y t e k = (let s : Spelled x.name ≡ Spelled y.name = ap (λ (w : Terminal). w.kind) (sym e ∙ k) in cc)

one_name : (ts : List Terminal) (x y : Ident) (low high : ℕ) → InOrder low ts high → x.span.start ≡ y.span.start → Among ts (spell_ident x) → Among ts (spell_ident y) → x.name ≡ y.name
one_name [] x y low high h same a b = absurd a
one_name (t ∷ ts) x y low high h same (inl e) (inl k) = spelled_same x y t e k
one_name (t ∷ ts) x y low high h same (inl e) (inr k) = absurd (head_name x y ts low high (subst (λ w. InOrder low (w ∷ ts) high) e h) same k)
one_name (t ∷ ts) x y low high h same (inr r) (inl k) = absurd (head_name y x ts low high (subst (λ w. InOrder low (w ∷ ts) high) k h) (sym same) r)
one_name (t ∷ ts) x y low high h same (inr r) (inr k) = one_name ts x y t.span.end high h.2 same r k

pub names_are_one : (f : FileTree) → IsPlaced f → (x y : Ident) → x.span.start ≡ y.span.start → Writes f x → Writes f y → x.name ≡ y.name
names_are_one f placed x y same a b = one_name (spell_file f) x y 0 placed.0 placed.1 same a b
