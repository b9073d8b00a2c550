-- The occurrences of a file follow one another.
use Rattle.std.proofs.Common.{◌≡◌, ℕ, ◌+◌, ◌≤◌, Bool, true, false, List, [], ◌∷◌, ◌++◌, length, ◌<◌, Option, Some, None, refl, subst, append-nil, arith, if◌then◌else◌}
use Rattle.go_tree_nodes.specs.text_core.declared.span.Span.{Span}
use Rattle.go_tree_nodes.specs.text_core.Text.{is_blank}
use Rattle.go_tree_nodes.specs.declared.names.Ident.{Ident}
use Rattle.go_tree_nodes.specs.declared.types.TypeName.{TypeName}
use Rattle.go_tree_nodes.specs.declared.types.TypeName.TheVariants as type_name
use Rattle.go_tree_nodes.specs.declared.exprs.Key.{Key}
use Rattle.go_tree_nodes.specs.declared.files.Receiver.{Receiver}
use Rattle.go_tree_core.specs.declared.occurrence.Role.{Role}
use Rattle.go_tree_core.specs.declared.occurrence.Role.TheVariants as role
use Rattle.go_tree_core.specs.declared.occurrence.Context.{Context}
use Rattle.go_tree_core.specs.declared.occurrence.Context.TheVariants as context
use Rattle.go_tree_core.specs.declared.occurrence.Occ.{Occ}
use Rattle.go_tree_nodes.specs.Terminals.{Terminal, InOrder, least_width}
use Rattle.go_tree_nodes.specs.Trees.{Separated, One, Then, TypeTree, FieldTrees, MethodTrees, SignatureTree, ResultTree, ParamTrees, NamedType, Pointer, ParenType, Struct, Interface, NoFields, NamedFields, EmbeddedField, NoMethods, Method, Signed, NoResult, OneResult, Results, NoParams, Param, ExprTree, ItemTrees, Integer, Text, Named, Paren, Unary, Binary, Select, Call, Literal, StructLiteral, NoItems, Item, ValueSpecTree, Specs, Single, Group, ValueTree, TypeSpecTree, TypeDeclTree, SimpleTree, Alone, Step, Assign, Update, Define, IfTree, ForTree, Forever, While, Clauses, StmtTree, BranchTree, ElseTree, Lines, Empty, Declare, Simple, Return, Break, Continue, Block, If, For, Branch, NoElse, ElseBlock, ElseIf, NoLines, Line, FuncTree, DeclTree, Value, Types, Func, TopTree, ImportSpecTree, ImportTree, FileTree}
use Rattle.go_tree_nodes.specs.Spelling.{spell_ident, spell_type_name, spell_type, spell_fields, spell_methods, spell_signature, spell_result, spell_params, spell_key, spell, spell_items, spell_exprs, spell_some_type, spell_values, spell_value_spec, spell_specs_of, spell_specs, spell_value, spell_type_spec, spell_types, spell_simple, spell_some_simple, spell_some_expr, spell_init, spell_if, spell_for, spell_some_exprs, spell_stmt, spell_branch, spell_else, spell_lines, spell_receiver, spell_func, spell_decl, spell_tops, spell_import, spell_imports, spell_file}
use Rattle.go_tree_nodes.proofs.InOrder.{in_order_split, in_order_ends}
use Rattle.go_tree_core.specs.Occurrences.{occurrence, type_name_occs, type_occs, fields_occs, methods_occs, signature_occs, result_occs, params_occs, named_occs, inside_context, under, key_occs, expr_occs, items_occs, exprs_occs, some_expr_occs, some_exprs_occs, some_type_occs, values_occs, value_spec_occs, group_occs, specs_occs, value_occs, type_spec_occs, type_decl_occs, simple_occs, some_simple_occs, init_occs, if_occs, for_occs, stmt_occs, branch_occs, else_occs, lines_occs, receiver_occs, func_occs, decl_occs, tops_occs, import_occs, imports_occs, file_occs, Follow}

follow_lower : (os : List Occ) (low lower high : ℕ) → lower ≤ low → Follow low os high → Follow lower os high
follow_lower [] low lower high l h = omega arith
follow_lower (o ∷ os) low lower high l h = (omega (arith, h.0), h.1, h.2)

follow_join : (os ps : List Occ) (low middle high : ℕ) → Follow low os middle → Follow middle ps high → Follow low (os ++ ps) high
follow_join [] ps low middle high h g = follow_lower ps middle low high h g
follow_join (o ∷ os) ps low middle high h g = (h.0, h.1, follow_join os ps o.span.end middle high h.2 g)

pub follow_few : (os : List Occ) (low high : ℕ) → Follow low os high → low + length os ≤ high
follow_few [] low high h = omega arith
follow_few (o ∷ os) low high h = let rest = follow_few os o.span.end high h.2 in omega (arith, h.0, h.1)

-- tokens in order make occurrences in order
record Makes (ts : List Terminal) (os : List Occ) : Type 0 where
  follow : (low high : ℕ) → InOrder low ts high → Follow low os high

makes_none : {ts : List Terminal} → Makes ts []
makes_none {ts} = record { follow = in_order_ends ts }

makes_skip : {t : Terminal} {ts : List Terminal} {os : List Occ} → Makes ts os → Makes (t ∷ ts) os
makes_skip {t} {ts} {os} m = record { follow = λ low high h. follow_lower os t.span.end low high (omega (arith, h.0, h.1)) (m.follow t.span.end high h.2) }

-- a token that takes some bytes, as an occurrence
makes_own : {t : Terminal} {o : Occ} {ts : List Terminal} {os : List Occ} → t.span ≡ o.span → least_width t.kind ≡ 1 → Makes ts os → Makes (t ∷ ts) (o ∷ os)
makes_own {t} {o} {ts} {os} same wide m = record {
  follow = λ low high h.
      let P : Span → Type 0 = λ s. (low ≤ s.start) × (s.start < s.end) × Follow s.end os high in
      subst P same (h.0, omega (arith, h.1, wide), m.follow t.span.end high h.2);
}

makes_name : {r : Role} {x : Ident} {ts : List Terminal} {os : List Occ} → Makes ts os → Makes (spell_ident x ∷ ts) (occurrence r x ∷ os)
makes_name {r} {x} m = record { follow = λ low high h. (h.0, omega (arith, h.1), m.follow x.span.end high h.2) }

makes_one : {r : Role} {x : Ident} → Makes (spell_ident x ∷ []) (occurrence r x ∷ [])
makes_one = makes_name makes_none

makes_both : {ts us : List Terminal} {os ps : List Occ} → Makes ts os → Makes us ps → Makes (ts ++ us) (os ++ ps)
makes_both {ts} {us} {os} {ps} m n = record {
  follow = λ low high h.
      let parts = in_order_split ts us low high h in
      follow_join os ps low parts.0 high (m.follow low parts.0 parts.1.0) (n.follow parts.0 high parts.1.1);
}

makes_first : {ts : List Terminal} (us : List Terminal) {os : List Occ} → Makes ts os → Makes (ts ++ us) os
makes_first {ts} us {os} m = let P : List Occ → Type 0 = λ ps. Makes (ts ++ us) ps in subst P (append-nil os) (makes_both m makes_none)

makes_second : (ts : List Terminal) {us : List Terminal} {os : List Occ} → Makes us os → Makes (ts ++ us) os
makes_second ts m = makes_both makes_none m

type_name_makes : (n : TypeName) → Makes (spell_type_name n) (type_name_occs n)
type_name_makes (type_name.Plain x) = makes_one
type_name_makes (type_name.Qualified p dot x) = makes_name (makes_skip makes_one)

mutual
  type_makes : (t : TypeTree) → Makes (spell_type t) (type_occs t)
  type_makes (NamedType n) = type_name_makes n
  type_makes (Pointer star t) = makes_skip (type_makes t)
  type_makes (ParenType first t last) = makes_skip (makes_first _ (type_makes t))
  type_makes (Struct k first ls last) = makes_skip (makes_skip (makes_first _ (fields_makes ls)))
  type_makes (Interface k first ms last) = makes_skip (makes_skip (makes_first _ (methods_makes ms)))

  fields_makes : (ls : FieldTrees) → Makes (spell_fields ls) (fields_occs ls)
  fields_makes NoFields = makes_none
  fields_makes (NamedFields xs t tag s rest) = makes_second _ (makes_both (type_makes t) (makes_second _ (makes_second _ (fields_makes rest))))
  fields_makes (EmbeddedField star n tag s rest) = makes_second _ (makes_both (type_name_makes n) (makes_second _ (makes_second _ (fields_makes rest))))

  methods_makes : (ms : MethodTrees) → Makes (spell_methods ms) (methods_occs ms)
  methods_makes NoMethods = makes_none
  methods_makes (Method x signature s rest) = makes_skip (makes_both (signature_makes signature) (makes_second _ (methods_makes rest)))

  signature_makes : (s : SignatureTree) → Makes (spell_signature s) (signature_occs s)
  signature_makes (Signed first params last result) = makes_skip (makes_both (params_makes params) (makes_skip (result_makes result)))

  result_makes : (r : ResultTree) → Makes (spell_result r) (result_occs r)
  result_makes NoResult = makes_none
  result_makes (OneResult t) = type_makes t
  result_makes (Results first params last) = makes_skip (makes_first _ (params_makes params))

  params_makes : (ps : ParamTrees) → Makes (spell_params ps) (params_occs ps)
  params_makes NoParams = makes_none
  params_makes (Param xs t comma rest) = makes_second _ (makes_both (type_makes t) (makes_second _ (params_makes rest)))

key_makes : (k : Option Key) → Makes (spell_key k) (key_occs k)
key_makes None = makes_none
key_makes (Some k) = makes_name makes_none

unless_blank : (x : Ident) (b : Bool) → Makes (spell (Named x)) (if b then [] else occurrence role.«Value» x ∷ [])
unless_blank x true = makes_none
unless_blank x false = makes_one

named_makes : (p : Context) (x : Ident) → Makes (spell (Named x)) (named_occs p x)
named_makes context.«Type» x = makes_one
named_makes context.«Value» x = makes_one
named_makes context.Callee x = makes_one
named_makes context.BeforeDot x = makes_one
named_makes context.Target x = unless_blank x (is_blank x.name)

mutual
  expr_makes : (p : Context) (t : ExprTree) → Makes (spell t) (expr_occs p t)
  expr_makes p (Integer n span) = makes_none
  expr_makes p (Text t) = makes_none
  expr_makes p (Named x) = named_makes p x
  expr_makes p (Paren first t last) = makes_skip (makes_first _ (expr_makes (inside_context p) t))
  expr_makes p (Unary op span t) = makes_skip (expr_makes (under op p) t)
  expr_makes p (Binary a op span b) = makes_both (expr_makes context.«Value» a) (makes_skip (expr_makes context.«Value» b))
  expr_makes p (Select t dot x) = makes_both (expr_makes context.BeforeDot t) (makes_skip makes_one)
  expr_makes p (Call t first items last) = makes_both (expr_makes context.Callee t) (makes_own refl refl (makes_first _ (items_makes items)))
  expr_makes p (Literal n first items last) = makes_both (type_name_makes n) (makes_skip (makes_first _ (items_makes items)))
  expr_makes p (StructLiteral t first items last) = makes_both (type_makes t) (makes_skip (makes_first _ (items_makes items)))

  items_makes : (is : ItemTrees) → Makes (spell_items is) (items_occs is)
  items_makes NoItems = makes_none
  items_makes (Item key t comma rest) = makes_both (key_makes key) (makes_both (expr_makes context.«Value» t) (makes_second _ (items_makes rest)))

exprs_makes : (p : Context) (es : Separated ExprTree) → Makes (spell_exprs es) (exprs_occs p es)
exprs_makes p (One t) = expr_makes p t
exprs_makes p (Then t comma more) = makes_both (expr_makes p t) (makes_skip (exprs_makes p more))

some_expr_makes : (t : Option ExprTree) → Makes (spell_some_expr t) (some_expr_occs t)
some_expr_makes None = makes_none
some_expr_makes (Some t) = expr_makes context.«Value» t

some_exprs_makes : (es : Option (Separated ExprTree)) → Makes (spell_some_exprs es) (some_exprs_occs es)
some_exprs_makes None = makes_none
some_exprs_makes (Some es) = exprs_makes context.«Value» es

some_type_makes : (t : Option TypeTree) → Makes (spell_some_type t) (some_type_occs t)
some_type_makes None = makes_none
some_type_makes (Some t) = type_makes t

values_makes : (v : Option (Span × Separated ExprTree)) → Makes (spell_values v) (values_occs v)
values_makes None = makes_none
values_makes (Some v) = makes_skip (exprs_makes context.«Value» v.1)

value_spec_makes : (v : ValueSpecTree) → Makes (spell_value_spec v) (value_spec_occs v)
value_spec_makes v = makes_second _ (makes_both (some_type_makes v.type_expr) (values_makes v.values))

group_makes : {A : Type 0} (f : A → List Terminal) (g : A → List Occ) → ((x : A) → Makes (f x) (g x)) → (xs : List (A × Option Span)) → Makes (spell_specs_of f xs) (group_occs g xs)
group_makes f g each [] = makes_none
group_makes f g each (x ∷ xs) = makes_both (each x.0) (makes_second _ (group_makes f g each xs))

specs_makes : {A : Type 0} (f : A → List Terminal) (g : A → List Occ) → ((x : A) → Makes (f x) (g x)) → (s : Specs A) → Makes (spell_specs f s) (specs_occs g s)
specs_makes f g each (Single x) = each x
specs_makes f g each (Group first xs last) = makes_skip (makes_first _ (group_makes f g each xs))

value_makes : (v : ValueTree) → Makes (spell_value v) (value_occs v)
value_makes v = makes_skip (specs_makes spell_value_spec value_spec_occs value_spec_makes v.specs)

type_spec_makes : (t : TypeSpecTree) → Makes (spell_type_spec t) (type_spec_occs t)
type_spec_makes t = makes_skip (makes_second _ (type_makes t.type_expr))

type_decl_makes : (t : TypeDeclTree) → Makes (spell_types t) (type_decl_occs t)
type_decl_makes t = makes_skip (specs_makes spell_type_spec type_spec_occs type_spec_makes t.specs)

simple_makes : (s : SimpleTree) → Makes (spell_simple s) (simple_occs s)
simple_makes (Alone t) = expr_makes context.«Value» t
simple_makes (Step t op span) = makes_first _ (expr_makes context.«Value» t)
simple_makes (Assign ts span es) = makes_both (exprs_makes context.Target ts) (makes_skip (exprs_makes context.«Value» es))
simple_makes (Update t op span e) = makes_both (expr_makes context.«Value» t) (makes_skip (expr_makes context.«Value» e))
simple_makes (Define xs span es) = makes_second _ (makes_skip (exprs_makes context.«Value» es))

some_simple_makes : (s : Option SimpleTree) → Makes (spell_some_simple s) (some_simple_occs s)
some_simple_makes None = makes_none
some_simple_makes (Some s) = simple_makes s

init_makes : (i : Option (Option SimpleTree × Span)) → Makes (spell_init i) (init_occs i)
init_makes None = makes_none
init_makes (Some i) = makes_first _ (some_simple_makes i.0)

if_makes : (h : IfTree) → Makes (spell_if h) (if_occs h)
if_makes h = makes_both (init_makes h.init) (expr_makes context.«Value» h.condition)

for_makes : (h : ForTree) → Makes (spell_for h) (for_occs h)
for_makes Forever = makes_none
for_makes (While t) = expr_makes context.«Value» t
for_makes (Clauses init a test b post) = makes_both (some_simple_makes init) (makes_skip (makes_both (some_expr_makes test) (makes_skip (some_simple_makes post))))

mutual
  stmt_makes : (s : StmtTree) → Makes (spell_stmt s) (stmt_occs s)
  stmt_makes Empty = makes_none
  stmt_makes (Declare v) = value_makes v
  stmt_makes (Simple s) = simple_makes s
  stmt_makes (Return s es) = makes_skip (some_exprs_makes es)
  stmt_makes (Break s) = makes_none
  stmt_makes (Continue s) = makes_none
  stmt_makes (Block first ls last) = makes_skip (makes_first _ (lines_makes ls))
  stmt_makes (If b) = branch_makes b
  stmt_makes (For k head first ls last) = makes_skip (makes_both (for_makes head) (makes_skip (makes_first _ (lines_makes ls))))

  branch_makes : (b : BranchTree) → Makes (spell_branch b) (branch_occs b)
  branch_makes (Branch k head first ls last otherwise) = makes_skip (makes_both (if_makes head) (makes_skip (makes_both (lines_makes ls) (makes_skip (else_makes otherwise)))))

  else_makes : (e : ElseTree) → Makes (spell_else e) (else_occs e)
  else_makes NoElse = makes_none
  else_makes (ElseBlock k first ls last) = makes_skip (makes_skip (makes_first _ (lines_makes ls)))
  else_makes (ElseIf k b) = makes_skip (branch_makes b)

  lines_makes : (ls : Lines) → Makes (spell_lines ls) (lines_occs ls)
  lines_makes NoLines = makes_none
  lines_makes (Line c s rest) = makes_both (stmt_makes c) (makes_second _ (lines_makes rest))

receiver_makes : (r : Option Receiver) → Makes (spell_receiver r) (receiver_occs r)
receiver_makes None = makes_none
receiver_makes (Some r) = makes_skip (makes_second _ (makes_second _ (makes_first _ (type_name_makes r.base))))

func_makes : (f : FuncTree) → Makes (spell_func f) (func_occs f)
func_makes f = makes_skip (makes_both (receiver_makes f.receiver) (makes_skip (makes_both (signature_makes f.signature) (makes_skip (makes_first _ (lines_makes f.body))))))

decl_makes : (d : DeclTree) → Makes (spell_decl d) (decl_occs d)
decl_makes (Value v) = value_makes v
decl_makes (Types t) = type_decl_makes t
decl_makes (Func f) = func_makes f

tops_makes : (ds : List TopTree) → Makes (spell_tops ds) (tops_occs ds)
tops_makes [] = makes_none
tops_makes (d ∷ ds) = makes_both (decl_makes d.decl) (makes_skip (tops_makes ds))

import_makes : (i : ImportSpecTree) → Makes (spell_import i) (import_occs i)
import_makes i = makes_second _ (makes_own refl refl makes_none)

imports_makes : (is : List ImportTree) → Makes (spell_imports is) (imports_occs is)
imports_makes [] = makes_none
imports_makes (i ∷ is) = makes_both (makes_skip (specs_makes spell_import import_occs import_makes i.specs)) (makes_skip (imports_makes is))

-- the occurrences of a file whose tokens are in order follow one another
pub occs_follow : (f : FileTree) (high : ℕ) → InOrder 0 (spell_file f) high → Follow 0 (file_occs f) high
occs_follow f high h =
    let m : Makes (spell_file f) (file_occs f) = makes_skip (makes_skip (makes_skip (makes_both (imports_makes f.imports) (tops_makes f.decls)))) in
    m.follow 0 high h

-- so they are no more than the bytes of the file
pub few_occs : (f : FileTree) (high : ℕ) → InOrder 0 (spell_file f) high → length (file_occs f) ≤ high
few_occs f high h = let few = follow_few (file_occs f) 0 high (occs_follow f high h) in omega arith
