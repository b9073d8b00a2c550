-- The identifiers that are used are those among the occurrences.
use Rattle.std.proofs.Common.{◌≡◌, ℕ, ◌+◌, Bool, true, false, ◌&&◌, List, [], ◌∷◌, ◌++◌, map, Option, Some, None, refl, sym, ap, ◌∙◌, append_assoc, append-nil}
use Rattle.std.specs.Prelude.{if◌then◌else◌, filter, find, nat_eq}
use Rattle.std.specs.List.{flat_map}
use Rattle.std.specs.Option.{option_map}
use Rattle.std.proofs.lemmas.List.{map-append}
use Rattle.std.proofs.lemmas.List.Elements.{filter-append}
use Rattle.go_tree_nodes.specs.text_core.declared.span.Span.{Span}
use Rattle.go_tree_nodes.specs.token_core.declared.kind.Operator.{Operator}
use Rattle.go_tree_nodes.specs.token_core.declared.kind.Operator.TheVariants as operators
use Rattle.go_tree_nodes.specs.declared.names.Ident.{Ident}
use Rattle.go_tree_nodes.specs.declared.exprs.Key.{Key}
use Rattle.go_tree_nodes.specs.declared.decls.ValueKind.{ValueKind}
use Rattle.go_tree_nodes.specs.declared.files.Receiver.{Receiver}
use Rattle.go_tree_nodes.specs.declared.types.TypeName.{TypeName}
use Rattle.go_tree_nodes.specs.declared.types.TypeName.TheVariants as type_names
use Rattle.go_tree_nodes.specs.Rules.{Wf, Wf_items, Wf_exprs, Wf_some_exprs, Wf_values, Wf_value_spec, Wf_group, Wf_specs, Wf_simple, Wf_some_simple, Wf_some_expr, Wf_init, Wf_if, Wf_for, Wf_stmt, Wf_branch, Wf_else, Wf_lines, Wf_decl, Wf_tops, Wf_file}
use Rattle.go_tree_nodes.specs.Spelling.{spell_value_spec, spell_simple, spell_branch}
use Rattle.go_tree_nodes.specs.Trees as tree
use Rattle.go_tree_nodes.specs.Trees.{Separated, One, Then, TypeTree, FieldTrees, MethodTrees, SignatureTree, ResultTree, ParamTrees, NamedType, Pointer, ParenType, Struct, Interface, NoFields, NamedFields, EmbeddedField, NoMethods, Method, Signed, NoResult, OneResult, Results, NoParams, Param, ExprTree, ItemTrees, Integer, Text, Named, Paren, Unary, Binary, Select, Call, Literal, StructLiteral, NoItems, Item, ValueSpecTree, Specs, Single, Group, SimpleTree, Alone, Step, Assign, Update, Define, IfTree, ForTree, Forever, While, Clauses, StmtTree, BranchTree, ElseTree, Lines, Empty, Simple, Return, Break, Continue, Block, If, For, Branch, NoElse, ElseBlock, ElseIf, NoLines, Line, FuncTree, DeclTree, Value, Types, Func, TopTree, ImportSpecTree, ImportTree, FileTree, of_specs}
use Rattle.go_tree_core.specs.declared.occurrence.Role.TheVariants as roles
use Rattle.go_tree_core.specs.declared.occurrence.Context.TheVariants as contexts
use Rattle.go_tree_core.specs.declared.occurrence.Occ.{Occ}
use Rattle.go_tree_core.specs.Occurrences as occ
use Rattle.go_tree_core.specs.Occurrences.{is_identifier, import_occs, imports_occs, specs_occs, group_occs, value_spec_occs, type_spec_occs, simple_occs, some_simple_occs, some_expr_occs, some_exprs_occs, init_occs, if_occs, for_occs, stmt_occs, branch_occs, else_occs, lines_occs, func_occs, decl_occs, tops_occs, file_occs}
use Rattle.go_expr_core.specs.local_core.WalksEnds.{is_blank_target}
use Rattle.go_expr_core.specs.local_core.Steps.{Piece, Header, Spec, Act, Condition, Given, Newness, EachFirst, OneNew, Steps, Done, Check, Declare, Inner}
use Rattle.go_expr_core.specs.local_core.Outline.{idents, end_of, header_idents, spec_steps, group_steps, specs_steps, simple_steps, some_simple_steps, init_steps, some_condition_steps, if_steps, for_steps, stmt_steps, branch_steps, else_steps, lines_steps}
use Rattle.go_expr_core.specs.denote_core.declared.things.Stand.{Stand}
use Rattle.go_expr_core.specs.denote_core.declared.things.Stand.TheVariants as stands
use Rattle.go_expr_core.specs.Places.{inside, under_place, left_place, whole}
use Rattle.go_expr_core.specs.Laws.{context_of}
use Rattle.go_cursor_core.specs.Used.{LiteralType, OfName, OfWritten, Used, used, NameSpot, type_name_used, type_used, fields_used, methods_used, signature_used, result_used, params_used, key_used, expr_used, args_used, elements_used, exprs_used, some_type_used, values_used, spec_used, target_used, targets_used, simple_used, given_used, receiver_used, header_used, piece_used}
use Rattle.go_cursor_core.specs.Opened.{OpenUsed, open_used, piece_opened, steps_opened, with_idents, func_opened, FileUsed, outside, in_func, decl_names, tops_names, file_names, first_name}
use Rattle.go_cursor_core.specs.Laws.{occurrence_of, NamesAreOccurrences}
use Rattle.go_cursor_core.proofs.Finding.{find_mapped}

-- the identifiers among occurrences
abbrev ids : List Occ → List Occ
ids os = filter (λ o. is_identifier o.role) os

record Seen (us : List Used) (os : List Occ) : Type 0 where
  is : map occurrence_of us ≡ ids os

nothing_seen : Seen [] []
nothing_seen = record { is = refl }

both_seen : (us vs : List Used) (os ps : List Occ) → Seen us os → Seen vs ps → Seen (us ++ vs) (os ++ ps)
both_seen us vs os ps first second = record {
  is = map-append occurrence_of us vs ∙ (ap (λ l. l ++ map occurrence_of vs) first.is ∙ (ap (λ l. ids os ++ l) second.is ∙ sym (filter-append (λ o. is_identifier o.role) os ps)));
}

seen_as : (us : List Used) (os ps : List Occ) → os ≡ ps → Seen us os → Seen us ps
seen_as us os ps e h = record { is = h.is ∙ ap ids e }

-- types

name_seen : (n : TypeName) → Seen (type_name_used n) (occ.type_name_occs n)
name_seen (type_names.Plain x) = record { is = refl }
name_seen (type_names.Qualified p dot x) = record { is = refl }

mutual
  type_seen : (t : TypeTree) → Seen (type_used t) (occ.type_occs t)
  type_seen (NamedType n) = name_seen n
  type_seen (Pointer star t) = type_seen t
  type_seen (ParenType first t last) = type_seen t
  type_seen (Struct k first ls last) = fields_seen ls
  type_seen (Interface k first methods last) = methods_seen methods

  fields_seen : (ls : FieldTrees) → Seen (fields_used ls) (occ.fields_occs ls)
  fields_seen NoFields = nothing_seen
  fields_seen (NamedFields xs t tag s rest) = both_seen _ _ _ _ (type_seen t) (fields_seen rest)
  fields_seen (EmbeddedField star n tag s rest) = both_seen _ _ _ _ (name_seen n) (fields_seen rest)

  methods_seen : (ms : MethodTrees) → Seen (methods_used ms) (occ.methods_occs ms)
  methods_seen NoMethods = nothing_seen
  methods_seen (Method x signature s rest) = both_seen _ _ _ _ (signature_seen signature) (methods_seen rest)

  signature_seen : (g : SignatureTree) → Seen (signature_used g) (occ.signature_occs g)
  signature_seen (Signed first params last result) = both_seen _ _ _ _ (params_seen params) (result_seen result)

  result_seen : (r : ResultTree) → Seen (result_used r) (occ.result_occs r)
  result_seen NoResult = nothing_seen
  result_seen (OneResult t) = type_seen t
  result_seen (Results first params last) = params_seen params

  params_seen : (ps : ParamTrees) → Seen (params_used ps) (occ.params_occs ps)
  params_seen NoParams = nothing_seen
  params_seen (Param xs t comma rest) = both_seen _ _ _ _ (type_seen t) (params_seen rest)

-- expressions

named_seen : (p : Stand) (x : Ident) → Seen (used x (NameSpot p) ∷ []) (occ.named_occs (context_of p) x)
named_seen stands.«Type» x = record { is = refl }
named_seen stands.TypeDot x = record { is = refl }
named_seen stands.«Value» x = record { is = refl }
named_seen stands.Callee x = record { is = refl }
named_seen stands.BeforeDot x = record { is = refl }

inside_same : (p : Stand) → context_of (inside p) ≡ occ.inside_context (context_of p)
inside_same stands.«Type» = refl
inside_same stands.TypeDot = refl
inside_same stands.«Value» = refl
inside_same stands.Callee = refl
inside_same stands.BeforeDot = refl

under_same : (op : Operator) (p : Stand) → context_of (under_place op p) ≡ occ.under op (context_of p)
under_same operators.Star stands.«Type» = refl
under_same operators.Star stands.TypeDot = refl
under_same operators.Star stands.«Value» = refl
under_same operators.Star stands.Callee = refl
under_same operators.Star stands.BeforeDot = refl
under_same _ p = refl

whole_same : (p : Stand) → whole p ≡ occ.whole_usage (context_of p)
whole_same stands.«Type» = refl
whole_same stands.TypeDot = refl
whole_same stands.«Value» = refl
whole_same stands.Callee = refl
whole_same stands.BeforeDot = refl

under_value : (op : Operator) → occ.under op contexts.«Value» ≡ occ.under op contexts.BeforeDot
under_value operators.Star = refl
under_value _ = refl

left_name : (p : Stand) (x : Ident) → occ.named_occs (context_of (left_place p (Named x))) x ≡ occ.named_occs contexts.BeforeDot x
left_name stands.«Type» x = refl
left_name stands.TypeDot x = refl
left_name stands.«Value» x = refl
left_name stands.Callee x = refl
left_name stands.BeforeDot x = refl

left_same : (p : Stand) (e : ExprTree) → occ.expr_occs (context_of (left_place p e)) e ≡ occ.expr_occs contexts.BeforeDot e
left_same p (Integer n span) = refl
left_same p (Text t) = refl
left_same p (Named x) = left_name p x
left_same p (Paren first e last) = refl
left_same p (Unary op span e) = ap (λ c. occ.expr_occs c e) (under_value op)
left_same p (Binary a op span b) = refl
left_same p (Select e dot x) = refl
left_same p (Call e first items last) = refl
left_same p (Literal n first items last) = refl
left_same p (StructLiteral t first items last) = refl

key_seen : (l : LiteralType) (all : ItemTrees) (n : ℕ) (key : Option Key) → Seen (key_used l all n key) (occ.key_occs key)
key_seen l all n None = nothing_seen
key_seen l all n (Some k) = record { is = refl }

mutual
  seen : (p : Stand) (header : Bool) (e : ExprTree) → Wf header e → Seen (expr_used p e) (occ.expr_occs (context_of p) e)
  seen p header (Integer n span) w = nothing_seen
  seen p header (Text t) w = nothing_seen
  seen p header (Named x) w = named_seen p x
  seen p header (Paren first e last) w = seen_as _ _ _ (ap (λ c. occ.expr_occs c e) (inside_same p)) (seen (inside p) false e w)
  seen p header (Unary op span e) w = seen_as _ _ _ (ap (λ c. occ.expr_occs c e) (under_same op p)) (seen (under_place op p) header e w.1)
  seen p header (Binary a op span b) w = both_seen _ _ _ _ (seen stands.«Value» header a w.1) (seen stands.«Value» header b w.3)
  seen p header (Select e dot x) w =
      both_seen _ _ _ _ (seen_as _ _ _ (left_same p e) (seen (left_place p e) header e w.0)) (record { is = ap (λ u. occ.occurrence (roles.Selector u) x ∷ []) (whole_same p) })
  seen p header (Call e first items last) w = both_seen _ _ _ _ (seen stands.Callee header e w.0) (record { is = (args_seen items w.2).is })
  seen p header (Literal n first items last) w = both_seen _ _ _ _ (name_seen n) (elements_seen (OfName n) items 0 items w.1)
  seen p header (StructLiteral t first items last) w = both_seen _ _ _ _ (type_seen t) (elements_seen (OfWritten t) items 0 items w.2)

  args_seen : (items : ItemTrees) → Wf_items false items → Seen (args_used items) (occ.items_occs items)
  args_seen NoItems w = nothing_seen
  args_seen (Item None e comma rest) w = both_seen _ _ _ _ (seen stands.«Value» false e w.1) (args_seen rest w.3)
  args_seen (Item (Some k) e comma rest) w = absurd w.0

  elements_seen : (l : LiteralType) (all : ItemTrees) (n : ℕ) (items : ItemTrees) → Wf_items true items → Seen (elements_used l all n items) (occ.items_occs items)
  elements_seen l all n NoItems w = nothing_seen
  elements_seen l all n (Item key e comma rest) w = both_seen _ _ _ _ (key_seen l all n key) (both_seen _ _ _ _ (seen stands.«Value» false e w.1) (elements_seen l all (n + 1) rest w.3))

-- pieces

under_target : (op : Operator) → occ.under op contexts.Target ≡ occ.under op contexts.«Value»
under_target operators.Star = refl
under_target _ = refl

target_occs : (e : ExprTree) → occ.expr_occs contexts.Target e ≡ (if is_blank_target e then [] else occ.expr_occs contexts.«Value» e)
target_occs (Integer n span) = refl
target_occs (Text t) = refl
target_occs (Named x) = refl
target_occs (Paren first e last) = target_occs e
target_occs (Unary op span e) = ap (λ p. occ.expr_occs p e) (under_target op)
target_occs (Binary a op span b) = refl
target_occs (Select e dot x) = refl
target_occs (Call e first items last) = refl
target_occs (Literal n first items last) = refl
target_occs (StructLiteral t first items last) = refl

exprs_seen : (header : Bool) (es : Separated ExprTree) → Wf_exprs header es → Seen (exprs_used es) (occ.exprs_occs contexts.«Value» es)
exprs_seen header (One e) w = seen stands.«Value» header e w
exprs_seen header (Then e comma more) w = both_seen _ _ _ _ (seen stands.«Value» header e w.0) (exprs_seen header more w.1)

target_seen : (header : Bool) (e : ExprTree) → Wf header e → Seen (target_used e) (occ.expr_occs contexts.Target e)
target_seen header e w = seen_as _ _ _ (sym (target_occs e)) (by (is_blank_target e))
  where
    by : (b : Bool) → Seen (if b then [] else expr_used stands.«Value» e) (if b then [] else occ.expr_occs contexts.«Value» e)
    by true = nothing_seen
    by false = seen stands.«Value» header e w

targets_seen : (header : Bool) (es : Separated ExprTree) → Wf_exprs header es → Seen (targets_used es) (occ.exprs_occs contexts.Target es)
targets_seen header (One e) w = target_seen header e w
targets_seen header (Then e comma more) w = both_seen _ _ _ _ (target_seen header e w.0) (targets_seen header more w.1)

some_type_seen : (t : Option TypeTree) → Seen (some_type_used t) (occ.some_type_occs t)
some_type_seen None = nothing_seen
some_type_seen (Some t) = type_seen t

values_seen : (v : Option (Span × Separated ExprTree)) → Wf_values v → Seen (values_used v) (occ.values_occs v)
values_seen None w = nothing_seen
values_seen (Some v) w = exprs_seen false v.1 w

spec_seen : (v : ValueSpecTree) → Wf_values v.values → Seen (spec_used v) (value_spec_occs v)
spec_seen v w = both_seen _ _ _ _ (some_type_seen v.type_expr) (values_seen v.values w)

simple_seen : (header : Bool) (s : SimpleTree) → Wf_simple header s → Seen (simple_used s) (simple_occs s)
simple_seen header (Alone e) w = seen stands.«Value» header e w
simple_seen header (Step e op span) w = seen stands.«Value» header e w.1
simple_seen header (Assign ts span es) w = both_seen _ _ _ _ (targets_seen header ts w.0) (exprs_seen header es w.1)
simple_seen header (Update e op span v) w = both_seen _ _ _ _ (seen stands.«Value» header e w.1) (seen stands.«Value» header v w.2)
simple_seen header (Define xs span es) w = exprs_seen header es w

given_seen : (es : Option (Separated ExprTree)) → Wf_some_exprs es → Seen (given_used es) (some_exprs_occs es)
given_seen None w = nothing_seen
given_seen (Some es) w = exprs_seen false es w

receiver_seen : (r : Option Receiver) → Seen (receiver_used r) (occ.receiver_occs r)
receiver_seen None = nothing_seen
receiver_seen (Some r) = name_seen r.base

header_seen : (r : Option Receiver) (g : SignatureTree) → Seen (header_used r g) (occ.receiver_occs r ++ occ.signature_occs g)
header_seen r g = both_seen _ _ _ _ (receiver_seen r) (signature_seen g)

-- functions

abbrev open_occ : OpenUsed → Occ
open_occ o = occurrence_of o.used

opened_occs : (xs : List Ident) (us : List Used) → map open_occ (map (open_used xs) us) ≡ map occurrence_of us
opened_occs xs [] = refl
opened_occs xs (u ∷ us) = ap (λ l. occurrence_of u ∷ l) (opened_occs xs us)

-- the identifiers of these steps, before further ones, are those among these occurrences, whatever is open
record Meets (os : List Occ) (f : Steps → Steps) : Type 0 where
  meets : (us : List Occ) (rest : Steps) → ((outer block : List Ident) → map open_occ (steps_opened outer block rest) ≡ us) → (outer block : List Ident) → map open_occ (steps_opened outer block (f rest)) ≡ ids os ++ us

no_steps : Meets [] (λ rest. rest)
no_steps = record { meets = λ us rest h outer block. h outer block }

piece_behind : (xs : List Ident) (p : Piece) (os : List Occ) (more : List OpenUsed) (us : List Occ) → Seen (piece_used p) os → map open_occ more ≡ us → map open_occ (piece_opened xs p ++ more) ≡ ids os ++ us
piece_behind xs p os more us now h =
    map-append open_occ (piece_opened xs p) more ∙ (ap (λ l. l ++ map open_occ more) (opened_occs xs (piece_used p) ∙ now.is) ∙ ap (λ l. ids os ++ l) h)

check : (p : Piece) (os : List Occ) → Seen (piece_used p) os → Meets os (λ rest. Check p rest)
check p os now = record { meets = λ us rest h outer block. piece_behind (outer ++ block) p os (steps_opened outer block rest) us now (h outer block) }

declare : (m : Newness) (from : ℕ) (p : Piece) (xs : List Ident) (os : List Occ) → Seen (piece_used p) os → Meets os (λ rest. Declare m from p xs rest)
declare m from p xs os now = record { meets = λ us rest h outer block. piece_behind (outer ++ block) p os (steps_opened outer (with_idents block xs) rest) us now (h outer (with_idents block xs)) }

one_then : {os ps : List Occ} {f g : Steps → Steps} → Meets os f → Meets ps g → Meets (os ++ ps) (λ rest. f (g rest))
one_then {os} {ps} {f} {g} first second = record {
  meets = λ us rest h outer block.
      first.meets (ids ps ++ us) (g rest) (second.meets us rest h) outer block ∙ (sym (append_assoc (ids os) (ids ps) us) ∙ ap (λ l. l ++ us) (sym (filter-append (λ o. is_identifier o.role) os ps)));
}

inner : {os : List Occ} {f : Steps → Steps} (o c : ℕ) → Meets os f → Meets os (λ rest. Inner o c (f Done) rest)
inner {os} {f} o c inside_it = record {
  meets = λ us rest h outer block.
      map-append open_occ (steps_opened (outer ++ block) [] (f Done)) (steps_opened outer block rest)
      ∙ (ap (λ l. l ++ map open_occ (steps_opened outer block rest)) (inside_it.meets [] Done (λ xs ys. refl) (outer ++ block) [] ∙ append-nil (ids os)) ∙ ap (λ l. ids os ++ l) (h outer block));
}

simple_meets : (header : Bool) (s : SimpleTree) → Wf_simple header s → Meets (simple_occs s) (λ rest. simple_steps s rest)
simple_meets header (Alone e) w = check (Act (Alone e)) _ (simple_seen header (Alone e) w)
simple_meets header (Step e op span) w = check (Act (Step e op span)) _ (simple_seen header (Step e op span) w)
simple_meets header (Assign ts span es) w = check (Act (Assign ts span es)) _ (simple_seen header (Assign ts span es) w)
simple_meets header (Update e op span v) w = check (Act (Update e op span v)) _ (simple_seen header (Update e op span v) w)
simple_meets header (Define xs span es) w = declare OneNew (end_of (spell_simple (Define xs span es))) (Act (Define xs span es)) (idents xs) _ (simple_seen header (Define xs span es) w)

spec_meets : (k : ValueKind) (v : ValueSpecTree) → Wf_value_spec k v → Meets (value_spec_occs v) (λ rest. spec_steps k v rest)
spec_meets k v w = declare EachFirst (end_of (spell_value_spec v)) (Spec k v) (idents v.names) _ (spec_seen v w.2)

group_meets : (k : ValueKind) (vs : List (ValueSpecTree × Option Span)) → Wf_group (Wf_value_spec k) vs → Meets (group_occs value_spec_occs vs) (λ rest. group_steps k vs rest)
group_meets k [] w = no_steps
group_meets k (v ∷ vs) w = one_then (spec_meets k v.0 w.0) (group_meets k vs w.2)

specs_meet : (k : ValueKind) (s : Specs ValueSpecTree) → Wf_specs (Wf_value_spec k) s → Meets (specs_occs value_spec_occs s) (λ rest. specs_steps k s rest)
specs_meet k (Single v) w = spec_meets k v w
specs_meet k (Group first vs last) w = group_meets k vs w

some_simple_meets : (s : Option SimpleTree) → Wf_some_simple s → Meets (some_simple_occs s) (λ rest. some_simple_steps s rest)
some_simple_meets None w = no_steps
some_simple_meets (Some s) w = simple_meets true s w

init_meets : (i : Option (Option SimpleTree × Span)) → Wf_init i → Meets (init_occs i) (λ rest. init_steps i rest)
init_meets None w = no_steps
init_meets (Some i) w = some_simple_meets i.0 w

condition_meets : (e : ExprTree) → Wf true e → Meets (occ.expr_occs contexts.«Value» e) (λ rest. Check (Condition e) rest)
condition_meets e w = check (Condition e) _ (seen stands.«Value» true e w)

some_condition_meets : (e : Option ExprTree) → Wf_some_expr e → Meets (some_expr_occs e) (λ rest. some_condition_steps e rest)
some_condition_meets None w = no_steps
some_condition_meets (Some e) w = condition_meets e w

if_meets : (h : IfTree) → Wf_if h → Meets (if_occs h) (λ rest. if_steps h rest)
if_meets h w = one_then (init_meets h.init w.0) (condition_meets h.condition w.1)

for_meets : (h : ForTree) → Wf_for h → Meets (for_occs h) (λ rest. for_steps h rest)
for_meets Forever w = no_steps
for_meets (While e) w = condition_meets e w
for_meets (Clauses init a test b post) w = one_then (some_simple_meets init w.0) (one_then (some_condition_meets test w.1) (some_simple_meets post w.2))

mutual
  stmt_meets : (s : StmtTree) → Wf_stmt s → Meets (stmt_occs s) (λ rest. stmt_steps s rest)
  stmt_meets Empty w = no_steps
  stmt_meets (tree.Declare v) w = specs_meet v.kind v.specs w
  stmt_meets (Simple s) w = simple_meets false s w
  stmt_meets (Return s es) w = check (Given s es) _ (given_seen es w)
  stmt_meets (Break s) w = no_steps
  stmt_meets (Continue s) w = no_steps
  stmt_meets (Block first ls last) w = inner first.start last.start (lines_meet ls w)
  stmt_meets (If b) w = branch_meets b w
  stmt_meets (For k head first ls last) w = inner k.start last.end (one_then (for_meets head w.0) (inner first.start last.start (lines_meet ls w.1)))

  branch_meets : (b : BranchTree) → Wf_branch b → Meets (branch_occs b) (λ rest. branch_steps b rest)
  branch_meets (Branch k head first ls last otherwise) w =
      inner k.start (end_of (spell_branch (Branch k head first ls last otherwise))) (one_then (if_meets head w.0) (one_then (inner first.start last.start (lines_meet ls w.1)) (else_meets otherwise w.2)))

  else_meets : (e : ElseTree) → Wf_else e → Meets (else_occs e) (λ rest. else_steps e rest)
  else_meets NoElse w = no_steps
  else_meets (ElseBlock k first ls last) w = inner first.start last.start (lines_meet ls w)
  else_meets (ElseIf k b) w = branch_meets b w

  lines_meet : (ls : Lines) → Wf_lines ls → Meets (lines_occs ls) (λ rest. lines_steps ls rest)
  lines_meet NoLines w = no_steps
  lines_meet (Line s semicolon more) w = one_then (stmt_meets s w.0) (lines_meet more w.2)

func_seen : (f : FuncTree) → Wf_lines f.body → map open_occ (func_opened f) ≡ ids (func_occs f)
func_seen f w =
    let front = occ.receiver_occs f.receiver ++ occ.signature_occs f.signature in
    (one_then (declare EachFirst f.open_brace.start (Header f.receiver f.signature) (header_idents f.receiver f.signature) front (header_seen f.receiver f.signature)) (lines_meet f.body w)).meets [] Done (λ xs ys. refl) [] []
    ∙ (append-nil (ids (front ++ lines_occs f.body)) ∙ ap ids (append_assoc (occ.receiver_occs f.receiver) (occ.signature_occs f.signature) (lines_occs f.body)))

-- files

abbrev name_occ : FileUsed → Occ
name_occ n = occurrence_of n.used

outside_occs : (us : List Used) → map name_occ (map outside us) ≡ map occurrence_of us
outside_occs [] = refl
outside_occs (u ∷ us) = ap (λ l. occurrence_of u ∷ l) (outside_occs us)

in_func_occs : (f : FuncTree) (os : List OpenUsed) → map name_occ (map (in_func f) os) ≡ map open_occ os
in_func_occs f [] = refl
in_func_occs f (o ∷ os) = ap (λ l. open_occ o ∷ l) (in_func_occs f os)

group_seen : {A : Type 0} (Fits : A → Type 0) (names : A → List Used) (occs : A → List Occ) → ((a : A) → Fits a → Seen (names a) (occs a)) → (xs : List (A × Option Span)) → Wf_group Fits xs → Seen (flat_map (λ l. names l.0) xs) (group_occs occs xs)
group_seen Fits names occs each [] w = nothing_seen
group_seen Fits names occs each (x ∷ xs) w = both_seen _ _ _ _ (each x.0 w.0) (group_seen Fits names occs each xs w.2)

specs_seen : {A : Type 0} (Fits : A → Type 0) (names : A → List Used) (occs : A → List Occ) → ((a : A) → Fits a → Seen (names a) (occs a)) → (s : Specs A) → Wf_specs Fits s → Seen (of_specs names s) (specs_occs occs s)
specs_seen Fits names occs each (Single x) w = each x w
specs_seen Fits names occs each (Group first xs last) w = group_seen Fits names occs each xs w

decl_seen : (d : DeclTree) → Wf_decl d → map name_occ (decl_names d) ≡ ids (decl_occs d)
decl_seen (Value v) w = outside_occs (of_specs spec_used v.specs) ∙ (specs_seen (Wf_value_spec v.kind) spec_used value_spec_occs (λ a h. spec_seen a h.2) v.specs w).is
decl_seen (Types t) w = outside_occs (of_specs (λ s. type_used s.type_expr) t.specs) ∙ (specs_seen _ (λ s. type_used s.type_expr) type_spec_occs (λ a h. type_seen a.type_expr) t.specs w).is
decl_seen (Func f) w = in_func_occs f (func_opened f) ∙ func_seen f w.1

tops_seen : (ds : List TopTree) → Wf_tops ds → map name_occ (tops_names ds) ≡ ids (tops_occs ds)
tops_seen [] w = refl
tops_seen (d ∷ ds) w =
    map-append name_occ (decl_names d.decl) (tops_names ds)
    ∙ (ap (λ l. l ++ map name_occ (tops_names ds)) (decl_seen d.decl w.0) ∙ (ap (λ l. ids (decl_occs d.decl) ++ l) (tops_seen ds w.1) ∙ sym (filter-append (λ o. is_identifier o.role) (decl_occs d.decl) (tops_occs ds))))

group_none : (xs : List (ImportSpecTree × Option Span)) → ids (group_occs import_occs xs) ≡ []
group_none [] = refl
group_none (x ∷ xs) = group_none xs

specs_none : (s : Specs ImportSpecTree) → ids (specs_occs import_occs s) ≡ []
specs_none (Single x) = refl
specs_none (Group first xs last) = group_none xs

imports_none : (is : List ImportTree) → ids (imports_occs is) ≡ []
imports_none [] = refl
imports_none (i ∷ is) = filter-append (λ o. is_identifier o.role) (specs_occs import_occs i.specs) (imports_occs is) ∙ (ap (λ l. l ++ ids (imports_occs is)) (specs_none i.specs) ∙ imports_none is)

file_seen : (f : FileTree) → Wf_file f → map name_occ (file_names f) ≡ ids (file_occs f)
file_seen f w = tops_seen f.decls w.1 ∙ (ap (λ l. l ++ ids (tops_occs f.decls)) (sym (imports_none f.imports)) ∙ sym (filter-append (λ o. is_identifier o.role) (imports_occs f.imports) (tops_occs f.decls)))

find_filtered : {A : Type 0} (p q : A → Bool) (xs : List A) → find q (filter p xs) ≡ find (λ x. p x && q x) xs
find_filtered p q [] = refl
find_filtered p q (x ∷ xs) = by (p x) (q x) (find_filtered p q xs)
  where
    by : (a b : Bool) → find q (filter p xs) ≡ find (λ y. p y && q y) xs → find q (if a then x ∷ filter p xs else filter p xs) ≡ (if a && q x then Some x else find (λ y. p y && q y) xs)
    by true b h = ap (λ r. if q x then Some x else r) h
    by false b h = h

file_found : (f : FileTree) → Wf_file f → (start : ℕ) → option_map name_occ (first_name start (file_names f)) ≡ find (λ o. is_identifier o.role && nat_eq o.span.start start) (file_occs f)
file_found f w start =
    sym (find_mapped (λ o. nat_eq o.span.start start) name_occ (file_names f)) ∙ (ap (find (λ o. nat_eq o.span.start start)) (file_seen f w) ∙ find_filtered (λ o. is_identifier o.role) (λ o. nat_eq o.span.start start) (file_occs f))

pub names_occur : NamesAreOccurrences
names_occur = record { each = file_seen; found = file_found }
