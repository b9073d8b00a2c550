-- The uses of a function's pieces are those of its occurrences that are looked up.
use Rattle.std.proofs.Common.{◌≡◌, ℕ, Bool, true, false, List, [], ◌∷◌, ◌++◌, Option, Some, None, if◌then◌else◌, refl, sym, ap, ◌∙◌, append_assoc, append-nil}
use Rattle.go_scope_core.specs.text_core.Text.{is_blank}
use Rattle.go_scope_core.specs.text_core.declared.span.Span.{Span}
use Rattle.go_tree_nodes.specs.declared.names.Ident.{Ident}
use Rattle.go_tree_nodes.specs.declared.types.TypeName.{TypeName}
use Rattle.go_tree_nodes.specs.declared.types.TypeName.TheVariants as type_name
use Rattle.go_tree_nodes.specs.declared.exprs.Key.{Key}
use Rattle.go_tree_nodes.specs.declared.decls.ValueKind.{ValueKind}
use Rattle.go_tree_nodes.specs.declared.files.Receiver.{Receiver}
use Rattle.go_tree_nodes.specs.Trees as tree
use Rattle.go_tree_nodes.specs.Trees.{Separated, One, Then, TypeTree, FieldTrees, MethodTrees, SignatureTree, ResultTree, ParamTrees, NamedType, Pointer, ParenType, Struct, Interface, NoFields, NamedFields, EmbeddedField, NoMethods, Method, Signed, NoResult, OneResult, Results, NoParams, Param, ExprTree, ItemTrees, Integer, Text, Named, Paren, Unary, Binary, Select, Call, Literal, StructLiteral, NoItems, Item, ValueSpecTree, Specs, Single, Group, SimpleTree, Alone, Step, Assign, Update, Define, IfTree, ForTree, Forever, While, Clauses, StmtTree, BranchTree, ElseTree, Lines, Empty, Simple, Return, Break, Continue, Block, If, For, Branch, NoElse, ElseBlock, ElseIf, NoLines, Line, FuncTree}
use Rattle.go_tree_nodes.specs.Spelling.{spell_value_spec, spell_simple, spell_branch}
use Rattle.go_tree_core.specs.declared.occurrence.Role.{Role}
use Rattle.go_tree_core.specs.declared.occurrence.Role.TheVariants as role
use Rattle.go_tree_core.specs.declared.occurrence.Context.{Context}
use Rattle.go_tree_core.specs.declared.occurrence.Context.TheVariants as context
use Rattle.go_tree_core.specs.declared.occurrence.Occ.{Occ}
use Rattle.go_tree_core.specs.Occurrences.{occurrence, call_at, type_name_occs, type_occs, fields_occs, methods_occs, signature_occs, result_occs, params_occs, key_occs, named_occs, expr_occs, items_occs, exprs_occs, inside_context, under, some_type_occs, values_occs, value_spec_occs, group_occs, specs_occs, simple_occs, some_simple_occs, some_expr_occs, some_exprs_occs, init_occs, if_occs, for_occs, stmt_occs, branch_occs, else_occs, lines_occs, receiver_occs}
use Rattle.go_tree_core.proofs.Telling.{is_target, inside_not, under_not}
use Rattle.go_local_core.specs.Steps.{Piece, Spec, Act, Condition, Given, Newness, EachFirst, OneNew, Steps, Done, Check, Declare, Inner}
use Rattle.go_local_core.specs.Outline.{idents, end_of, spec_steps, group_steps, specs_steps, simple_steps, some_simple_steps, init_steps, some_condition_steps, if_steps, for_steps, stmt_steps, branch_steps, else_steps, lines_steps}
use Rattle.go_names_core.specs.Uses.{simple_used_idents, piece_used_idents}
use Rattle.go_names_core.specs.Occurrences.{is_looked_up, looked_up, steps_uses, PieceNamesAreOccurrences}
use Rattle.go_tree_nodes.specs.Idents.{type_name_idents, type_idents, fields_idents, methods_idents, signature_type_idents, result_type_idents, params_idents, receiver_type_idents, expr_idents, items_idents, list_idents, returned_idents, some_type_idents}
use Rattle.go_local_core.specs.walks.PieceIdents.{target_idents, targets_idents, values_idents, value_spec_idents}

looked_append : (xs ys : List Occ) → looked_up (xs ++ ys) ≡ looked_up xs ++ looked_up ys
looked_append [] ys = refl
looked_append (x ∷ xs) ys =
    ap (λ us. (if is_looked_up x.role then record { name = x.spelling; span = x.span } ∷ [] else []) ++ us) (looked_append xs ys)
    ∙ sym (append_assoc (if is_looked_up x.role then record { name = x.spelling; span = x.span } ∷ [] else []) (looked_up xs) (looked_up ys))

-- these are the occurrences that are looked up
record Looked (os : List Occ) (us : List Ident) : Type 0 where
  is : looked_up os ≡ us

none : Looked [] []
none = record { is = refl }

both : {xs ys : List Occ} {us vs : List Ident} → Looked xs us → Looked ys vs → Looked (xs ++ ys) (us ++ vs)
both {xs} {ys} {us} {vs} first second = record { is = looked_append xs ys ∙ (ap (λ l. l ++ looked_up ys) first.is ∙ ap (λ l. us ++ l) second.is) }

one : (x : Ident) (r : Role) → is_looked_up r ≡ true → Looked (occurrence r x ∷ []) (x ∷ [])
one x r h = record { is = ap (λ b. (if b then x ∷ [] else []) ++ []) h }

-- an occurrence that is not looked up
skip : {xs : List Occ} {us : List Ident} (o : Occ) → is_looked_up o.role ≡ false → Looked xs us → Looked (o ∷ xs) us
skip {xs} {us} o h rest = record { is = ap (λ b. (if b then record { name = o.spelling; span = o.span } ∷ [] else []) ++ looked_up xs) h ∙ rest.is }

but_last : {xs : List Occ} {us : List Ident} (o : Occ) → is_looked_up o.role ≡ false → Looked xs us → Looked (xs ++ o ∷ []) us
but_last {xs} {us} o h first = record { is = (both first (skip o h none)).is ∙ append-nil us }

-- types

type_name_looked : (n : TypeName) → Looked (type_name_occs n) (type_name_idents n)
type_name_looked (type_name.Plain x) = record { is = refl }
type_name_looked (type_name.Qualified p dot x) = record { is = refl }

mutual
  type_looked : (t : TypeTree) → Looked (type_occs t) (type_idents t)
  type_looked (NamedType n) = type_name_looked n
  type_looked (Pointer star t) = type_looked t
  type_looked (ParenType first t last) = type_looked t
  type_looked (Struct k first ls last) = fields_looked ls
  type_looked (Interface k first methods last) = methods_looked methods

  fields_looked : (fs : FieldTrees) → Looked (fields_occs fs) (fields_idents fs)
  fields_looked NoFields = none
  fields_looked (NamedFields xs t tag s rest) = both (type_looked t) (fields_looked rest)
  fields_looked (EmbeddedField star n tag s rest) = both (type_name_looked n) (fields_looked rest)

  methods_looked : (ms : MethodTrees) → Looked (methods_occs ms) (methods_idents ms)
  methods_looked NoMethods = none
  methods_looked (Method x signature s rest) = both (signature_looked signature) (methods_looked rest)

  signature_looked : (s : SignatureTree) → Looked (signature_occs s) (signature_type_idents s)
  signature_looked (Signed first params last result) = both (params_looked params) (result_looked result)

  result_looked : (r : ResultTree) → Looked (result_occs r) (result_type_idents r)
  result_looked NoResult = none
  result_looked (OneResult t) = type_looked t
  result_looked (Results first params last) = params_looked params

  params_looked : (ps : ParamTrees) → Looked (params_occs ps) (params_idents ps)
  params_looked NoParams = none
  params_looked (Param xs t comma rest) = both (type_looked t) (params_looked rest)

receiver_looked : (r : Option Receiver) → Looked (receiver_occs r) (receiver_type_idents r)
receiver_looked None = none
receiver_looked (Some r) = type_name_looked r.base

-- expressions: what is looked up is the same in each context but that of a target

named_looked : (p : Context) → is_target p ≡ false → (x : Ident) → Looked (named_occs p x) (x ∷ [])
named_looked context.«Type» h x = record { is = refl }
named_looked context.«Value» h x = record { is = refl }
named_looked context.Callee h x = record { is = refl }
named_looked context.BeforeDot h x = record { is = refl }
named_looked context.Target h x = absurd (cc)

key_looked : (k : Option Key) → Looked (key_occs k) []
key_looked None = none
key_looked (Some k) = record { is = refl }

mutual
  expr_looked : (p : Context) → is_target p ≡ false → (t : ExprTree) → Looked (expr_occs p t) (expr_idents t)
  expr_looked p h (Integer n span) = none
  expr_looked p h (Text t) = none
  expr_looked p h (Named x) = named_looked p h x
  expr_looked p h (Paren first t last) = expr_looked (inside_context p) (inside_not p h) t
  expr_looked p h (Unary op span t) = expr_looked (under op p) (under_not op p) t
  expr_looked p h (Binary a op span b) = both (expr_looked context.«Value» refl a) (expr_looked context.«Value» refl b)
  expr_looked p h (Select t dot x) = but_last _ refl (expr_looked context.BeforeDot refl t)
  expr_looked p h (Call t first items last) = both (expr_looked context.Callee refl t) (skip (call_at first) refl (items_looked items))
  expr_looked p h (Literal n first items last) = both (type_name_looked n) (items_looked items)
  expr_looked p h (StructLiteral t first items last) = both (type_looked t) (items_looked items)

  items_looked : (is : ItemTrees) → Looked (items_occs is) (items_idents is)
  items_looked NoItems = none
  items_looked (Item key t comma rest) = both (key_looked key) (both (expr_looked context.«Value» refl t) (items_looked rest))

value : (t : ExprTree) → Looked (expr_occs context.«Value» t) (expr_idents t)
value t = expr_looked context.«Value» refl t

exprs_looked : (es : Separated ExprTree) → Looked (exprs_occs context.«Value» es) (list_idents es)
exprs_looked (One t) = value t
exprs_looked (Then t comma more) = both (value t) (exprs_looked more)

target : (t : ExprTree) → Looked (expr_occs context.Target t) (target_idents t)
target (Integer n span) = none
target (Text t) = none
target (Named x) = by (is_blank x.name)
  where
    by : (b : Bool) → Looked (if b then [] else occurrence role.«Value» x ∷ []) (if b then [] else x ∷ [])
    by true = none
    by false = record { is = refl }
target (Paren first t last) = target t
target (Unary op span t) = expr_looked (under op context.Target) (under_not op context.Target) t
target (Binary a op span b) = both (value a) (value b)
target (Select t dot x) = but_last _ refl (expr_looked context.BeforeDot refl t)
target (Call t first items last) = both (expr_looked context.Callee refl t) (skip (call_at first) refl (items_looked items))
target (Literal n first items last) = both (type_name_looked n) (items_looked items)
target (StructLiteral t first items last) = both (type_looked t) (items_looked items)

targets_looked : (ts : Separated ExprTree) → Looked (exprs_occs context.Target ts) (targets_idents ts)
targets_looked (One t) = target t
targets_looked (Then t comma more) = both (target t) (targets_looked more)

-- pieces

some_type_looked : (t : Option TypeTree) → Looked (some_type_occs t) (some_type_idents t)
some_type_looked None = none
some_type_looked (Some t) = type_looked t

values_looked : (v : Option (Span × Separated ExprTree)) → Looked (values_occs v) (values_idents v)
values_looked None = none
values_looked (Some v) = exprs_looked v.1

value_spec_looked : (v : ValueSpecTree) → Looked (value_spec_occs v) (value_spec_idents v)
value_spec_looked v = both (some_type_looked v.type_expr) (values_looked v.values)

simple_looked : (s : SimpleTree) → Looked (simple_occs s) (simple_used_idents s)
simple_looked (Alone t) = value t
simple_looked (Step t op span) = value t
simple_looked (Assign ts span es) = both (targets_looked ts) (exprs_looked es)
simple_looked (Update t op span e) = both (value t) (value e)
simple_looked (Define xs span es) = exprs_looked es

some_exprs_looked : (es : Option (Separated ExprTree)) → Looked (some_exprs_occs es) (returned_idents es)
some_exprs_looked None = none
some_exprs_looked (Some es) = exprs_looked es

-- these occurrences are those of these steps, before further ones
record Goes (os : List Occ) (f : Steps → Steps) : Type 0 where
  goes : (us : List Occ) (rest : Steps) → Looked us (steps_uses rest) → Looked (os ++ us) (steps_uses (f rest))

nothing : Goes [] (λ rest. rest)
nothing = record { goes = λ us rest h. h }

check : {os : List Occ} (p : Piece) → Looked os (piece_used_idents p) → Goes os (λ rest. Check p rest)
check {os} p here = record { goes = λ us rest h. both here h }

declare : {os : List Occ} (m : Newness) (from : ℕ) (p : Piece) (xs : List Ident) → Looked os (piece_used_idents p) → Goes os (λ rest. Declare m from p xs rest)
declare {os} m from p xs here = record { goes = λ us rest h. both here h }

one_then : {os ps : List Occ} {f g : Steps → Steps} → Goes os f → Goes ps g → Goes (os ++ ps) (λ rest. f (g rest))
one_then {os} {ps} {f} {g} first second = record { goes = λ us rest h. record { is = ap looked_up (append_assoc os ps us) ∙ (first.goes (ps ++ us) (g rest) (second.goes us rest h)).is } }

-- all of a block
whole : {os : List Occ} {f : Steps → Steps} → Goes os f → Looked os (steps_uses (f Done))
whole {os} {f} inside_it = record { is = sym (ap looked_up (append-nil os)) ∙ (inside_it.goes [] Done none).is }

inner : {os : List Occ} {f : Steps → Steps} (o c : ℕ) → Goes os f → Goes os (λ rest. Inner o c (f Done) rest)
inner {os} {f} o c inside_it = record { goes = λ us rest h. both (whole inside_it) h }

simple_goes : (s : SimpleTree) → Goes (simple_occs s) (λ rest. simple_steps s rest)
simple_goes (Alone t) = check (Act (Alone t)) (simple_looked (Alone t))
simple_goes (Step t op span) = check (Act (Step t op span)) (simple_looked (Step t op span))
simple_goes (Assign ts span es) = check (Act (Assign ts span es)) (simple_looked (Assign ts span es))
simple_goes (Update t op span e) = check (Act (Update t op span e)) (simple_looked (Update t op span e))
simple_goes (Define xs span es) = declare OneNew (end_of (spell_simple (Define xs span es))) (Act (Define xs span es)) (idents xs) (simple_looked (Define xs span es))

spec_goes : (k : ValueKind) (v : ValueSpecTree) → Goes (value_spec_occs v) (λ rest. spec_steps k v rest)
spec_goes k v = declare EachFirst (end_of (spell_value_spec v)) (Spec k v) (idents v.names) (value_spec_looked v)

group_goes : (k : ValueKind) (vs : List (ValueSpecTree × Option Span)) → Goes (group_occs value_spec_occs vs) (λ rest. group_steps k vs rest)
group_goes k [] = nothing
group_goes k (v ∷ vs) = one_then (spec_goes k v.0) (group_goes k vs)

specs_goes : (k : ValueKind) (s : Specs ValueSpecTree) → Goes (specs_occs value_spec_occs s) (λ rest. specs_steps k s rest)
specs_goes k (Single v) = spec_goes k v
specs_goes k (Group first vs last) = group_goes k vs

some_simple_goes : (s : Option SimpleTree) → Goes (some_simple_occs s) (λ rest. some_simple_steps s rest)
some_simple_goes None = nothing
some_simple_goes (Some s) = simple_goes s

init_goes : (i : Option (Option SimpleTree × Span)) → Goes (init_occs i) (λ rest. init_steps i rest)
init_goes None = nothing
init_goes (Some i) = some_simple_goes i.0

condition_goes : (t : ExprTree) → Goes (expr_occs context.«Value» t) (λ rest. Check (Condition t) rest)
condition_goes t = check (Condition t) (value t)

some_condition_goes : (t : Option ExprTree) → Goes (some_expr_occs t) (λ rest. some_condition_steps t rest)
some_condition_goes None = nothing
some_condition_goes (Some t) = condition_goes t

if_goes : (h : IfTree) → Goes (if_occs h) (λ rest. if_steps h rest)
if_goes h = one_then (init_goes h.init) (condition_goes h.condition)

for_goes : (h : ForTree) → Goes (for_occs h) (λ rest. for_steps h rest)
for_goes Forever = nothing
for_goes (While t) = condition_goes t
for_goes (Clauses init a test b post) = one_then (some_simple_goes init) (one_then (some_condition_goes test) (some_simple_goes post))

mutual
  stmt_goes : (s : StmtTree) → Goes (stmt_occs s) (λ rest. stmt_steps s rest)
  stmt_goes Empty = nothing
  stmt_goes (tree.Declare v) = specs_goes v.kind v.specs
  stmt_goes (Simple s) = simple_goes s
  stmt_goes (Return s es) = check (Given s es) (some_exprs_looked es)
  stmt_goes (Break s) = nothing
  stmt_goes (Continue s) = nothing
  stmt_goes (Block first ls last) = inner first.start last.start (lines_go ls)
  stmt_goes (If b) = branch_goes b
  stmt_goes (For k head first ls last) = inner k.start last.end (one_then (for_goes head) (inner first.start last.start (lines_go ls)))

  branch_goes : (b : BranchTree) → Goes (branch_occs b) (λ rest. branch_steps b rest)
  branch_goes (Branch k head first ls last otherwise) = inner k.start (end_of (spell_branch (Branch k head first ls last otherwise))) (one_then (if_goes head) (one_then (inner first.start last.start (lines_go ls)) (else_goes otherwise)))

  else_goes : (e : ElseTree) → Goes (else_occs e) (λ rest. else_steps e rest)
  else_goes NoElse = nothing
  else_goes (ElseBlock k first ls last) = inner first.start last.start (lines_go ls)
  else_goes (ElseIf k b) = branch_goes b

  lines_go : (ls : Lines) → Goes (lines_occs ls) (λ rest. lines_steps ls rest)
  lines_go NoLines = nothing
  lines_go (Line s semicolon more) = one_then (stmt_goes s) (lines_go more)

pub uses_are_occurrences : PieceNamesAreOccurrences
uses_are_occurrences f =
    ap looked_up (sym (append_assoc (receiver_occs f.receiver) (signature_occs f.signature) (lines_occs f.body)))
    ∙ (both (both (receiver_looked f.receiver) (signature_looked f.signature)) (whole (lines_go f.body))).is
