-- What the occurrences of a tree tell of the names, the calls and the imports that it writes.
use Rattle.std.proofs.Common.{◌≡◌, Bool, true, false, List, [], ◌∷◌, ◌++◌, Option, Some, None, refl, sym, ap, ◌∙◌, subst, append-nil, if◌then◌else◌}
use Rattle.std.specs.List.{cons_option}
use Rattle.std.proofs.lemmas.List.Elements.{filter_map-append}
use Rattle.go_tree_nodes.specs.text_core.declared.span.Span.{Span}
use Rattle.go_tree_nodes.specs.text_core.Text.{is_blank}
use Rattle.go_tree_nodes.specs.token_core.declared.kind.Operator.{Operator}
use Rattle.go_tree_nodes.specs.token_core.declared.kind.Operator.TheVariants as operator
use Rattle.go_tree_nodes.specs.declared.names.Ident.{Ident}
use Rattle.go_tree_nodes.specs.declared.names.TextLiteral.{TextLiteral}
use Rattle.go_tree_nodes.specs.declared.types.TypeName.{TypeName}
use Rattle.go_tree_nodes.specs.declared.types.TypeName.TheVariants as type_name
use Rattle.go_tree_nodes.specs.declared.exprs.Key.{Key}
use Rattle.go_tree_nodes.specs.declared.files.ImportName.{ImportName}
use Rattle.go_tree_nodes.specs.declared.files.ImportName.TheVariants as import_name
use Rattle.go_tree_nodes.specs.declared.files.Receiver.{Receiver}
use Rattle.go_tree_nodes.specs.Terminals.{Terminal, Spelled}
use Rattle.go_tree_nodes.specs.Trees.{Separated, One, Then, TypeTree, FieldTrees, MethodTrees, SignatureTree, ResultTree, ParamTrees, NamedType, Pointer, ParenType, Struct, Interface, NoFields, NamedFields, EmbeddedField, NoMethods, Method, Signed, NoResult, OneResult, Results, NoParams, Param, ExprTree, ItemTrees, Integer, Text, Named, Paren, Unary, Binary, Select, Call, Literal, StructLiteral, NoItems, Item, ValueSpecTree, Specs, Single, Group, ValueTree, TypeSpecTree, TypeDeclTree, SimpleTree, Alone, Step, Assign, Update, Define, IfTree, ForTree, Forever, While, Clauses, StmtTree, BranchTree, ElseTree, Lines, Empty, Declare, Simple, Return, Break, Continue, Block, If, For, Branch, NoElse, ElseBlock, ElseIf, NoLines, Line, FuncTree, DeclTree, Value, Types, Func, TopTree, ImportTree, FileTree}
use Rattle.go_tree_nodes.specs.Spelling.{mark, spell_some, spell_tag, spell_names, spell_text, spell_import_name, spell_receiver_name, spell_idents, spell_ident, spell_type_name, spell_type, spell_fields, spell_methods, spell_signature, spell_result, spell_params, spell_key, spell, spell_items, spell_exprs, spell_some_type, spell_values, spell_value_spec, spell_specs_of, spell_specs, spell_value, spell_type_spec, spell_types, spell_simple, spell_some_simple, spell_some_expr, spell_init, spell_if, spell_for, spell_some_exprs, spell_stmt, spell_branch, spell_else, spell_lines, spell_receiver, spell_func, spell_decl, spell_tops, spell_import, spell_imports, spell_file}
use Rattle.go_tree_core.specs.declared.occurrence.Role.{Role}
use Rattle.go_tree_core.specs.declared.occurrence.Role.TheVariants as role
use Rattle.go_tree_core.specs.declared.occurrence.Context.{Context}
use Rattle.go_tree_core.specs.declared.occurrence.Context.TheVariants as context
use Rattle.go_tree_core.specs.declared.occurrence.Occ.{Occ}
use Rattle.go_tree_core.specs.Occurrences.{is_identifier, occ_at, call_at, pointed_context, occurrence, type_name_occs, type_occs, fields_occs, methods_occs, signature_occs, result_occs, params_occs, named_occs, inside_context, under, key_occs, expr_occs, items_occs, exprs_occs, some_expr_occs, some_exprs_occs, some_type_occs, values_occs, value_spec_occs, group_occs, specs_occs, value_occs, type_spec_occs, type_decl_occs, simple_occs, some_simple_occs, init_occs, if_occs, for_occs, stmt_occs, branch_occs, else_occs, lines_occs, receiver_occs, func_occs, decl_occs, tops_occs, import_occs, imports_occs, file_occs}
use Rattle.go_tree_core.specs.Names.{take_some, take_each, take_group, take_specs, take_values, take_value_spec, take_value, take_type_spec, take_types, take_simple, take_init, take_if, take_for, take_stmt, take_branch, take_else, take_lines, take_receiver, take_func, take_decl, take_tops, take_import_name, take_imports, one_name, type_names, field_names, method_names, signature_names, result_names, param_names, expr_names, item_names, taking_names, blank_target, nothing, taking_blanks, expr_calls, item_calls, taking_calls, import_strings, declared_names, blank_targets, file_calls}
use Rattle.go_tree_core.specs.Laws.{written_names, used_name, used_names, call_of, used_calls, string_of, used_imports, Interleave, Done, First, Second, Third, IsKindOf, AreWritten, NoneLeft, Passed, Written, NamesAreUsedOrDeclared, CallsAreOccurrences, ImportsAreOccurrences, OccurrencesAreWritten}
use Rattle.go_tree_core.specs.Laws.{terminal_name}

interleave_both : {A : Type 0} {xs ys zs all us vs ws more : List A} → Interleave xs ys zs all → Interleave us vs ws more → Interleave (xs ++ us) (ys ++ vs) (zs ++ ws) (all ++ more)
interleave_both Done g = g
interleave_both (First h) g = First (interleave_both h g)
interleave_both (Second h) g = Second (interleave_both h g)
interleave_both (Third h) g = Third (interleave_both h g)

none_written : (ts : List Terminal) → AreWritten [] ts
none_written [] = NoneLeft
none_written (t ∷ ts) = Passed (none_written ts)

written_both : {os ps : List Occ} {ts us : List Terminal} → AreWritten os ts → AreWritten ps us → AreWritten (os ++ ps) (ts ++ us)
written_both NoneLeft g = g
written_both (Passed h) g = Passed (written_both h g)
written_both (Written w h) g = Written w (written_both h g)

written_first : {os : List Occ} {ts : List Terminal} (us : List Terminal) → AreWritten os ts → AreWritten os (ts ++ us)
written_first us NoneLeft = none_written us
written_first us (Passed h) = Passed (written_first us h)
written_first us (Written w h) = Written w (written_first us h)

written_second : {os : List Occ} (ts : List Terminal) {us : List Terminal} → AreWritten os us → AreWritten os (ts ++ us)
written_second [] h = h
written_second (t ∷ ts) h = Passed (written_second ts h)

-- terminals with no name among them
abbrev Quiet : List Terminal → Type 0
Quiet ts = written_names ts ≡ []

names_both : (ts us : List Terminal) → written_names (ts ++ us) ≡ written_names ts ++ written_names us
names_both ts us = filter_map-append (λ t. terminal_name t.kind t.span) ts us

-- what the occurrences among some terminals tell: with the names that are declared and the blank targets they are the names, these are
-- the calls and the imports, and all are written
record Tells (ts : List Terminal) (os : List Occ) (ds bs : List Ident) (cs : List Span) (is : List TextLiteral) : Type 0 where
  names : Interleave (used_names os) ds bs (written_names ts)
  calls : used_calls os ≡ cs
  imports : used_imports os ≡ is
  written : AreWritten os ts

tells_none : {ts : List Terminal} → Quiet ts → Tells ts [] [] [] [] []
tells_none {ts} quiet = record { names = subst (λ w. Interleave [] [] [] w) (sym quiet) Done; calls = refl; imports = refl; written = none_written ts }

tells_skip : {t : Terminal} {ts : List Terminal} {os : List Occ} {ds bs : List Ident} {cs : List Span} {is : List TextLiteral} → terminal_name t.kind t.span ≡ None → Tells ts os ds bs cs is → Tells (t ∷ ts) os ds bs cs is
tells_skip {t} {ts} {os} {ds} {bs} none m = record { names = subst (λ n. Interleave (used_names os) ds bs (cons_option n (written_names ts))) (sym none) m.names; calls = m.calls; imports = m.imports; written = Passed m.written }

-- roles of identifiers
record Identifies (r : Role) : Type 0 where
  identifier : is_identifier r ≡ true
  no_call : (s : Span) → call_of r s ≡ None
  no_import : (n : _) (s : Span) → string_of r n s ≡ None
  kind : (n : _) → IsKindOf r n (Spelled n)

identifies : (r : Role) → is_identifier r ≡ true → Identifies r
identifies role.Import h = cc
identifies role.«Type» h = record { identifier = h; no_call = λ s. refl; no_import = λ n s. refl; kind = λ n. refl }
identifies role.«Value» h = record { identifier = h; no_call = λ s. refl; no_import = λ n s. refl; kind = λ n. refl }
identifies role.Callee h = record { identifier = h; no_call = λ s. refl; no_import = λ n s. refl; kind = λ n. refl }
identifies role.Qualifier h = record { identifier = h; no_call = λ s. refl; no_import = λ n s. refl; kind = λ n. refl }
identifies (role.Selector u) h = record { identifier = h; no_call = λ s. refl; no_import = λ n s. refl; kind = λ n. refl }
identifies role.Key h = record { identifier = h; no_call = λ s. refl; no_import = λ n s. refl; kind = λ n. refl }
identifies role.Call h = cc

tells_used : {r : Role} {x : Ident} {ts : List Terminal} {os : List Occ} {ds bs : List Ident} {cs : List Span} {is : List TextLiteral} → is_identifier r ≡ true → Tells ts os ds bs cs is → Tells (spell_ident x ∷ ts) (occurrence r x ∷ os) ds bs cs is
tells_used {r} {x} {ts} {os} {ds} {bs} h m =
    let i = identifies r h in
    record {
      names = subst (λ b. Interleave (cons_option (if b then Some x else None) (used_names os)) ds bs (x ∷ written_names ts)) (sym i.identifier) (First m.names);
      calls = ap (λ c. cons_option c (used_calls os)) (i.no_call x.span) ∙ m.calls;
      imports = ap (λ c. cons_option c (used_imports os)) (i.no_import x.name x.span) ∙ m.imports;
      written = Written (refl, i.kind x.name) m.written;
    }

tells_declared : {x : Ident} {ts : List Terminal} {os : List Occ} {ds bs : List Ident} {cs : List Span} {is : List TextLiteral} → Tells ts os ds bs cs is → Tells (spell_ident x ∷ ts) os (x ∷ ds) bs cs is
tells_declared m = record { names = Second m.names; calls = m.calls; imports = m.imports; written = Passed m.written }

tells_blank : {x : Ident} {ts : List Terminal} {os : List Occ} {ds bs : List Ident} {cs : List Span} {is : List TextLiteral} → Tells ts os ds bs cs is → Tells (spell_ident x ∷ ts) os ds (x ∷ bs) cs is
tells_blank m = record { names = Third m.names; calls = m.calls; imports = m.imports; written = Passed m.written }

tells_call : {s : Span} {ts : List Terminal} {os : List Occ} {ds bs : List Ident} {cs : List Span} {is : List TextLiteral} → Tells ts os ds bs cs is → Tells (mark operator.OpenParen s ∷ ts) (call_at s ∷ os) ds bs (s ∷ cs) is
tells_call {s} m = record { names = m.names; calls = ap (λ l. s ∷ l) m.calls; imports = m.imports; written = Written (refl, (refl, refl)) m.written }

tells_both : {ts us : List Terminal} {os ps : List Occ} {ds es bs ns : List Ident} {cs fs : List Span} {is js : List TextLiteral} → Tells ts os ds bs cs is → Tells us ps es ns fs js → Tells (ts ++ us) (os ++ ps) (ds ++ es) (bs ++ ns) (cs ++ fs) (is ++ js)
tells_both {ts} {us} {os} {ps} {ds} {es} {bs} {ns} {cs} {fs} {is} {js} m n = record {
  names =
      subst (λ l. Interleave l (ds ++ es) (bs ++ ns) (written_names (ts ++ us))) (sym (filter_map-append used_name os ps))
      (subst (λ l. Interleave (used_names os ++ used_names ps) (ds ++ es) (bs ++ ns) l) (sym (names_both ts us)) (interleave_both m.names n.names));
  calls = filter_map-append (λ o. call_of o.role o.span) os ps ∙ ap (λ l. l ++ used_calls ps) m.calls ∙ ap (λ l. cs ++ l) n.calls;
  imports = filter_map-append (λ o. string_of o.role o.spelling o.span) os ps ∙ ap (λ l. l ++ used_imports ps) m.imports ∙ ap (λ l. is ++ l) n.imports;
  written = written_both m.written n.written;
}

-- behind it, terminals with no name
tells_first : {ts : List Terminal} (us : List Terminal) {os : List Occ} {ds bs : List Ident} {cs : List Span} {is : List TextLiteral} → Quiet us → Tells ts os ds bs cs is → Tells (ts ++ us) os ds bs cs is
tells_first {ts} us {os} {ds} {bs} quiet m = record {
  names = subst (λ l. Interleave (used_names os) ds bs l) (sym (names_both ts us ∙ ap (λ l. written_names ts ++ l) quiet ∙ append-nil (written_names ts))) m.names;
  calls = m.calls;
  imports = m.imports;
  written = written_first us m.written;
}

-- before it, terminals with no name
tells_second : (ts : List Terminal) {us : List Terminal} {os : List Occ} {ds bs : List Ident} {cs : List Span} {is : List TextLiteral} → Quiet ts → Tells us os ds bs cs is → Tells (ts ++ us) os ds bs cs is
tells_second ts {us} {os} {ds} {bs} quiet m = record {
  names = subst (λ l. Interleave (used_names os) ds bs l) (sym (names_both ts us ∙ ap (λ l. l ++ written_names us) quiet)) m.names;
  calls = m.calls;
  imports = m.imports;
  written = written_second ts m.written;
}

-- behind it, occurrences that are names
tells_behind : {ts us : List Terminal} {os ps : List Occ} {ds bs : List Ident} {cs : List Span} {is : List TextLiteral} → Tells ts os ds bs cs is → Tells us ps [] [] [] [] → Tells (ts ++ us) (os ++ ps) ds bs cs is
tells_behind {ts} {us} {os} {ps} {ds} {bs} {cs} {is} m n =
    let b = tells_both m n in
    record {
      names =
          subst (λ l. Interleave (used_names (os ++ ps)) l bs (written_names (ts ++ us))) (append-nil ds)
          (subst (λ l. Interleave (used_names (os ++ ps)) (ds ++ []) l (written_names (ts ++ us))) (append-nil bs) b.names);
      calls = b.calls ∙ append-nil cs;
      imports = b.imports ∙ append-nil is;
      written = b.written;
    }

-- pieces with no name

some_quiet : (o : Operator) (s : Option Span) → Quiet (spell_some o s)
some_quiet o None = refl
some_quiet o (Some s) = refl

close_quiet : (o : Operator) (s : Option Span) (p : Operator) (last : Span) → Quiet (spell_some o s ++ mark p last ∷ [])
close_quiet o None p last = refl
close_quiet o (Some s) p last = refl

tag_quiet : (t : Option TextLiteral) → Quiet (spell_tag t)
tag_quiet None = refl
tag_quiet (Some t) = refl

-- names that are declared

idents_tell : (xs : Separated Ident) → Tells (spell_idents xs) [] (take_each one_name xs) [] [] []
idents_tell (One x) = tells_declared (tells_none refl)
idents_tell (Then x comma more) = tells_declared (tells_skip refl (idents_tell more))

declared_tell : (xs : Separated Ident) → Tells (spell_idents xs) [] (take_each one_name xs) (take_each nothing xs) (take_each nothing xs) []
declared_tell (One x) = tells_declared (tells_none refl)
declared_tell (Then x comma more) = tells_declared (tells_skip refl (declared_tell more))

some_idents_tell : (xs : Option (Separated Ident)) → Tells (spell_names xs) [] (take_some (take_each one_name) xs) [] [] []
some_idents_tell None = tells_none refl
some_idents_tell (Some xs) = idents_tell xs

-- types

type_name_tells : (n : TypeName) → Tells (spell_type_name n) (type_name_occs n) [] [] [] []
type_name_tells (type_name.Plain x) = tells_used refl (tells_none refl)
type_name_tells (type_name.Qualified p dot x) = tells_used refl (tells_skip refl (tells_used refl (tells_none refl)))

mutual
  type_tells : (t : TypeTree) → Tells (spell_type t) (type_occs t) (type_names t) [] [] []
  type_tells (NamedType n) = type_name_tells n
  type_tells (Pointer star t) = tells_skip refl (type_tells t)
  type_tells (ParenType first t last) = tells_skip refl (tells_first _ refl (type_tells t))
  type_tells (Struct k first ls last) = tells_skip refl (tells_skip refl (tells_first _ refl (fields_tell ls)))
  type_tells (Interface k first ms last) = tells_skip refl (tells_skip refl (tells_first _ refl (methods_tell ms)))

  fields_tell : (ls : FieldTrees) → Tells (spell_fields ls) (fields_occs ls) (field_names ls) [] [] []
  fields_tell NoFields = tells_none refl
  fields_tell (NamedFields xs t tag s rest) = tells_both (idents_tell xs) (tells_both (type_tells t) (tells_second _ (tag_quiet tag) (tells_second _ (some_quiet operator.Semicolon s) (fields_tell rest))))
  fields_tell (EmbeddedField star n tag s rest) = tells_second _ (some_quiet operator.Star star) (tells_both (type_name_tells n) (tells_second _ (tag_quiet tag) (tells_second _ (some_quiet operator.Semicolon s) (fields_tell rest))))

  methods_tell : (ms : MethodTrees) → Tells (spell_methods ms) (methods_occs ms) (method_names ms) [] [] []
  methods_tell NoMethods = tells_none refl
  methods_tell (Method x signature s rest) = tells_declared (tells_both (signature_tells signature) (tells_second _ (some_quiet operator.Semicolon s) (methods_tell rest)))

  signature_tells : (s : SignatureTree) → Tells (spell_signature s) (signature_occs s) (signature_names s) [] [] []
  signature_tells (Signed first params last result) = tells_skip refl (tells_both (params_tell params) (tells_skip refl (result_tells result)))

  result_tells : (r : ResultTree) → Tells (spell_result r) (result_occs r) (result_names r) [] [] []
  result_tells NoResult = tells_none refl
  result_tells (OneResult t) = type_tells t
  result_tells (Results first params last) = tells_skip refl (tells_first _ refl (params_tell params))

  params_tell : (ps : ParamTrees) → Tells (spell_params ps) (params_occs ps) (param_names ps) [] [] []
  params_tell NoParams = tells_none refl
  params_tell (Param xs t comma rest) = tells_both (some_idents_tell xs) (tells_both (type_tells t) (tells_second _ (some_quiet operator.Comma comma) (params_tell rest)))

-- expressions

abbrev pub is_target : Context → Bool
is_target context.Target = true
is_target _ = false

pub inside_not : (p : Context) → is_target p ≡ false → is_target (inside_context p) ≡ false
inside_not context.«Type» h = refl
inside_not context.«Value» h = refl
inside_not context.Callee h = refl
inside_not context.BeforeDot h = refl
inside_not context.Target h = h

pointed_not : (p : Context) → is_target (pointed_context p) ≡ false
pointed_not context.«Type» = refl
pointed_not context.«Value» = refl
pointed_not context.Callee = refl
pointed_not context.BeforeDot = refl
pointed_not context.Target = refl

pub under_not : (op : Operator) (p : Context) → is_target (under op p) ≡ false
under_not operator.Star p = pointed_not p
under_not _ p = refl

key_tells : (k : Option Key) → Tells (spell_key k) (key_occs k) [] [] [] []
key_tells None = tells_none refl
key_tells (Some k) = tells_used refl (tells_skip refl (tells_none refl))

named_tells : (p : Context) → is_target p ≡ false → (x : Ident) → Tells (spell (Named x)) (named_occs p x) [] [] [] []
named_tells context.«Type» h x = tells_used refl (tells_none refl)
named_tells context.«Value» h x = tells_used refl (tells_none refl)
named_tells context.Callee h x = tells_used refl (tells_none refl)
named_tells context.BeforeDot h x = tells_used refl (tells_none refl)
named_tells context.Target h x = cc

mutual
  expr_tells : (p : Context) → is_target p ≡ false → (t : ExprTree) → Tells (spell t) (expr_occs p t) (expr_names t) [] (expr_calls t) []
  expr_tells p h (Integer n span) = tells_none refl
  expr_tells p h (Text t) = tells_none refl
  expr_tells p h (Named x) = named_tells p h x
  expr_tells p h (Paren first t last) = tells_skip refl (tells_first _ refl (expr_tells (inside_context p) (inside_not p h) t))
  expr_tells p h (Unary op span t) = tells_skip refl (expr_tells (under op p) (under_not op p) t)
  expr_tells p h (Binary a op span b) = tells_both (expr_tells context.«Value» refl a) (tells_skip refl (expr_tells context.«Value» refl b))
  expr_tells p h (Select t dot x) = tells_behind (expr_tells context.BeforeDot refl t) (tells_skip refl (tells_used refl (tells_none refl)))
  expr_tells p h (Call t first items last) = tells_both (expr_tells context.Callee refl t) (tells_call (tells_first _ refl (items_tell items)))
  expr_tells p h (Literal n first items last) = tells_both (type_name_tells n) (tells_skip refl (tells_first _ refl (items_tell items)))
  expr_tells p h (StructLiteral t first items last) = tells_both (type_tells t) (tells_skip refl (tells_first _ refl (items_tell items)))

  items_tell : (is : ItemTrees) → Tells (spell_items is) (items_occs is) (item_names is) [] (item_calls is) []
  items_tell NoItems = tells_none refl
  items_tell (Item key t comma rest) = tells_both (key_tells key) (tells_both (expr_tells context.«Value» refl t) (tells_second _ (some_quiet operator.Comma comma) (items_tell rest)))

value_tells : (t : ExprTree) → Tells (spell t) (expr_occs context.«Value» t) (expr_names t) [] (expr_calls t) []
value_tells t = expr_tells context.«Value» refl t

unless_blank : (x : Ident) (b : Bool) → Tells (spell (Named x)) (if b then [] else occurrence role.«Value» x ∷ []) [] (if b then x ∷ [] else []) [] []
unless_blank x true = tells_blank (tells_none refl)
unless_blank x false = tells_used refl (tells_none refl)

target_tells : (t : ExprTree) → Tells (spell t) (expr_occs context.Target t) (expr_names t) (blank_target t) (expr_calls t) []
target_tells (Integer n span) = value_tells (Integer n span)
target_tells (Text t) = value_tells (Text t)
target_tells (Named x) = unless_blank x (is_blank x.name)
target_tells (Paren first t last) = tells_skip refl (tells_first _ refl (target_tells t))
target_tells (Unary op span t) = tells_skip refl (expr_tells (under op context.Target) (under_not op context.Target) t)
target_tells (Binary a op span b) = value_tells (Binary a op span b)
target_tells (Select t dot x) = value_tells (Select t dot x)
target_tells (Call t first items last) = value_tells (Call t first items last)
target_tells (Literal n first items last) = value_tells (Literal n first items last)
target_tells (StructLiteral t first items last) = value_tells (StructLiteral t first items last)

exprs_tell : (es : Separated ExprTree) → Tells (spell_exprs es) (exprs_occs context.«Value» es) (take_each expr_names es) (take_each nothing es) (take_each expr_calls es) []
exprs_tell (One t) = value_tells t
exprs_tell (Then t comma more) = tells_both (value_tells t) (tells_skip refl (exprs_tell more))

targets_tell : (es : Separated ExprTree) → Tells (spell_exprs es) (exprs_occs context.Target es) (take_each expr_names es) (take_each blank_target es) (take_each expr_calls es) []
targets_tell (One t) = target_tells t
targets_tell (Then t comma more) = tells_both (target_tells t) (tells_skip refl (targets_tell more))

some_expr_tells : (t : Option ExprTree) → Tells (spell_some_expr t) (some_expr_occs t) (take_some expr_names t) (take_some nothing t) (take_some expr_calls t) []
some_expr_tells None = tells_none refl
some_expr_tells (Some t) = value_tells t

some_exprs_tell : (es : Option (Separated ExprTree)) → Tells (spell_some_exprs es) (some_exprs_occs es) (take_some (take_each expr_names) es) (take_some (take_each nothing) es) (take_some (take_each expr_calls) es) []
some_exprs_tell None = tells_none refl
some_exprs_tell (Some es) = exprs_tell es

-- declarations

some_type_tells : (t : Option TypeTree) → Tells (spell_some_type t) (some_type_occs t) (take_some type_names t) (take_some nothing t) (take_some nothing t) []
some_type_tells None = tells_none refl
some_type_tells (Some t) = type_tells t

values_tell : (v : Option (Span × Separated ExprTree)) → Tells (spell_values v) (values_occs v) (take_values taking_names v) (take_values taking_blanks v) (take_values taking_calls v) []
values_tell None = tells_none refl
values_tell (Some v) = tells_skip refl (exprs_tell v.1)

value_spec_tells : (v : ValueSpecTree) → Tells (spell_value_spec v) (value_spec_occs v) (take_value_spec taking_names v) (take_value_spec taking_blanks v) (take_value_spec taking_calls v) []
value_spec_tells v = tells_both (declared_tell v.names) (tells_both (some_type_tells v.type_expr) (values_tell v.values))

module _ {A : Type 0} (f : A → List Terminal) (g : A → List Occ) (d b : A → List Ident) (c : A → List Span) (i : A → List TextLiteral) (each : (x : A) → Tells (f x) (g x) (d x) (b x) (c x) (i x)) where
  group_tells : (xs : List (A × Option Span)) → Tells (spell_specs_of f xs) (group_occs g xs) (take_group d xs) (take_group b xs) (take_group c xs) (take_group i xs)
  group_tells [] = tells_none refl
  group_tells (x ∷ xs) = tells_both (each x.0) (tells_second _ (some_quiet operator.Semicolon x.1) (group_tells xs))

  specs_tell : (s : Specs A) → Tells (spell_specs f s) (specs_occs g s) (take_specs d s) (take_specs b s) (take_specs c s) (take_specs i s)
  specs_tell (Single x) = each x
  specs_tell (Group first xs last) = tells_skip refl (tells_first _ refl (group_tells xs))

group_nothing : {A B : Type 0} (xs : List (B × Option Span)) → take_group {A = A} {B = B} nothing xs ≡ []
group_nothing [] = refl
group_nothing (x ∷ xs) = group_nothing xs

specs_nothing : {A B : Type 0} (s : Specs B) → take_specs {A = A} {B = B} nothing s ≡ []
specs_nothing (Single x) = refl
specs_nothing (Group first xs last) = group_nothing xs

-- specifications without imports
plain_tell : {A : Type 0} (s : Specs A) {ts : List Terminal} {os : List Occ} {ds bs : List Ident} {cs : List Span} → Tells ts os ds bs cs (take_specs nothing s) → Tells ts os ds bs cs []
plain_tell s m = record { names = m.names; calls = m.calls; imports = m.imports ∙ specs_nothing s; written = m.written }

value_decl_tells : (v : ValueTree) → Tells (spell_value v) (value_occs v) (take_value taking_names v) (take_value taking_blanks v) (take_value taking_calls v) []
value_decl_tells v = tells_skip refl (plain_tell v.specs (specs_tell spell_value_spec value_spec_occs (take_value_spec taking_names) (take_value_spec taking_blanks) (take_value_spec taking_calls) nothing value_spec_tells v.specs))

type_spec_tells : (t : TypeSpecTree) → Tells (spell_type_spec t) (type_spec_occs t) (take_type_spec taking_names t) (take_type_spec taking_blanks t) (take_type_spec taking_calls t) []
type_spec_tells t = tells_declared (tells_second _ (some_quiet operator.Assign t.alias) (type_tells t.type_expr))

type_decl_tells : (t : TypeDeclTree) → Tells (spell_types t) (type_decl_occs t) (take_types taking_names t) (take_types taking_blanks t) (take_types taking_calls t) []
type_decl_tells t = tells_skip refl (plain_tell t.specs (specs_tell spell_type_spec type_spec_occs (take_type_spec taking_names) (take_type_spec taking_blanks) (take_type_spec taking_calls) nothing type_spec_tells t.specs))

-- statements

simple_tells : (s : SimpleTree) → Tells (spell_simple s) (simple_occs s) (take_simple taking_names s) (take_simple taking_blanks s) (take_simple taking_calls s) []
simple_tells (Alone t) = value_tells t
simple_tells (Step t op span) = tells_first _ refl (value_tells t)
simple_tells (Assign ts span es) = tells_both (targets_tell ts) (tells_skip refl (exprs_tell es))
simple_tells (Update t op span e) = tells_both (value_tells t) (tells_skip refl (value_tells e))
simple_tells (Define xs span es) = tells_both (declared_tell xs) (tells_skip refl (exprs_tell es))

some_simple_tells : (s : Option SimpleTree) → Tells (spell_some_simple s) (some_simple_occs s) (take_some (take_simple taking_names) s) (take_some (take_simple taking_blanks) s) (take_some (take_simple taking_calls) s) []
some_simple_tells None = tells_none refl
some_simple_tells (Some s) = simple_tells s

init_tells : (i : Option (Option SimpleTree × Span)) → Tells (spell_init i) (init_occs i) (take_init taking_names i) (take_init taking_blanks i) (take_init taking_calls i) []
init_tells None = tells_none refl
init_tells (Some i) = tells_first _ refl (some_simple_tells i.0)

if_tells : (h : IfTree) → Tells (spell_if h) (if_occs h) (take_if taking_names h) (take_if taking_blanks h) (take_if taking_calls h) []
if_tells h = tells_both (init_tells h.init) (value_tells h.condition)

for_tells : (h : ForTree) → Tells (spell_for h) (for_occs h) (take_for taking_names h) (take_for taking_blanks h) (take_for taking_calls h) []
for_tells Forever = tells_none refl
for_tells (While t) = value_tells t
for_tells (Clauses init a test b post) = tells_both (some_simple_tells init) (tells_skip refl (tells_both (some_expr_tells test) (tells_skip refl (some_simple_tells post))))

mutual
  stmt_tells : (s : StmtTree) → Tells (spell_stmt s) (stmt_occs s) (take_stmt taking_names s) (take_stmt taking_blanks s) (take_stmt taking_calls s) []
  stmt_tells Empty = tells_none refl
  stmt_tells (Declare v) = value_decl_tells v
  stmt_tells (Simple s) = simple_tells s
  stmt_tells (Return s es) = tells_skip refl (some_exprs_tell es)
  stmt_tells (Break s) = tells_none refl
  stmt_tells (Continue s) = tells_none refl
  stmt_tells (Block first ls last) = tells_skip refl (tells_first _ refl (lines_tell ls))
  stmt_tells (If b) = branch_tells b
  stmt_tells (For k head first ls last) = tells_skip refl (tells_both (for_tells head) (tells_skip refl (tells_first _ refl (lines_tell ls))))

  branch_tells : (b : BranchTree) → Tells (spell_branch b) (branch_occs b) (take_branch taking_names b) (take_branch taking_blanks b) (take_branch taking_calls b) []
  branch_tells (Branch k head first ls last otherwise) = tells_skip refl (tells_both (if_tells head) (tells_skip refl (tells_both (lines_tell ls) (tells_skip refl (else_tells otherwise)))))

  else_tells : (e : ElseTree) → Tells (spell_else e) (else_occs e) (take_else taking_names e) (take_else taking_blanks e) (take_else taking_calls e) []
  else_tells NoElse = tells_none refl
  else_tells (ElseBlock k first ls last) = tells_skip refl (tells_skip refl (tells_first _ refl (lines_tell ls)))
  else_tells (ElseIf k b) = tells_skip refl (branch_tells b)

  lines_tell : (ls : Lines) → Tells (spell_lines ls) (lines_occs ls) (take_lines taking_names ls) (take_lines taking_blanks ls) (take_lines taking_calls ls) []
  lines_tell NoLines = tells_none refl
  lines_tell (Line c s rest) = tells_both (stmt_tells c) (tells_second _ (some_quiet operator.Semicolon s) (lines_tell rest))

-- functions, imports and files

receiver_name_tells : (x : Option Ident) → Tells (spell_receiver_name x) [] (take_some one_name x) (take_some nothing x) (take_some nothing x) []
receiver_name_tells None = tells_none refl
receiver_name_tells (Some x) = tells_declared (tells_none refl)

receiver_tells : (r : Option Receiver) → Tells (spell_receiver r) (receiver_occs r) (take_receiver taking_names r) (take_receiver taking_blanks r) (take_receiver taking_calls r) []
receiver_tells None = tells_none refl
receiver_tells (Some r) = tells_skip refl (tells_behind (receiver_name_tells r.name) (tells_second _ (some_quiet operator.Star r.star) (tells_first _ (close_quiet operator.Comma r.comma operator.CloseParen r.close_paren) (type_name_tells r.base))))

func_tells : (f : FuncTree) → Tells (spell_func f) (func_occs f) (take_func taking_names f) (take_func taking_blanks f) (take_func taking_calls f) []
func_tells f = tells_skip refl (tells_both (receiver_tells f.receiver) (tells_declared (tells_both (signature_tells f.signature) (tells_skip refl (tells_first _ refl (lines_tell f.body))))))

decl_tells : (d : DeclTree) → Tells (spell_decl d) (decl_occs d) (take_decl taking_names d) (take_decl taking_blanks d) (take_decl taking_calls d) []
decl_tells (Value v) = value_decl_tells v
decl_tells (Types t) = type_decl_tells t
decl_tells (Func f) = func_tells f

tops_tell : (ds : List TopTree) → Tells (spell_tops ds) (tops_occs ds) (take_tops taking_names ds) (take_tops taking_blanks ds) (take_tops taking_calls ds) []
tops_tell [] = tells_none refl
tops_tell (d ∷ ds) = tells_both (decl_tells d.decl) (tells_skip refl (tops_tell ds))

path_tells : (p : TextLiteral) → Tells (spell_text p ∷ []) (occ_at role.Import p.spelled p.span ∷ []) [] [] [] (p ∷ [])
path_tells p = record { names = Done; calls = refl; imports = refl; written = Written (refl, refl) NoneLeft }

named_import_tells : (n : ImportName) (p : TextLiteral) → Tells (spell_import_name n ++ spell_text p ∷ []) (occ_at role.Import p.spelled p.span ∷ []) (take_import_name taking_names n) (take_import_name taking_blanks n) (take_import_name taking_calls n) (p ∷ [])
named_import_tells import_name.Own p = path_tells p
named_import_tells (import_name.Named x) p = tells_declared (path_tells p)
named_import_tells (import_name.Dot s) p = tells_skip refl (path_tells p)

imports_tell : (is : List ImportTree) → Tells (spell_imports is) (imports_occs is) (take_imports taking_names is) (take_imports taking_blanks is) (take_imports taking_calls is) (import_strings is)
imports_tell [] = tells_none refl
imports_tell (i ∷ is) =
    tells_both (tells_skip refl (specs_tell spell_import import_occs (λ s. take_import_name taking_names s.name) (λ s. take_import_name taking_blanks s.name) (λ s. take_import_name taking_calls s.name) (λ s. s.path ∷ []) (λ s. named_import_tells s.name s.path) i.specs)) (tells_skip refl (imports_tell is))

file_tells : (f : FileTree) → Tells (spell_file f) (file_occs f) (declared_names f) (blank_targets f) (file_calls f) (import_strings f.imports ++ [])
file_tells f = tells_skip refl (tells_declared (tells_skip refl (tells_both (imports_tell f.imports) (tops_tell f.decls))))

pub names_are_used_or_declared : NamesAreUsedOrDeclared
names_are_used_or_declared f = (file_tells f).names

pub calls_are_occurrences : CallsAreOccurrences
calls_are_occurrences f = (file_tells f).calls

pub imports_are_occurrences : ImportsAreOccurrences
imports_are_occurrences f = (file_tells f).imports ∙ append-nil (import_strings f.imports)

pub occurrences_are_written : OccurrencesAreWritten
occurrences_are_written f = (file_tells f).written
