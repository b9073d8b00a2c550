-- Which identifiers the declarations of a file are of, where identifiers that are used have other spellings.
use Rattle.std.proofs.Common.{◌≡◌, ℕ, suc, ◌+◌, List, [], ◌∷◌, ◌++◌, length, map, Option, Some, None, refl, sym, ap, ◌∙◌}
use Rattle.std.specs.List.{flat_map}
use Rattle.std.proofs.lemmas.List.{length-append, map-append}
use Rattle.go_site_core.specs.text_core.declared.span.Span.{Span}
use Rattle.go_tree_nodes.specs.declared.names.Ident.{Ident}
use Rattle.go_tree_nodes.specs.declared.decls.ValueKind.{ValueKind}
use Rattle.go_tree_nodes.specs.declared.files.Receiver.{Receiver}
use Rattle.go_tree_nodes.specs.Trees.{Separated, One, Then, TypeTree, FieldTrees, MethodTrees, SignatureTree, ResultTree, ParamTrees, NamedType, Pointer, ParenType, Struct, Interface, NoFields, NamedFields, EmbeddedField, NoMethods, Method, Signed, NoResult, OneResult, Results, NoParams, Param, ExprTree, ItemTrees, Integer, Text, Named, Paren, Unary, Binary, Select, Call, Literal, StructLiteral, NoItems, Item, ValueSpecTree, TypeSpecTree, Specs, Single, Group, DeclTree, Value, Types, Func, TopTree, of_specs}
use Rattle.go_term_core.specs.decl_core.declared.places.DeclKind.{DeclKind}
use Rattle.go_term_core.specs.decl_core.declared.places.DeclKind.TheVariants as kinds
use Rattle.go_term_core.specs.decl_core.Outer.{Outer, Manner, Whole, Part, outer, kind_of_func, idents_outers, names_outers, type_outers, fields_outers, methods_outers, signature_outers, result_outers, params_outers, expr_outers, items_outers, exprs_outers, some_type_outers, values_outers, kind_of_value, rest_outers, value_spec_outers, type_spec_outers, receiver_name_outers, receiver_outers, decl_outers}
use Rattle.go_term_core.specs.decl_core.TopDecls.{FormTree, ValueForm, TypeForm, FuncForm, TopDeclTree, top_decl, numbered, named_decls, value_spec_decls, type_spec_decls, specs_decls, decl_decls, tops_decls}
use Rattle.go_tree_core.specs.copies.Respelled.{separated_with, some_with, names_with, type_with, fields_with, methods_with, signature_with, result_with, params_with, expr_with, items_with, exprs_with, values_with, value_spec_with, line_with, specs_with, type_spec_with, receiver_with, func_with, decl_with, top_with}

abbrev Long : List Outer → List Outer → Type 0
Long xs ys = length xs ≡ length ys

both : (us bs cs ds : List Outer) → Long us bs → Long cs ds → Long (us ++ cs) (bs ++ ds)
both us bs cs ds h k = length-append us cs ∙ (ap (λ n. n + length cs) h ∙ (ap (λ n. length bs + n) k ∙ sym (length-append bs ds)))

module _ (h : Ident → Ident) where
  -- as many

  idents_long : (k : DeclKind) (m : Manner) (xs : Separated Ident) → Long (idents_outers k m (separated_with h xs)) (idents_outers k m xs)
  idents_long k m (One x) = refl
  idents_long k m (Then x comma xs) = ap suc (idents_long k m xs)

  names_long : (xs : Option (Separated Ident)) → Long (names_outers (names_with h xs)) (names_outers xs)
  names_long None = refl
  names_long (Some xs) = idents_long kinds.Param Part xs

  mutual
    type_long : (t : TypeTree) → Long (type_outers (type_with h t)) (type_outers t)
    type_long (NamedType n) = refl
    type_long (Pointer star t) = type_long t
    type_long (ParenType first t last) = type_long t
    type_long (Struct k first ls last) = fields_long ls
    type_long (Interface k first ms last) = methods_long ms

    fields_long : (ls : FieldTrees) → Long (fields_outers (fields_with h ls)) (fields_outers ls)
    fields_long NoFields = refl
    fields_long (NamedFields xs t tag s rest) =
        both (idents_outers kinds.Field Part (separated_with h xs)) (idents_outers kinds.Field Part xs) (type_outers (type_with h t) ++ fields_outers (fields_with h rest)) (type_outers t ++ fields_outers rest) (idents_long kinds.Field Part xs)
        (both (type_outers (type_with h t)) (type_outers t) (fields_outers (fields_with h rest)) (fields_outers rest) (type_long t) (fields_long rest))
    fields_long (EmbeddedField star n tag s rest) = ap suc (fields_long rest)

    methods_long : (ms : MethodTrees) → Long (methods_outers (methods_with h ms)) (methods_outers ms)
    methods_long NoMethods = refl
    methods_long (Method x g s rest) =
        ap suc (both (signature_outers (signature_with h g)) (signature_outers g) (methods_outers (methods_with h rest)) (methods_outers rest) (signature_long g) (methods_long rest))

    signature_long : (g : SignatureTree) → Long (signature_outers (signature_with h g)) (signature_outers g)
    signature_long (Signed first params last result) =
        both (params_outers (params_with h params)) (params_outers params) (result_outers (result_with h result)) (result_outers result) (params_long params) (result_long result)

    result_long : (q : ResultTree) → Long (result_outers (result_with h q)) (result_outers q)
    result_long NoResult = refl
    result_long (OneResult t) = type_long t
    result_long (Results first params last) = params_long params

    params_long : (ps : ParamTrees) → Long (params_outers (params_with h ps)) (params_outers ps)
    params_long NoParams = refl
    params_long (Param xs t comma rest) =
        both (names_outers (names_with h xs)) (names_outers xs) (type_outers (type_with h t) ++ params_outers (params_with h rest)) (type_outers t ++ params_outers rest) (names_long xs)
        (both (type_outers (type_with h t)) (type_outers t) (params_outers (params_with h rest)) (params_outers rest) (type_long t) (params_long rest))

  mutual
    expr_long : (e : ExprTree) → Long (expr_outers (expr_with h e)) (expr_outers e)
    expr_long (Integer n span) = refl
    expr_long (Text t) = refl
    expr_long (Named x) = refl
    expr_long (Paren first t last) = expr_long t
    expr_long (Unary op span t) = expr_long t
    expr_long (Binary a op span b) = both (expr_outers (expr_with h a)) (expr_outers a) (expr_outers (expr_with h b)) (expr_outers b) (expr_long a) (expr_long b)
    expr_long (Select t dot x) = expr_long t
    expr_long (Call t first items last) = both (expr_outers (expr_with h t)) (expr_outers t) (items_outers (items_with h items)) (items_outers items) (expr_long t) (items_long items)
    expr_long (Literal n first items last) = items_long items
    expr_long (StructLiteral t first items last) = both (type_outers (type_with h t)) (type_outers t) (items_outers (items_with h items)) (items_outers items) (type_long t) (items_long items)

    items_long : (is : ItemTrees) → Long (items_outers (items_with h is)) (items_outers is)
    items_long NoItems = refl
    items_long (Item key t comma rest) = both (expr_outers (expr_with h t)) (expr_outers t) (items_outers (items_with h rest)) (items_outers rest) (expr_long t) (items_long rest)

  exprs_long : (es : Separated ExprTree) → Long (exprs_outers (exprs_with h es)) (exprs_outers es)
  exprs_long (One t) = expr_long t
  exprs_long (Then t comma rest) = both (expr_outers (expr_with h t)) (expr_outers t) (exprs_outers (exprs_with h rest)) (exprs_outers rest) (expr_long t) (exprs_long rest)

  some_type_long : (t : Option TypeTree) → Long (some_type_outers (some_with (type_with h) t)) (some_type_outers t)
  some_type_long None = refl
  some_type_long (Some t) = type_long t

  values_long : (v : Option (Span × Separated ExprTree)) → Long (values_outers (some_with (values_with h) v)) (values_outers v)
  values_long None = refl
  values_long (Some v) = exprs_long v.1

  spec_long : (k : ValueKind) (v : ValueSpecTree) → Long (value_spec_outers k (value_spec_with h v)) (value_spec_outers k v)
  spec_long k v =
      both (idents_outers (kind_of_value k) Whole (separated_with h v.names)) (idents_outers (kind_of_value k) Whole v.names) (rest_outers (value_spec_with h v)) (rest_outers v) (idents_long (kind_of_value k) Whole v.names)
      (both (some_type_outers (some_with (type_with h) v.type_expr)) (some_type_outers v.type_expr) (values_outers (some_with (values_with h) v.values)) (values_outers v.values) (some_type_long v.type_expr) (values_long v.values))

  type_spec_long : (t : TypeSpecTree) → Long (type_spec_outers (type_spec_with h t)) (type_spec_outers t)
  type_spec_long t = ap suc (type_long t.type_expr)

  receiver_long : (q : Option Receiver) → Long (receiver_outers (some_with (receiver_with h) q)) (receiver_outers q)
  receiver_long None = refl
  receiver_long (Some q) = by q.name
    where
      by : (x : Option Ident) → Long (receiver_name_outers (some_with h x)) (receiver_name_outers x)
      by None = refl
      by (Some x) = refl

  group_long : {A : Type 0} (names : A → List Outer) (change : A → A) → ((a : A) → Long (names (change a)) (names a)) → (ls : List (A × Option Span)) → Long (flat_map (λ l. names l.0) (map (line_with change) ls)) (flat_map (λ l. names l.0) ls)
  group_long names change each [] = refl
  group_long names change each (l ∷ ls) = both (names (change l.0)) (names l.0) (flat_map (λ l. names l.0) (map (line_with change) ls)) (flat_map (λ l. names l.0) ls) (each l.0) (group_long names change each ls)

  specs_long : {A : Type 0} (names : A → List Outer) (change : A → A) → ((a : A) → Long (names (change a)) (names a)) → (s : Specs A) → Long (of_specs names (specs_with change s)) (of_specs names s)
  specs_long names change each (Single a) = each a
  specs_long names change each (Group first ls last) = group_long names change each ls

  decl_long : (d : DeclTree) → Long (decl_outers (decl_with h d)) (decl_outers d)
  decl_long (Value v) = specs_long (value_spec_outers v.kind) (value_spec_with h) (spec_long v.kind) v.specs
  decl_long (Types t) = specs_long type_spec_outers (type_spec_with h) type_spec_long t.specs
  decl_long (Func f) =
      both (receiver_outers (some_with (receiver_with h) f.receiver)) (receiver_outers f.receiver) (outer (kind_of_func (some_with (receiver_with h) f.receiver)) Whole (h f.name) ∷ signature_outers (signature_with h f.signature)) (outer (kind_of_func f.receiver) Whole f.name ∷ signature_outers f.signature) (receiver_long f.receiver)
      (ap suc (signature_long f.signature))

  -- so the declarations have the same numbers

  abbrev pub form_with : FormTree → FormTree
  form_with (ValueForm k v i) = ValueForm k (value_spec_with h v) i
  form_with (TypeForm t) = TypeForm (type_spec_with h t)
  form_with (FuncForm f) = FuncForm (func_with h f)

  abbrev pub decl_anew : TopDeclTree → TopDeclTree
  decl_anew d = top_decl (h d.ident) d.number (form_with d.form)

  named_anew : (k : ValueKind) (v : ValueSpecTree) (n i : ℕ) (xs : Separated Ident) → named_decls k (value_spec_with h v) n i (separated_with h xs) ≡ map decl_anew (named_decls k v n i xs)
  named_anew k v n i (One x) = refl
  named_anew k v n i (Then x comma xs) = ap (λ l. top_decl (h x) (n + i) (ValueForm k (value_spec_with h v) i) ∷ l) (named_anew k v n (i + 1) xs)

  -- pieces that stand one behind another
  numbered_anew : {A : Type 0} (names : A → List Outer) (decls : ℕ → A → List TopDeclTree) (change : A → A) → ((a : A) → Long (names (change a)) (names a)) → ((n : ℕ) (a : A) → decls n (change a) ≡ map decl_anew (decls n a)) → (n : ℕ) (items : List A)
      → numbered names decls n (map change items) ≡ map decl_anew (numbered names decls n items)
  numbered_anew names decls change long each n [] = refl
  numbered_anew names decls change long each n (a ∷ items) =
      ap (λ l. l ++ numbered names decls (n + length (names (change a))) (map change items)) (each n a)
      ∙ (ap (λ k. map decl_anew (decls n a) ++ numbered names decls (n + k) (map change items)) (long a)
      ∙ (ap (λ l. map decl_anew (decls n a) ++ l) (numbered_anew names decls change long each (n + length (names a)) items)
      ∙ sym (map-append decl_anew (decls n a) (numbered names decls (n + length (names a)) items))))

  specs_anew : {A : Type 0} (names : A → List Outer) (decls : ℕ → A → List TopDeclTree) (change : A → A) → ((a : A) → Long (names (change a)) (names a)) → ((n : ℕ) (a : A) → decls n (change a) ≡ map decl_anew (decls n a)) → (n : ℕ) (s : Specs A)
      → specs_decls names decls n (specs_with change s) ≡ map decl_anew (specs_decls names decls n s)
  specs_anew names decls change long each n (Single a) = each n a
  specs_anew names decls change long each n (Group first ls last) = numbered_anew (λ l. names l.0) (λ n l. decls n l.0) (line_with change) (λ l. long l.0) (λ n l. each n l.0) n ls

  decls_anew : (n : ℕ) (d : DeclTree) → decl_decls n (decl_with h d) ≡ map decl_anew (decl_decls n d)
  decls_anew n (Value v) = specs_anew (value_spec_outers v.kind) (value_spec_decls v.kind) (value_spec_with h) (spec_long v.kind) (λ n v'. named_anew v.kind v' n 0 v'.names) n v.specs
  decls_anew n (Types t) = specs_anew type_spec_outers type_spec_decls (type_spec_with h) type_spec_long (λ n t'. refl) n t.specs
  decls_anew n (Func f) = ap (λ k. top_decl (h f.name) (n + k) (FuncForm (func_with h f)) ∷ []) (receiver_long f.receiver)

  pub tops_with : (n : ℕ) (ds : List TopTree) → tops_decls n (map (top_with h) ds) ≡ map decl_anew (tops_decls n ds)
  tops_with n ds = numbered_anew (λ (t : TopTree). decl_outers t.decl) (λ n (t : TopTree). decl_decls n t.decl) (top_with h) (λ t. decl_long t.decl) (λ n t. decls_anew n t.decl) n ds
