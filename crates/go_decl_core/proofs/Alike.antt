-- Bodies and places change no number.
use Rattle.std.proofs.Common.{◌≡◌, ℕ, ◌+◌, List, [], ◌∷◌, ◌++◌, length, map, Option, Some, None, refl, ap, sym, ◌∙◌}
use Rattle.std.specs.List.{flat_map}
use Rattle.std.proofs.lemmas.List.{map-append, length-map}
use Rattle.go_path_core.specs.text_core.declared.span.Span.{Span}
use Rattle.go_tree_nodes.specs.declared.names.Ident.{Ident}
use Rattle.go_tree_nodes.specs.declared.types.TypeName.{TypeName}
use Rattle.go_tree_nodes.specs.declared.types.TypeName.TheVariants as type_name
use Rattle.go_tree_nodes.specs.declared.decls.ValueKind.{ValueKind}
use Rattle.go_tree_nodes.specs.declared.files.Receiver.{Receiver}
use Rattle.go_tree_nodes.specs.Trees.{Separated, One, Then, TypeTree, FieldTrees, MethodTrees, SignatureTree, ResultTree, ParamTrees, NamedType, Pointer, ParenType, Struct, Interface, NoFields, NamedFields, EmbeddedField, NoMethods, Method, Signed, NoResult, OneResult, Results, NoParams, Param, ExprTree, ItemTrees, Integer, Text, Named, Paren, Unary, Binary, Select, Call, Literal, StructLiteral, NoItems, Item, ValueSpecTree, Specs, Single, Group, TypeSpecTree, FuncTree, DeclTree, Value, Types, Func, TopTree, of_specs}
use Rattle.go_decl_core.specs.declared.places.DeclKind.{DeclKind}
use Rattle.go_decl_core.specs.declared.places.DeclKind.TheVariants as kinds
use Rattle.go_decl_core.specs.Outer.{Outer, Manner, Embedded, outer, last_ident, idents_outers, names_outers, type_outers, fields_outers, methods_outers, signature_outers, result_outers, params_outers, expr_outers, items_outers, exprs_outers, some_type_outers, values_outers, kind_of_value, kind_of_func, value_spec_outers, type_spec_outers, receiver_name_outers, receiver_outers, func_outers, decl_outers, tops_outers}
use Rattle.go_decl_core.specs.TopDecls.{TopDeclTree, numbered, named_decls, value_spec_decls, type_spec_decls, specs_decls, decl_decls, tops_decls}
use Rattle.go_decl_core.specs.Bodies.{decl_without_bodies, top_without_bodies, bare_idents, bare_names, bare_type_name, bare_type, bare_fields, bare_methods, bare_signature, bare_result, bare_params, bare_expr, bare_items, bare_exprs, bare_some_type, bare_values, bare_value_spec, bare_type_spec, bare_line, bare_specs, bare_receiver_name, bare_receiver, bare_func, bare_decl}
use Rattle.go_decl_core.specs.Laws.{known, name_and_kind, name_and_number, BodiesDoNotCount}

-- without bodies

no_body : (d : DeclTree) → decl_outers d ≡ decl_outers (decl_without_bodies d)
no_body (Value v) = refl
no_body (Types t) = refl
no_body (Func f) = refl

names_without : (ts : List TopTree) → tops_outers ts ≡ tops_outers (map top_without_bodies ts)
names_without [] = refl
names_without (t ∷ ts) = ap (λ os. os ++ tops_outers ts) (no_body t.decl) ∙ ap (λ os. decl_outers (decl_without_bodies t.decl) ++ os) (names_without ts)

no_body_known : (n : ℕ) (d : DeclTree) → map known (decl_decls n d) ≡ map known (decl_decls n (decl_without_bodies d))
no_body_known n (Value v) = refl
no_body_known n (Types t) = refl
no_body_known n (Func f) = refl

decls_without : (n : ℕ) (ts : List TopTree) → map known (tops_decls n ts) ≡ map known (tops_decls n (map top_without_bodies ts))
decls_without n [] = refl
decls_without n (t ∷ ts) =
    let m = n + length (decl_outers t.decl) in
    let e = decl_without_bodies t.decl in
    map-append known (decl_decls n t.decl) (tops_decls m ts)
    ∙ (ap (λ ks. ks ++ map known (tops_decls m ts)) (no_body_known n t.decl)
    ∙ (ap (λ ks. map known (decl_decls n e) ++ ks) (decls_without m ts ∙ ap (λ os. map known (tops_decls (n + length os) (map top_without_bodies ts))) (no_body t.decl))
    ∙ sym (map-append known (decl_decls n e) (tops_decls (n + length (decl_outers e)) (map top_without_bodies ts)))))

-- without places

-- the same names and kinds
record Same (os ps : List Outer) : Type 0 where
  same : map name_and_kind os ≡ map name_and_kind ps

same_none : Same [] []
same_none = record { same = refl }

same_both : {os ps us vs : List Outer} → Same os us → Same ps vs → Same (os ++ ps) (us ++ vs)
same_both {os} {ps} {us} {vs} h g = record {
  same = map-append name_and_kind os ps ∙ (ap (λ l. l ++ map name_and_kind ps) h.same ∙ (ap (λ l. map name_and_kind us ++ l) g.same ∙ sym (map-append name_and_kind us vs)));
}

same_more : {o u : Outer} {os us : List Outer} → name_and_kind o ≡ name_and_kind u → Same os us → Same (o ∷ os) (u ∷ us)
same_more {o} {u} {os} {us} e h = record { same = ap (λ x. x ∷ map name_and_kind os) e ∙ ap (λ l. name_and_kind u ∷ l) h.same }

same_count : (os ps : List Outer) → Same os ps → length os ≡ length ps
same_count os ps h = sym (length-map os name_and_kind) ∙ (ap length h.same ∙ length-map ps name_and_kind)

idents_same : (k : DeclKind) (m : Manner) (xs : Separated Ident) → Same (idents_outers k m xs) (idents_outers k m (bare_idents xs))
idents_same k m (One x) = same_more refl same_none
idents_same k m (Then x comma xs) = same_more refl (idents_same k m xs)

names_same : (xs : Option (Separated Ident)) → Same (names_outers xs) (names_outers (bare_names xs))
names_same None = same_none
names_same (Some xs) = idents_same _ _ xs

last_same : (k : DeclKind) (m : Manner) (n : TypeName) → name_and_kind (outer k m (last_ident n)) ≡ name_and_kind (outer k m (last_ident (bare_type_name n)))
last_same k m (type_name.Plain x) = refl
last_same k m (type_name.Qualified p dot x) = refl

mutual
  type_same : (t : TypeTree) → Same (type_outers t) (type_outers (bare_type t))
  type_same (NamedType n) = same_none
  type_same (Pointer star t) = type_same t
  type_same (ParenType first t last) = type_same t
  type_same (Struct k first ls last) = fields_same ls
  type_same (Interface k first ms last) = methods_same ms

  fields_same : (ls : FieldTrees) → Same (fields_outers ls) (fields_outers (bare_fields ls))
  fields_same NoFields = same_none
  fields_same (NamedFields xs t tag s rest) = same_both (idents_same _ _ xs) (same_both (type_same t) (fields_same rest))
  fields_same (EmbeddedField star n tag s rest) = same_more (last_same kinds.Field Embedded n) (fields_same rest)

  methods_same : (ms : MethodTrees) → Same (methods_outers ms) (methods_outers (bare_methods ms))
  methods_same NoMethods = same_none
  methods_same (Method x signature s rest) = same_more refl (same_both (signature_same signature) (methods_same rest))

  signature_same : (s : SignatureTree) → Same (signature_outers s) (signature_outers (bare_signature s))
  signature_same (Signed first params last result) = same_both (params_same params) (result_same result)

  result_same : (r : ResultTree) → Same (result_outers r) (result_outers (bare_result r))
  result_same NoResult = same_none
  result_same (OneResult t) = type_same t
  result_same (Results first params last) = params_same params

  params_same : (ps : ParamTrees) → Same (params_outers ps) (params_outers (bare_params ps))
  params_same NoParams = same_none
  params_same (Param xs t comma rest) = same_both (names_same xs) (same_both (type_same t) (params_same rest))

mutual
  expr_same : (t : ExprTree) → Same (expr_outers t) (expr_outers (bare_expr t))
  expr_same (Integer n span) = same_none
  expr_same (Text t) = same_none
  expr_same (Named x) = same_none
  expr_same (Paren first t last) = expr_same t
  expr_same (Unary op span t) = expr_same t
  expr_same (Binary a op span b) = same_both (expr_same a) (expr_same b)
  expr_same (Select t dot x) = expr_same t
  expr_same (Call t first items last) = same_both (expr_same t) (items_same items)
  expr_same (Literal n first items last) = items_same items
  expr_same (StructLiteral t first items last) = same_both (type_same t) (items_same items)

  items_same : (is : ItemTrees) → Same (items_outers is) (items_outers (bare_items is))
  items_same NoItems = same_none
  items_same (Item key t comma rest) = same_both (expr_same t) (items_same rest)

exprs_same : (es : Separated ExprTree) → Same (exprs_outers es) (exprs_outers (bare_exprs es))
exprs_same (One t) = expr_same t
exprs_same (Then t comma more) = same_both (expr_same t) (exprs_same more)

some_type_same : (t : Option TypeTree) → Same (some_type_outers t) (some_type_outers (bare_some_type t))
some_type_same None = same_none
some_type_same (Some t) = type_same t

values_same : (v : Option (Span × Separated ExprTree)) → Same (values_outers v) (values_outers (bare_values v))
values_same None = same_none
values_same (Some v) = exprs_same v.1

value_spec_same : (k : ValueKind) (v : ValueSpecTree) → Same (value_spec_outers k v) (value_spec_outers k (bare_value_spec v))
value_spec_same k v = same_both (idents_same _ _ v.names) (same_both (some_type_same v.type_expr) (values_same v.values))

type_spec_same : (t : TypeSpecTree) → Same (type_spec_outers t) (type_spec_outers (bare_type_spec t))
type_spec_same t = same_more refl (type_same t.type_expr)

receiver_name_same : (x : Option Ident) → Same (receiver_name_outers x) (receiver_name_outers (bare_receiver_name x))
receiver_name_same None = same_none
receiver_name_same (Some x) = same_more refl same_none

receiver_same : (r : Option Receiver) → Same (receiver_outers r) (receiver_outers (bare_receiver r))
receiver_same None = same_none
receiver_same (Some r) = receiver_name_same r.name

kind_same : (r : Option Receiver) → kind_of_func r ≡ kind_of_func (bare_receiver r)
kind_same None = refl
kind_same (Some r) = refl

func_same : (f : FuncTree) → Same (func_outers f) (func_outers (bare_func f))
func_same f = same_both (receiver_same f.receiver) (same_more (ap (λ k. (f.name.name, k)) (kind_same f.receiver)) (signature_same f.signature))

group_same : {A : Type 0} (f : A → List Outer) (g : A → A) → ((x : A) → Same (f x) (f (g x))) → (ls : List (A × Option Span)) → Same (flat_map (λ l. f l.0) ls) (flat_map (λ l. f l.0) (map (bare_line g) ls))
group_same f g each [] = same_none
group_same f g each (l ∷ ls) = same_both (each l.0) (group_same f g each ls)

specs_same : {A : Type 0} (f : A → List Outer) (g : A → A) → ((x : A) → Same (f x) (f (g x))) → (s : Specs A) → Same (of_specs f s) (of_specs f (bare_specs g s))
specs_same f g each (Single x) = each x
specs_same f g each (Group first ls last) = group_same f g each ls

decl_same : (d : DeclTree) → Same (decl_outers d) (decl_outers (bare_decl d))
decl_same (Value v) = specs_same (value_spec_outers v.kind) bare_value_spec (value_spec_same v.kind) v.specs
decl_same (Types t) = specs_same type_spec_outers bare_type_spec type_spec_same t.specs
decl_same (Func f) = func_same f

-- the names and kinds of a file are those of what is left of it
names_outside : (ts : List TopTree) → Same (tops_outers ts) (flat_map decl_outers (map (λ t. bare_decl t.decl) ts))
names_outside [] = same_none
names_outside (t ∷ ts) = same_both (decl_same t.decl) (names_outside ts)

-- the same names, numbers and kinds of declarations
record Alike (ds es : List TopDeclTree) : Type 0 where
  alike : map name_and_number ds ≡ map name_and_number es

alike_both : {ds es fs gs : List TopDeclTree} → Alike ds fs → Alike es gs → Alike (ds ++ es) (fs ++ gs)
alike_both {ds} {es} {fs} {gs} h g = record {
  alike = map-append name_and_number ds es ∙ (ap (λ l. l ++ map name_and_number es) h.alike ∙ (ap (λ l. map name_and_number fs ++ l) g.alike ∙ sym (map-append name_and_number fs gs)));
}

named_alike : (k : ValueKind) (v : ValueSpecTree) (n i : ℕ) (xs : Separated Ident) → Alike (named_decls k v n i xs) (named_decls k (bare_value_spec v) n i (bare_idents xs))
named_alike k v n i (One x) = record { alike = refl }
named_alike k v n i (Then x comma xs) = record { alike = ap (λ l. (x.name, n + i, kind_of_value k) ∷ l) (named_alike k v n (i + 1) xs).alike }

numbered_alike : {A B : Type 0} (f : A → List Outer) (g : B → List Outer) (ds : ℕ → A → List TopDeclTree) (es : ℕ → B → List TopDeclTree) (change : A → B) → ((x : A) → length (f x) ≡ length (g (change x))) → ((n : ℕ) (x : A) → Alike (ds n x) (es n (change x))) → (n : ℕ) (xs : List A) → Alike (numbered f ds n xs) (numbered g es n (map change xs))
numbered_alike f g ds es change count each n [] = record { alike = refl }
numbered_alike f g ds es change count each n (x ∷ xs) =
    alike_both (each n x) (record { alike = (numbered_alike f g ds es change count each (n + length (f x)) xs).alike ∙ ap (λ m. map name_and_number (numbered g es (n + m) (map change xs))) (count x) })

specs_alike : {A : Type 0} (f : A → List Outer) (ds : ℕ → A → List TopDeclTree) (change : A → A) → ((x : A) → Same (f x) (f (change x))) → ((n : ℕ) (x : A) → Alike (ds n x) (ds n (change x))) → (n : ℕ) (s : Specs A) → Alike (specs_decls f ds n s) (specs_decls f ds n (bare_specs change s))
specs_alike f ds change same each n (Single x) = each n x
specs_alike f ds change same each n (Group first ls last) = numbered_alike (λ l. f l.0) (λ l. f l.0) (λ n l. ds n l.0) (λ n l. ds n l.0) (bare_line change) (λ l. same_count (f l.0) (f (change l.0)) (same l.0)) (λ n l. each n l.0) n ls

decl_alike : (n : ℕ) (d : DeclTree) → Alike (decl_decls n d) (decl_decls n (bare_decl d))
decl_alike n (Value v) = specs_alike (value_spec_outers v.kind) (value_spec_decls v.kind) bare_value_spec (value_spec_same v.kind) (λ n w. named_alike v.kind w n 0 w.names) n v.specs
decl_alike n (Types t) = specs_alike type_spec_outers type_spec_decls bare_type_spec type_spec_same (λ n t. record { alike = refl }) n t.specs
decl_alike n (Func f) = record {
  alike = ap (λ m. (f.name.name, n + m, kind_of_func f.receiver) ∷ []) (same_count (receiver_outers f.receiver) (receiver_outers (bare_receiver f.receiver)) (receiver_same f.receiver))
      ∙ ap (λ k. (f.name.name, n + length (receiver_outers (bare_receiver f.receiver)), k) ∷ []) (kind_same f.receiver);
}

decls_outside : (n : ℕ) (ts : List TopTree) → Alike (tops_decls n ts) (numbered decl_outers decl_decls n (map (λ t. bare_decl t.decl) ts))
decls_outside n ts = numbered_alike (λ t. decl_outers t.decl) decl_outers (λ n t. decl_decls n t.decl) decl_decls (λ t. bare_decl t.decl) (λ t. same_count (decl_outers t.decl) (decl_outers (bare_decl t.decl)) (decl_same t.decl)) (λ n t. decl_alike n t.decl) n ts

pub bodies_do_not_count : BodiesDoNotCount
bodies_do_not_count = record {
  names = λ f. names_without f.decls;
  decls = λ f. decls_without 0 f.decls;
  same_names = λ f g same. (names_outside f.decls).same ∙ (ap (λ ds. map name_and_kind (flat_map decl_outers ds)) same ∙ sym (names_outside g.decls).same);
  same_decls = λ f g same. (decls_outside 0 f.decls).alike ∙ (ap (λ ds. map name_and_number (numbered decl_outers decl_decls 0 ds)) same ∙ sym (decls_outside 0 g.decls).alike);
}
