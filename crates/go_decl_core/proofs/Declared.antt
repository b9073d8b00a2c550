-- The identifiers of the table are the names that declarations declare, and the names of embedded fields.
use Rattle.std.proofs.Common.{◌≡◌, Bool, not, List, [], ◌∷◌, ◌++◌, map, Option, Some, None, refl, ap, sym, ◌∙◌, append-nil}
use Rattle.std.specs.List.{filter, flat_map}
use Rattle.std.proofs.lemmas.List.{map-append}
use Rattle.std.proofs.lemmas.List.Elements.{filter-append}
use Rattle.go_path_core.specs.text_core.declared.span.Span.{Span}
use Rattle.go_tree_nodes.specs.declared.names.Ident.{Ident}
use Rattle.go_tree_nodes.specs.declared.decls.ValueKind.{ValueKind}
use Rattle.go_tree_nodes.specs.declared.files.Receiver.{Receiver}
use Rattle.go_tree_nodes.specs.Trees.{Separated, One, Then, TypeTree, FieldTrees, MethodTrees, SignatureTree, ResultTree, ParamTrees, NamedType, Pointer, ParenType, Struct, Interface, NoFields, NamedFields, EmbeddedField, NoMethods, Method, Signed, NoResult, OneResult, Results, NoParams, Param, ExprTree, ItemTrees, Integer, Text, Named, Paren, Unary, Binary, Select, Call, Literal, StructLiteral, NoItems, Item, ValueSpecTree, Specs, Single, Group, TypeSpecTree, DeclTree, Value, Types, Func, TopTree, of_specs}
use Rattle.go_tree_core.specs.Names.{take_some, take_each, take_group, take_specs, take_values, take_value_spec, take_type_spec, take_receiver, take_decl, take_tops, one_name, nothing, type_names, field_names, method_names, signature_names, result_names, param_names, expr_names, item_names, taking_names}
use Rattle.go_decl_core.specs.declared.places.DeclKind.{DeclKind}
use Rattle.go_decl_core.specs.Outer.{Outer, Whole, Part, Embedded, outer, idents_outers, names_outers, type_outers, fields_outers, methods_outers, signature_outers, result_outers, params_outers, expr_outers, items_outers, exprs_outers, some_type_outers, values_outers, value_spec_outers, type_spec_outers, receiver_name_outers, receiver_outers, decl_outers, tops_outers}
use Rattle.go_decl_core.specs.Bodies.{decl_without_bodies, top_without_bodies}
use Rattle.go_decl_core.specs.Embedded.{type_embedded, fields_embedded, methods_embedded, signature_embedded, result_embedded, params_embedded, expr_embedded, items_embedded, embedding}
use Rattle.go_decl_core.specs.Laws.{is_embedded, PlacesAreDeclared}

abbrev own_of : List Outer → List Ident
own_of os = map (λ o. o.ident) (filter (λ o. not (is_embedded o)) os)

abbrev embedded_of : List Outer → List Ident
embedded_of os = map (λ o. o.ident) (filter is_embedded os)

-- these are declared, and these are names of embedded fields
record Splits (os : List Outer) (ds es : List Ident) : Type 0 where
  own : own_of os ≡ ds
  embedded : embedded_of os ≡ es

kept_both : (p : Outer → Bool) (os ps : List Outer) → map (λ o. o.ident) (filter p (os ++ ps)) ≡ map (λ o. o.ident) (filter p os) ++ map (λ o. o.ident) (filter p ps)
kept_both p os ps = ap (map (λ o. o.ident)) (filter-append p os ps) ∙ map-append (λ o. o.ident) (filter p os) (filter p ps)

splits_none : Splits [] [] []
splits_none = record { own = refl; embedded = refl }

splits_both : {os ps : List Outer} {ds es fs gs : List Ident} → Splits os ds es → Splits ps fs gs → Splits (os ++ ps) (ds ++ fs) (es ++ gs)
splits_both {os} {ps} {ds} {es} {fs} {gs} h g = record {
  own = kept_both (λ o. not (is_embedded o)) os ps ∙ (ap (λ l. l ++ own_of ps) h.own ∙ ap (λ l. ds ++ l) g.own);
  embedded = kept_both is_embedded os ps ∙ (ap (λ l. l ++ embedded_of ps) h.embedded ∙ ap (λ l. es ++ l) g.embedded);
}

splits_part : {k : DeclKind} {x : Ident} {os : List Outer} {ds es : List Ident} → Splits os ds es → Splits (outer k Part x ∷ os) (x ∷ ds) es
splits_part {x = x} h = record { own = ap (λ l. x ∷ l) h.own; embedded = h.embedded }

splits_whole : {k : DeclKind} {x : Ident} {os : List Outer} {ds es : List Ident} → Splits os ds es → Splits (outer k Whole x ∷ os) (x ∷ ds) es
splits_whole {x = x} h = record { own = ap (λ l. x ∷ l) h.own; embedded = h.embedded }

splits_embedded : {k : DeclKind} {x : Ident} {os : List Outer} {ds es : List Ident} → Splits os ds es → Splits (outer k Embedded x ∷ os) ds (x ∷ es)
splits_embedded {x = x} h = record { own = h.own; embedded = ap (λ l. x ∷ l) h.embedded }

parts_split : (k : DeclKind) (xs : Separated Ident) → Splits (idents_outers k Part xs) (take_each one_name xs) []
parts_split k (One x) = splits_part splits_none
parts_split k (Then x comma xs) = splits_part (parts_split k xs)

wholes_split : (k : DeclKind) (xs : Separated Ident) → Splits (idents_outers k Whole xs) (take_each one_name xs) (take_each nothing xs)
wholes_split k (One x) = splits_whole splits_none
wholes_split k (Then x comma xs) = splits_whole (wholes_split k xs)

names_split : (xs : Option (Separated Ident)) → Splits (names_outers xs) (take_some (take_each one_name) xs) []
names_split None = splits_none
names_split (Some xs) = parts_split _ xs

mutual
  type_splits : (t : TypeTree) → Splits (type_outers t) (type_names t) (type_embedded t)
  type_splits (NamedType n) = splits_none
  type_splits (Pointer star t) = type_splits t
  type_splits (ParenType first t last) = type_splits t
  type_splits (Struct k first ls last) = fields_split ls
  type_splits (Interface k first ms last) = methods_split ms

  fields_split : (ls : FieldTrees) → Splits (fields_outers ls) (field_names ls) (fields_embedded ls)
  fields_split NoFields = splits_none
  fields_split (NamedFields xs t tag s rest) = splits_both (parts_split _ xs) (splits_both (type_splits t) (fields_split rest))
  fields_split (EmbeddedField star n tag s rest) = splits_embedded (fields_split rest)

  methods_split : (ms : MethodTrees) → Splits (methods_outers ms) (method_names ms) (methods_embedded ms)
  methods_split NoMethods = splits_none
  methods_split (Method x signature s rest) = splits_part (splits_both (signature_splits signature) (methods_split rest))

  signature_splits : (s : SignatureTree) → Splits (signature_outers s) (signature_names s) (signature_embedded s)
  signature_splits (Signed first params last result) = splits_both (params_split params) (result_splits result)

  result_splits : (r : ResultTree) → Splits (result_outers r) (result_names r) (result_embedded r)
  result_splits NoResult = splits_none
  result_splits (OneResult t) = type_splits t
  result_splits (Results first params last) = params_split params

  params_split : (ps : ParamTrees) → Splits (params_outers ps) (param_names ps) (params_embedded ps)
  params_split NoParams = splits_none
  params_split (Param xs t comma rest) = splits_both (names_split xs) (splits_both (type_splits t) (params_split rest))

mutual
  expr_splits : (t : ExprTree) → Splits (expr_outers t) (expr_names t) (expr_embedded t)
  expr_splits (Integer n span) = splits_none
  expr_splits (Text t) = splits_none
  expr_splits (Named x) = splits_none
  expr_splits (Paren first t last) = expr_splits t
  expr_splits (Unary op span t) = expr_splits t
  expr_splits (Binary a op span b) = splits_both (expr_splits a) (expr_splits b)
  expr_splits (Select t dot x) = expr_splits t
  expr_splits (Call t first items last) = splits_both (expr_splits t) (items_split items)
  expr_splits (Literal n first items last) = items_split items
  expr_splits (StructLiteral t first items last) = splits_both (type_splits t) (items_split items)

  items_split : (is : ItemTrees) → Splits (items_outers is) (item_names is) (items_embedded is)
  items_split NoItems = splits_none
  items_split (Item key t comma rest) = splits_both (expr_splits t) (items_split rest)

exprs_split : (es : Separated ExprTree) → Splits (exprs_outers es) (take_each expr_names es) (take_each expr_embedded es)
exprs_split (One t) = expr_splits t
exprs_split (Then t comma more) = splits_both (expr_splits t) (exprs_split more)

some_type_splits : (t : Option TypeTree) → Splits (some_type_outers t) (take_some type_names t) (take_some type_embedded t)
some_type_splits None = splits_none
some_type_splits (Some t) = type_splits t

values_split : (v : Option (Span × Separated ExprTree)) → Splits (values_outers v) (take_values taking_names v) (take_values embedding v)
values_split None = splits_none
values_split (Some v) = exprs_split v.1

value_spec_splits : (k : ValueKind) (v : ValueSpecTree) → Splits (value_spec_outers k v) (take_value_spec taking_names v) (take_value_spec embedding v)
value_spec_splits k v = splits_both (wholes_split _ v.names) (splits_both (some_type_splits v.type_expr) (values_split v.values))

type_spec_splits : (t : TypeSpecTree) → Splits (type_spec_outers t) (take_type_spec taking_names t) (take_type_spec embedding t)
type_spec_splits t = splits_whole (type_splits t.type_expr)

group_splits : {A : Type 0} (f : A → List Outer) (g h : A → List Ident) → ((x : A) → Splits (f x) (g x) (h x)) → (ls : List (A × Option Span)) → Splits (flat_map (λ l. f l.0) ls) (take_group g ls) (take_group h ls)
group_splits f g h each [] = splits_none
group_splits f g h each (l ∷ ls) = splits_both (each l.0) (group_splits f g h each ls)

specs_split : {A : Type 0} (f : A → List Outer) (g h : A → List Ident) → ((x : A) → Splits (f x) (g x) (h x)) → (s : Specs A) → Splits (of_specs f s) (take_specs g s) (take_specs h s)
specs_split f g h each (Single x) = each x
specs_split f g h each (Group first ls last) = group_splits f g h each ls

receiver_name_splits : (x : Option Ident) → Splits (receiver_name_outers x) (take_some one_name x) (take_some nothing x)
receiver_name_splits None = splits_none
receiver_name_splits (Some x) = splits_part splits_none

receiver_splits : (r : Option Receiver) → Splits (receiver_outers r) (take_receiver taking_names r) (take_receiver embedding r)
receiver_splits None = splits_none
receiver_splits (Some r) = receiver_name_splits r.name

-- an empty body declares nothing
signature_alone : (s : SignatureTree) → Splits (signature_outers s) (signature_names s ++ []) (signature_embedded s ++ [])
signature_alone s = let h = signature_splits s in record { own = h.own ∙ sym (append-nil (signature_names s)); embedded = h.embedded ∙ sym (append-nil (signature_embedded s)) }

decl_splits : (d : DeclTree) → Splits (decl_outers d) (take_decl taking_names (decl_without_bodies d)) (take_decl embedding (decl_without_bodies d))
decl_splits (Value v) = specs_split (value_spec_outers v.kind) (take_value_spec taking_names) (take_value_spec embedding) (value_spec_splits v.kind) v.specs
decl_splits (Types t) = specs_split type_spec_outers (take_type_spec taking_names) (take_type_spec embedding) type_spec_splits t.specs
decl_splits (Func f) = splits_both (receiver_splits f.receiver) (splits_whole (signature_alone f.signature))

tops_split : (ts : List TopTree) → Splits (tops_outers ts) (take_tops taking_names (map top_without_bodies ts)) (take_tops embedding (map top_without_bodies ts))
tops_split [] = splits_none
tops_split (t ∷ ts) = splits_both (decl_splits t.decl) (tops_split ts)

pub places_are_declared : PlacesAreDeclared
places_are_declared = record { own = λ f. (tops_split f.decls).own; embedded = λ f. (tops_split f.decls).embedded }
