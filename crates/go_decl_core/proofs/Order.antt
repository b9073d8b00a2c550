-- The identifiers that a file declares outside function bodies stand one behind another.
use Rattle.std.proofs.Common.{◌≡◌, ℕ, ◌+◌, ◌<◌, ◌≤◌, List, [], ◌∷◌, ◌++◌, map, All, Option, Some, None, subst, sym, ap, ◌∙◌, append-nil, arith}
use Rattle.std.specs.List.{flat_map}
use Rattle.std.proofs.lemmas.List.Elements.{All-cons}
use Rattle.std.proofs.lemmas.List.Kept.{AllPairs-cons}
use Rattle.go_path_core.specs.text_core.declared.span.Span.{Span}
use Rattle.go_tree_nodes.specs.declared.names.Ident.{Ident}
use Rattle.go_tree_nodes.specs.declared.types.TypeName.{TypeName}
use Rattle.go_tree_nodes.specs.declared.types.TypeName.TheVariants as type_name
use Rattle.go_tree_nodes.specs.declared.files.Receiver.{Receiver}
use Rattle.go_tree_nodes.specs.Terminals.{Terminal, InOrder}
use Rattle.go_tree_nodes.specs.Trees.{Separated, One, Then, TypeTree, FieldTrees, MethodTrees, SignatureTree, ResultTree, ParamTrees, NamedType, Pointer, ParenType, Struct, Interface, NoFields, NamedFields, EmbeddedField, NoMethods, Method, Signed, NoResult, OneResult, Results, NoParams, Param, ExprTree, ItemTrees, Integer, Text, Named, Paren, Unary, Binary, Select, Call, Literal, StructLiteral, NoItems, Item, ValueSpecTree, Specs, Single, Group, TypeSpecTree, FuncTree, DeclTree, Value, Types, Func, TopTree, FileTree, of_specs}
use Rattle.go_tree_nodes.specs.declared.decls.ValueKind.{ValueKind}
use Rattle.go_tree_nodes.specs.Spelling.{spell_ident, spell_idents, spell_names, spell_type_name, spell_type, spell_fields, spell_methods, spell_signature, spell_result, spell_params, spell, spell_items, spell_exprs, spell_some_type, spell_values, spell_value_spec, spell_specs_of, spell_specs, spell_type_spec, spell_receiver_name, spell_receiver, spell_func, spell_decl, spell_tops, spell_file, IsPlaced}
use Rattle.go_tree_nodes.proofs.InOrder.{in_order_split, in_order_ends}
use Rattle.go_decl_core.specs.declared.places.DeclKind.{DeclKind}
use Rattle.go_decl_core.specs.declared.places.Place.{Place}
use Rattle.go_decl_core.specs.Outer.{Outer, Manner, outer, last_ident, idents_outers, names_outers, type_outers, fields_outers, methods_outers, signature_outers, result_outers, params_outers, expr_outers, items_outers, exprs_outers, some_type_outers, values_outers, value_spec_outers, type_spec_outers, receiver_name_outers, receiver_outers, func_outers, decl_outers, tops_outers, outer_names, place_of, places_of}
use Rattle.go_decl_core.specs.Table.{Rise}

-- identifiers that stand one behind another, between two offsets
abbrev Rises : ℕ → List Outer → ℕ → Type 0
Rises low [] high = low ≤ high
Rises low (o ∷ os) high = (low ≤ o.ident.span.start) × Rises (o.ident.span.start + 1) os high

rises_lower : (os : List Outer) (low lower high : ℕ) → lower ≤ low → Rises low os high → Rises lower os high
rises_lower [] low lower high l h = omega arith
rises_lower (o ∷ os) low lower high l h = (omega (arith, h.0), h.1)

rises_join : (os more : List Outer) (low middle high : ℕ) → Rises low os middle → Rises middle more high → Rises low (os ++ more) high
rises_join [] more low middle high h g = rises_lower more middle low high h g
rises_join (o ∷ os) more low middle high h g = (h.0, rises_join os more (o.ident.span.start + 1) middle high h.1 g)

-- tokens in order give such identifiers
record Gives (ts : List Terminal) (os : List Outer) : Type 0 where
  rise : (low high : ℕ) → InOrder low ts high → Rises low os high

gives_none : {ts : List Terminal} → Gives ts []
gives_none {ts} = record { rise = in_order_ends ts }

gives_skip : {t : Terminal} {ts : List Terminal} {os : List Outer} → Gives ts os → Gives (t ∷ ts) os
gives_skip {t} {ts} {os} m = record { rise = λ low high h. rises_lower os t.span.end low high (omega (arith, h.0, h.1)) (m.rise t.span.end high h.2) }

gives_name : {k : DeclKind} {m : Manner} {x : Ident} {ts : List Terminal} {os : List Outer} → Gives ts os → Gives (spell_ident x ∷ ts) (outer k m x ∷ os)
gives_name {x = x} {os = os} m = record { rise = λ low high h. (h.0, rises_lower os x.span.end (x.span.start + 1) high (omega (arith, h.1)) (m.rise x.span.end high h.2)) }

gives_both : {ts us : List Terminal} {os more : List Outer} → Gives ts os → Gives us more → Gives (ts ++ us) (os ++ more)
gives_both {ts} {us} {os} {more} m n = record {
  rise = λ low high h.
      let parts = in_order_split ts us low high h in
      rises_join os more low parts.0 high (m.rise low parts.0 parts.1.0) (n.rise parts.0 high parts.1.1);
}

gives_first : {ts : List Terminal} (us : List Terminal) {os : List Outer} → Gives ts os → Gives (ts ++ us) os
gives_first {ts} us {os} m = let P : List Outer → Type 0 = λ ps. Gives (ts ++ us) ps in subst P (append-nil os) (gives_both m gives_none)

gives_second : (ts : List Terminal) {us : List Terminal} {os : List Outer} → Gives us os → Gives (ts ++ us) os
gives_second ts m = gives_both gives_none m

idents_give : (k : DeclKind) (m : Manner) (xs : Separated Ident) → Gives (spell_idents xs) (idents_outers k m xs)
idents_give k m (One x) = gives_name gives_none
idents_give k m (Then x comma xs) = gives_name (gives_skip (idents_give k m xs))

names_give : (xs : Option (Separated Ident)) → Gives (spell_names xs) (names_outers xs)
names_give None = gives_none
names_give (Some xs) = idents_give _ _ xs

-- the last identifier of a type's name
last_gives : (k : DeclKind) (m : Manner) (n : TypeName) → Gives (spell_type_name n) (outer k m (last_ident n) ∷ [])
last_gives k m (type_name.Plain x) = gives_name gives_none
last_gives k m (type_name.Qualified p dot x) = gives_skip (gives_skip (gives_name gives_none))

mutual
  type_gives : (t : TypeTree) → Gives (spell_type t) (type_outers t)
  type_gives (NamedType n) = gives_none
  type_gives (Pointer star t) = gives_skip (type_gives t)
  type_gives (ParenType first t last) = gives_skip (gives_first _ (type_gives t))
  type_gives (Struct k first ls last) = gives_skip (gives_skip (gives_first _ (fields_give ls)))
  type_gives (Interface k first ms last) = gives_skip (gives_skip (gives_first _ (methods_give ms)))

  fields_give : (ls : FieldTrees) → Gives (spell_fields ls) (fields_outers ls)
  fields_give NoFields = gives_none
  fields_give (NamedFields xs t tag s rest) = gives_both (idents_give _ _ xs) (gives_both (type_gives t) (gives_second _ (gives_second _ (fields_give rest))))
  fields_give (EmbeddedField star n tag s rest) = gives_second _ (gives_both (last_gives _ _ n) (gives_second _ (gives_second _ (fields_give rest))))

  methods_give : (ms : MethodTrees) → Gives (spell_methods ms) (methods_outers ms)
  methods_give NoMethods = gives_none
  methods_give (Method x signature s rest) = gives_name (gives_both (signature_gives signature) (gives_second _ (methods_give rest)))

  signature_gives : (s : SignatureTree) → Gives (spell_signature s) (signature_outers s)
  signature_gives (Signed first params last result) = gives_skip (gives_both (params_give params) (gives_skip (result_gives result)))

  result_gives : (r : ResultTree) → Gives (spell_result r) (result_outers r)
  result_gives NoResult = gives_none
  result_gives (OneResult t) = type_gives t
  result_gives (Results first params last) = gives_skip (gives_first _ (params_give params))

  params_give : (ps : ParamTrees) → Gives (spell_params ps) (params_outers ps)
  params_give NoParams = gives_none
  params_give (Param xs t comma rest) = gives_both (names_give xs) (gives_both (type_gives t) (gives_second _ (params_give rest)))

mutual
  expr_gives : (t : ExprTree) → Gives (spell t) (expr_outers t)
  expr_gives (Integer n span) = gives_none
  expr_gives (Text t) = gives_none
  expr_gives (Named x) = gives_none
  expr_gives (Paren first t last) = gives_skip (gives_first _ (expr_gives t))
  expr_gives (Unary op span t) = gives_skip (expr_gives t)
  expr_gives (Binary a op span b) = gives_both (expr_gives a) (gives_skip (expr_gives b))
  expr_gives (Select t dot x) = gives_first _ (expr_gives t)
  expr_gives (Call t first items last) = gives_both (expr_gives t) (gives_skip (gives_first _ (items_give items)))
  expr_gives (Literal n first items last) = gives_second _ (gives_skip (gives_first _ (items_give items)))
  expr_gives (StructLiteral t first items last) = gives_both (type_gives t) (gives_skip (gives_first _ (items_give items)))

  items_give : (is : ItemTrees) → Gives (spell_items is) (items_outers is)
  items_give NoItems = gives_none
  items_give (Item key t comma rest) = gives_second _ (gives_both (expr_gives t) (gives_second _ (items_give rest)))

exprs_give : (es : Separated ExprTree) → Gives (spell_exprs es) (exprs_outers es)
exprs_give (One t) = expr_gives t
exprs_give (Then t comma more) = gives_both (expr_gives t) (gives_skip (exprs_give more))

some_type_gives : (t : Option TypeTree) → Gives (spell_some_type t) (some_type_outers t)
some_type_gives None = gives_none
some_type_gives (Some t) = type_gives t

values_give : (v : Option (Span × Separated ExprTree)) → Gives (spell_values v) (values_outers v)
values_give None = gives_none
values_give (Some v) = gives_skip (exprs_give v.1)

value_spec_gives : (k : ValueKind) (v : ValueSpecTree) → Gives (spell_value_spec v) (value_spec_outers k v)
value_spec_gives k v = gives_both (idents_give _ _ v.names) (gives_both (some_type_gives v.type_expr) (values_give v.values))

type_spec_gives : (t : TypeSpecTree) → Gives (spell_type_spec t) (type_spec_outers t)
type_spec_gives t = gives_name (gives_second _ (type_gives t.type_expr))

group_gives : {A : Type 0} (f : A → List Terminal) (g : A → List Outer) → ((x : A) → Gives (f x) (g x)) → (xs : List (A × Option Span)) → Gives (spell_specs_of f xs) (flat_map (λ l. g l.0) xs)
group_gives f g each [] = gives_none
group_gives f g each (x ∷ xs) = gives_both (each x.0) (gives_second _ (group_gives f g each xs))

specs_give : {A : Type 0} (f : A → List Terminal) (g : A → List Outer) → ((x : A) → Gives (f x) (g x)) → (s : Specs A) → Gives (spell_specs f s) (of_specs g s)
specs_give f g each (Single x) = each x
specs_give f g each (Group first xs last) = gives_skip (gives_first _ (group_gives f g each xs))

receiver_name_gives : (x : Option Ident) → Gives (spell_receiver_name x) (receiver_name_outers x)
receiver_name_gives None = gives_none
receiver_name_gives (Some x) = gives_name gives_none

receiver_gives : (r : Option Receiver) → Gives (spell_receiver r) (receiver_outers r)
receiver_gives None = gives_none
receiver_gives (Some r) = gives_skip (gives_first _ (receiver_name_gives r.name))

func_gives : (f : FuncTree) → Gives (spell_func f) (func_outers f)
func_gives f = gives_skip (gives_both (receiver_gives f.receiver) (gives_name (gives_first _ (signature_gives f.signature))))

decl_gives : (d : DeclTree) → Gives (spell_decl d) (decl_outers d)
decl_gives (Value v) = gives_skip (specs_give spell_value_spec (value_spec_outers v.kind) (value_spec_gives v.kind) v.specs)
decl_gives (Types t) = gives_skip (specs_give spell_type_spec type_spec_outers type_spec_gives t.specs)
decl_gives (Func f) = func_gives f

tops_give : (ds : List TopTree) → Gives (spell_tops ds) (tops_outers ds)
tops_give [] = gives_none
tops_give (d ∷ ds) = gives_both (decl_gives d.decl) (gives_skip (tops_give ds))

outers_rise : (f : FileTree) (high : ℕ) → InOrder 0 (spell_file f) high → Rises 0 (outer_names f) high
outers_rise f high h =
    let m : Gives (spell_file f) (outer_names f) = gives_skip (gives_skip (gives_skip (gives_second _ (tops_give f.decls)))) in
    m.rise 0 high h

rises_all : (low : ℕ) (os : List Outer) (high : ℕ) → Rises low os high → All (λ p. low ≤ p.at) (map place_of os)
rises_all low [] high h = λ k p lt. absurd (omega arith)
rises_all low (o ∷ os) high h =
    All-cons (λ p. low ≤ p.at) (place_of o) (map place_of os) h.0 (λ k p lt. (let r = rises_all (o.ident.span.start + 1) os high h.1 k p lt in omega (arith, r, h.0)))

rises_pairs : (low : ℕ) (os : List Outer) (high : ℕ) → Rises low os high → Rise (map place_of os)
rises_pairs low [] high h = λ i j p less lt. absurd (omega arith)
rises_pairs low (o ∷ os) high h =
    AllPairs-cons (λ p q. p.at < q.at) (place_of o) (map place_of os) (λ k p lt. (let r = rises_all (o.ident.span.start + 1) os high h.1 k p lt in omega (arith, r))) (rises_pairs (o.ident.span.start + 1) os high h.1)

-- the offsets of a file's table rise
pub places_rise : (f : FileTree) → IsPlaced f → Rise (places_of f)
places_rise f placed = rises_pairs 0 (outer_names f) placed.0 (outers_rise f placed.0 placed.1)

-- those that a walk over all declarations has listed rise
pub listed_rise : (f : FileTree) (old new : List Place) → IsPlaced f → old ≡ [] → new ≡ old ++ map place_of (outer_names f) → Rise new
listed_rise f old new placed none e = subst Rise (sym (e ∙ ap (λ ps. ps ++ map place_of (outer_names f)) none)) (places_rise f placed)
