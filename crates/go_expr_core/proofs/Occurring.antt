-- What is noted stands where occurrences stand.
use Rattle.std.proofs.Common.{◌≡◌, ℕ, Bool, true, false, List, [], ◌∷◌, ◌++◌, map, refl, sym, ap, ◌∙◌}
use Rattle.std.specs.Prelude.{Option, Some, None}
use Rattle.std.proofs.lemmas.List.{map-append}
use Rattle.go_tree_nodes.specs.token_core.declared.kind.Operator.{Operator}
use Rattle.go_tree_nodes.specs.token_core.declared.kind.Operator.TheVariants as operators
use Rattle.go_tree_nodes.specs.declared.names.Ident.{Ident}
use Rattle.go_tree_nodes.specs.declared.exprs.Key.{Key}
use Rattle.go_tree_nodes.specs.declared.types.TypeName.{TypeName}
use Rattle.go_tree_nodes.specs.declared.types.TypeName.TheVariants as type_names
use Rattle.go_tree_nodes.specs.Rules.{Wf, Wf_items}
use Rattle.go_tree_nodes.specs.Trees.{TypeTree, FieldTrees, MethodTrees, SignatureTree, ResultTree, ParamTrees, NamedType, Pointer, ParenType, Struct, Interface, NoFields, NamedFields, EmbeddedField, NoMethods, Method, Signed, NoResult, OneResult, Results, NoParams, Param, ExprTree, ItemTrees, Integer, Text, Named, Paren, Unary, Binary, Select, Call, Literal, StructLiteral, NoItems, Item}
use Rattle.go_tree_core.specs.declared.occurrence.Role.{Role}
use Rattle.go_tree_core.specs.declared.occurrence.Role.TheVariants as roles
use Rattle.go_tree_core.specs.declared.occurrence.Context.TheVariants as contexts
use Rattle.go_tree_core.specs.declared.occurrence.Occ.{Occ}
use Rattle.go_tree_core.specs.Occurrences as occ
use Rattle.go_denote_core.specs.declared.things.Stand.{Stand}
use Rattle.go_denote_core.specs.declared.things.Stand.TheVariants as stands
use Rattle.go_expr_core.specs.Looks.{Looks}
use Rattle.go_expr_core.specs.Places.{inside, under_place, left_place, whole, place_role}
use Rattle.go_expr_core.specs.Uses.{Spot, Identifier, CallAt, role_of, use_of, type_name_spots, type_spots, fields_spots, methods_spots, signature_spots, result_spots, params_spots, key_spots, spots, args_spots, items_spots}
use Rattle.go_expr_core.specs.Laws.{context_of, use_place, occurrence_place, UsesAreOccurrences}

abbrev spot_place : {T D P : Type 0} → Spot T D P → ℕ × Role
spot_place (Identifier c x) = (x.span.start, role_of c)
spot_place (CallAt s o) = (s.start, roles.Call)

placed_uses : {T S D P : Type 0} (looks : Looks T S D P) (xs : List (Spot T D P)) → map use_place (map (use_of looks) xs) ≡ map spot_place xs
placed_uses looks [] = refl
placed_uses looks (Identifier c x ∷ xs) = ap (λ l. (x.span.start, role_of c) ∷ l) (placed_uses looks xs)
placed_uses looks (CallAt s o ∷ xs) = ap (λ l. (s.start, roles.Call) ∷ l) (placed_uses looks xs)

-- two pieces
joined : {T D P : Type 0} (xs ys : List (Spot T D P)) (os qs : List Occ) → map spot_place xs ≡ map occurrence_place os → map spot_place ys ≡ map occurrence_place qs → map spot_place (xs ++ ys) ≡ map occurrence_place (os ++ qs)
joined xs ys os qs e f =
    map-append spot_place xs ys ∙ (ap (λ l. l ++ map spot_place ys) e ∙ (ap (λ l. map occurrence_place os ++ l) f ∙ sym (map-append occurrence_place os qs)))

-- types

named_occurs : {T S D P : Type 0} (looks : Looks T S D P) (n : TypeName) → map spot_place (type_name_spots looks n) ≡ map occurrence_place (occ.type_name_occs n)
named_occurs looks (type_names.Plain x) = refl
named_occurs looks (type_names.Qualified p dot x) = refl

mutual
  type_occurs : {T S D P : Type 0} (looks : Looks T S D P) (t : TypeTree) → map spot_place (type_spots looks t) ≡ map occurrence_place (occ.type_occs t)
  type_occurs looks (NamedType n) = named_occurs looks n
  type_occurs looks (Pointer star t) = type_occurs looks t
  type_occurs looks (ParenType first t last) = type_occurs looks t
  type_occurs looks (Struct k first ls last) = fields_occur looks ls
  type_occurs looks (Interface k first methods last) = methods_occur looks methods

  fields_occur : {T S D P : Type 0} (looks : Looks T S D P) (ls : FieldTrees) → map spot_place (fields_spots looks ls) ≡ map occurrence_place (occ.fields_occs ls)
  fields_occur looks NoFields = refl
  fields_occur looks (NamedFields xs t tag s rest) = joined _ _ _ _ (type_occurs looks t) (fields_occur looks rest)
  fields_occur looks (EmbeddedField star n tag s rest) = joined _ _ _ _ (named_occurs looks n) (fields_occur looks rest)

  methods_occur : {T S D P : Type 0} (looks : Looks T S D P) (ms : MethodTrees) → map spot_place (methods_spots looks ms) ≡ map occurrence_place (occ.methods_occs ms)
  methods_occur looks NoMethods = refl
  methods_occur looks (Method x signature s rest) = joined _ _ _ _ (signature_occurs looks signature) (methods_occur looks rest)

  signature_occurs : {T S D P : Type 0} (looks : Looks T S D P) (s : SignatureTree) → map spot_place (signature_spots looks s) ≡ map occurrence_place (occ.signature_occs s)
  signature_occurs looks (Signed first params last result) = joined _ _ _ _ (params_occur looks params) (result_occurs looks result)

  result_occurs : {T S D P : Type 0} (looks : Looks T S D P) (r : ResultTree) → map spot_place (result_spots looks r) ≡ map occurrence_place (occ.result_occs r)
  result_occurs looks NoResult = refl
  result_occurs looks (OneResult t) = type_occurs looks t
  result_occurs looks (Results first params last) = params_occur looks params

  params_occur : {T S D P : Type 0} (looks : Looks T S D P) (ps : ParamTrees) → map spot_place (params_spots looks ps) ≡ map occurrence_place (occ.params_occs ps)
  params_occur looks NoParams = refl
  params_occur looks (Param xs t comma rest) = joined _ _ _ _ (type_occurs looks t) (params_occur looks rest)

-- expressions

name_occurs : (p : Stand) (x : Ident) → (x.span.start, place_role p) ∷ [] ≡ map occurrence_place (occ.named_occs (context_of p) x)
name_occurs stands.«Type» x = refl
name_occurs stands.TypeDot x = refl
name_occurs stands.«Value» x = refl
name_occurs stands.Callee x = refl
name_occurs stands.BeforeDot x = refl

inside_same : (p : Stand) → context_of (inside p) ≡ occ.inside_context (context_of p)
inside_same stands.«Type» = refl
inside_same stands.TypeDot = refl
inside_same stands.«Value» = refl
inside_same stands.Callee = refl
inside_same stands.BeforeDot = refl

under_same : (op : Operator) (p : Stand) → context_of (under_place op p) ≡ occ.under op (context_of p)
under_same operators.Star stands.«Type» = refl
under_same operators.Star stands.TypeDot = refl
under_same operators.Star stands.«Value» = refl
under_same operators.Star stands.Callee = refl
under_same operators.Star stands.BeforeDot = refl
under_same _ p = refl

whole_same : (p : Stand) → whole p ≡ occ.whole_usage (context_of p)
whole_same stands.«Type» = refl
whole_same stands.TypeDot = refl
whole_same stands.«Value» = refl
whole_same stands.Callee = refl
whole_same stands.BeforeDot = refl

under_value : (op : Operator) → occ.under op contexts.«Value» ≡ occ.under op contexts.BeforeDot
under_value operators.Star = refl
under_value _ = refl

left_name : (p : Stand) (x : Ident) → occ.named_occs (context_of (left_place p (Named x))) x ≡ occ.named_occs contexts.BeforeDot x
left_name stands.«Type» x = refl
left_name stands.TypeDot x = refl
left_name stands.«Value» x = refl
left_name stands.Callee x = refl
left_name stands.BeforeDot x = refl

-- left of a dot
left_same : (p : Stand) (e : ExprTree) → occ.expr_occs (context_of (left_place p e)) e ≡ occ.expr_occs contexts.BeforeDot e
left_same p (Integer n span) = refl
left_same p (Text t) = refl
left_same p (Named x) = left_name p x
left_same p (Paren first e last) = refl
left_same p (Unary op span e) = ap (λ c. occ.expr_occs c e) (under_value op)
left_same p (Binary a op span b) = refl
left_same p (Select e dot x) = refl
left_same p (Call e first items last) = refl
left_same p (Literal n first items last) = refl
left_same p (StructLiteral t first items last) = refl

key_occurs : {T : Type 0} (D P : Type 0) (t : Option T) (m : Bool) (others : List (List ℕ)) (key : Option Key) → map spot_place (key_spots {T = T} {D = D} {P = P} t m others key) ≡ map occurrence_place (occ.key_occs key)
key_occurs D P t m others None = refl
key_occurs D P t m others (Some k) = refl

mutual
  occurs : {T S D P : Type 0} (looks : Looks T S D P) (p : Stand) (header : Bool) (e : ExprTree) → Wf header e → map spot_place (spots looks p e) ≡ map occurrence_place (occ.expr_occs (context_of p) e)
  occurs looks p header (Integer n span) w = refl
  occurs looks p header (Text t) w = refl
  occurs looks p header (Named x) w = name_occurs p x
  occurs looks p header (Paren first e last) w = occurs looks (inside p) false e w ∙ ap (λ c. map occurrence_place (occ.expr_occs c e)) (inside_same p)
  occurs looks p header (Unary op span e) w = occurs looks (under_place op p) header e w.1 ∙ ap (λ c. map occurrence_place (occ.expr_occs c e)) (under_same op p)
  occurs looks p header (Binary a op span b) w = joined _ _ _ _ (occurs looks stands.«Value» header a w.1) (occurs looks stands.«Value» header b w.3)
  occurs looks p header (Select e dot x) w =
      joined _ _ _ _ (occurs looks (left_place p e) header e w.0 ∙ ap (map occurrence_place) (left_same p e)) (ap (λ u. (x.span.start, roles.Selector u) ∷ []) (whole_same p))
  occurs looks p header (Call e first items last) w =
      joined _ _ _ _ (occurs looks stands.Callee header e w.0) (ap (λ l. (first.start, roles.Call) ∷ l) (args_occur looks items w.2))
  occurs looks p header (Literal n first items last) w = joined _ _ _ _ (named_occurs looks n) (items_occur looks _ _ [] items w.1)
  occurs looks p header (StructLiteral t first items last) w = joined _ _ _ _ (type_occurs looks t) (items_occur looks _ _ [] items w.2)

  args_occur : {T S D P : Type 0} (looks : Looks T S D P) (items : ItemTrees) → Wf_items false items → map spot_place (args_spots looks items) ≡ map occurrence_place (occ.items_occs items)
  args_occur looks NoItems w = refl
  args_occur looks (Item None e comma rest) w = joined _ _ _ _ (occurs looks stands.«Value» false e w.1) (args_occur looks rest w.3)
  args_occur looks (Item (Some k) e comma rest) w = absurd w.0

  items_occur : {T S D P : Type 0} (looks : Looks T S D P) (t : Option T) (m : Bool) (before : List (List ℕ)) (items : ItemTrees) → Wf_items true items → map spot_place (items_spots looks t m before items) ≡ map occurrence_place (occ.items_occs items)
  items_occur looks t m before NoItems w = refl
  items_occur {T} {S} {D} {P} looks t m before (Item key e comma rest) w =
      joined _ _ _ _ (key_occurs D P t m _ key) (joined _ _ _ _ (occurs looks stands.«Value» false e w.1) (items_occur looks t m _ rest w.3))

pub uses_occur : (T S D P : Type 0) → UsesAreOccurrences T S D P
uses_occur T S D P = record {
  expressions = λ looks p header e w. placed_uses looks (spots looks p e) ∙ occurs looks p header e w;
  types = λ looks t. placed_uses looks (type_spots looks t) ∙ type_occurs looks t;
}
