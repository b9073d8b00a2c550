-- What each identifier and each call of an expression has, in order of their places. What an identifier has is its context's rule at its
-- own spelling, and the context is computed without this spelling.
--
-- docs/RULES.md, "Occurrences", "Expressions: roles, order, faults of parts".
use Rattle.std.specs.Prelude.{ℕ, Bool, true, List, [], ◌∷◌, ◌++◌, map, Option, Some, None}
use Rattle.go_denote_core.specs.text_core.declared.span.Span.{Span}
use Rattle.go_tree_nodes.specs.declared.names.Ident.{Ident}
use Rattle.go_tree_nodes.specs.declared.types.TypeName.{TypeName}
use Rattle.go_tree_nodes.specs.declared.types.TypeName.TheVariants as type_names
use Rattle.go_tree_nodes.specs.declared.exprs.Key.{Key}
use Rattle.go_tree_nodes.specs.declared.usage.Usage.{Usage}
use Rattle.go_tree_nodes.specs.declared.usage.Usage.TheVariants as usages
use Rattle.go_tree_nodes.specs.Trees.{TypeTree, FieldTrees, MethodTrees, SignatureTree, ResultTree, ParamTrees, NamedType, Pointer, ParenType, Struct, Interface, NoFields, NamedFields, EmbeddedField, NoMethods, Method, Signed, NoResult, OneResult, Results, NoParams, Param, ExprTree, ItemTrees, Integer, Text, Named, Paren, Unary, Binary, Select, Call, Literal, StructLiteral, NoItems, Item}
use Rattle.go_tree_core.specs.declared.occurrence.Role.{Role}
use Rattle.go_tree_core.specs.declared.occurrence.Role.TheVariants as roles
use Rattle.go_denote_core.specs.declared.things.Stand.{Stand}
use Rattle.go_denote_core.specs.declared.things.Stand.TheVariants as stands
use Rattle.go_denote_core.specs.declared.things.Dot.{Dot}
use Rattle.go_denote_core.specs.declared.things.Outcome.{Outcome}
use Rattle.go_denote_core.specs.Answers.{name_answer}
use Rattle.go_denote_core.specs.Selectors.{dot_of, selector_answer}
use Rattle.go_denote_core.specs.Arguments.{arguments_of, is_free}
use Rattle.go_denote_core.specs.Calls.{call_answer}
use Rattle.go_denote_core.specs.composite.Keys.{KeyContext, key_rule}
use Rattle.go_expr_core.specs.declared.things.Use.{Use}
use Rattle.go_expr_core.specs.Looks.{Looks, look_of_place, literals_at}
use Rattle.go_expr_core.specs.Places.{inside, under_place, left_place, whole, is_name, is_lone_call, place_role}
use Rattle.go_expr_core.specs.Denoting.{ident_answer, named_type, written_type, denoted, denoted_items, called_answer}
use Rattle.go_expr_core.specs.Elements.{key_names, all_keys, keys_of, is_mixed, key_context}

-- what the outcome of an identifier depends on, beside its spelling
pub data Context (T D : Type 0) : Type 0 where
  -- a name alone, where it stands
  NameAt : Stand → Context T D
  -- a selector, by how the whole is used and what stands left of its dot
  SelectorBehind : Usage → Dot T D → Context T D
  -- a key, by its literal and the other keys
  KeyAmong : KeyContext T → Context T D

-- an identifier in its context, or a call with what it has
pub data Spot (T D P : Type 0) : Type 0 where
  Identifier : Context T D → Ident → Spot T D P
  CallAt : Span → Outcome D P → Spot T D P

-- the outcome of a name at an offset, which the context leaves open
abbrev pub rule : {T S D P : Type 0} → Looks T S D P → Context T D → ℕ → List ℕ → Outcome D P
rule looks (NameAt p) offset name = (name_answer (look_of_place looks offset) p name).outcome
rule looks (SelectorBehind u dot) offset name = (selector_answer (look_of_place looks offset) u dot name).outcome
rule looks (KeyAmong k) offset name = key_rule (literals_at looks offset) k name

abbrev pub role_of : {T D : Type 0} → Context T D → Role
role_of (NameAt p) = place_role p
role_of (SelectorBehind u dot) = roles.Selector u
role_of (KeyAmong k) = roles.Key

abbrev pub made_use : {D P : Type 0} → ℕ → Role → Outcome D P → Use D P
made_use offset role outcome = record { offset = offset; role = role; outcome = outcome }

abbrev pub use_of : {T S D P : Type 0} → Looks T S D P → Spot T D P → Use D P
use_of looks (Identifier c x) = made_use x.span.start (role_of c) (rule looks c x.span.start x.name)
use_of looks (CallAt s o) = made_use s.start roles.Call o

-- types

abbrev pub type_name_spots : {T S D P : Type 0} → Looks T S D P → TypeName → List (Spot T D P)
type_name_spots looks (type_names.Plain x) = Identifier (NameAt stands.«Type») x ∷ []
type_name_spots looks (type_names.Qualified p dot x) =
    Identifier (NameAt stands.TypeDot) p ∷ (Identifier (SelectorBehind usages.«Type» (dot_of true (ident_answer looks stands.TypeDot p).denoted)) x ∷ [])

abbrev mutual
  pub type_spots : {T S D P : Type 0} → Looks T S D P → TypeTree → List (Spot T D P)
  type_spots looks (NamedType n) = type_name_spots looks n
  type_spots looks (Pointer star t) = type_spots looks t
  type_spots looks (ParenType first t last) = type_spots looks t
  type_spots looks (Struct k first ls last) = fields_spots looks ls
  type_spots looks (Interface k first methods last) = methods_spots looks methods

  pub fields_spots : {T S D P : Type 0} → Looks T S D P → FieldTrees → List (Spot T D P)
  fields_spots looks NoFields = []
  fields_spots looks (NamedFields xs t tag s rest) = type_spots looks t ++ fields_spots looks rest
  fields_spots looks (EmbeddedField star n tag s rest) = type_name_spots looks n ++ fields_spots looks rest

  pub methods_spots : {T S D P : Type 0} → Looks T S D P → MethodTrees → List (Spot T D P)
  methods_spots looks NoMethods = []
  methods_spots looks (Method x signature s rest) = signature_spots looks signature ++ methods_spots looks rest

  pub signature_spots : {T S D P : Type 0} → Looks T S D P → SignatureTree → List (Spot T D P)
  signature_spots looks (Signed first params last result) = params_spots looks params ++ result_spots looks result

  pub result_spots : {T S D P : Type 0} → Looks T S D P → ResultTree → List (Spot T D P)
  result_spots looks NoResult = []
  result_spots looks (OneResult t) = type_spots looks t
  result_spots looks (Results first params last) = params_spots looks params

  pub params_spots : {T S D P : Type 0} → Looks T S D P → ParamTrees → List (Spot T D P)
  params_spots looks NoParams = []
  params_spots looks (Param xs t comma rest) = type_spots looks t ++ params_spots looks rest

-- expressions

abbrev pub key_spots : {T D P : Type 0} → Option T → Bool → List (List ℕ) → Option Key → List (Spot T D P)
key_spots t mixed others None = []
key_spots t mixed others (Some k) = Identifier (KeyAmong (key_context t mixed others)) k.name ∷ []

abbrev mutual
  pub spots : {T S D P : Type 0} → Looks T S D P → Stand → ExprTree → List (Spot T D P)
  spots looks p (Integer n span) = []
  spots looks p (Text t) = []
  spots looks p (Named x) = Identifier (NameAt p) x ∷ []
  spots looks p (Paren first e last) = spots looks (inside p) e
  spots looks p (Unary op span e) = spots looks (under_place op p) e
  spots looks p (Binary a op span b) = spots looks stands.«Value» a ++ spots looks stands.«Value» b
  spots looks p (Select e dot x) = spots looks (left_place p e) e ++ (Identifier (SelectorBehind (whole p) (dot_of (is_name e) (denoted looks (left_place p e) e))) x ∷ [])
  spots looks p (Call e first items last) =
      spots looks stands.Callee e
      ++ (CallAt first (call_answer (look_of_place looks first.start) (denoted looks stands.Callee e) (is_free (is_lone_call items) (denoted_items looks items)) (arguments_of (look_of_place looks first.start) (denoted_items looks items))).outcome
      ∷ args_spots looks items)
  spots looks p (Literal n first items last) = type_name_spots looks n ++ items_spots looks (named_type looks n) (is_mixed (keys_of items)) [] items
  spots looks p (StructLiteral t first items last) = type_spots looks t ++ items_spots looks (written_type looks t) (is_mixed (keys_of items)) [] items

  -- arguments, which have no keys
  pub args_spots : {T S D P : Type 0} → Looks T S D P → ItemTrees → List (Spot T D P)
  args_spots looks NoItems = []
  args_spots looks (Item key e comma rest) = spots looks stands.«Value» e ++ args_spots looks rest

  -- elements behind others with these keys
  pub items_spots : {T S D P : Type 0} → Looks T S D P → Option T → Bool → List (List ℕ) → ItemTrees → List (Spot T D P)
  items_spots looks t mixed before NoItems = []
  items_spots looks t mixed before (Item key e comma rest) =
      key_spots t mixed (before ++ all_keys rest) key ++ (spots looks stands.«Value» e ++ items_spots looks t mixed (before ++ key_names key) rest)

-- what identifiers and calls have

abbrev pub uses : {T S D P : Type 0} → Looks T S D P → Stand → ExprTree → List (Use D P)
uses looks p e = map (use_of looks) (spots looks p e)

abbrev pub ident_use : {T S D P : Type 0} → Looks T S D P → Stand → Ident → Use D P
ident_use looks p x = use_of looks (Identifier (NameAt p) x)

abbrev pub behind_use : {T S D P : Type 0} → Looks T S D P → Usage → Dot T D → Ident → Use D P
behind_use looks u dot x = use_of looks (Identifier (SelectorBehind u dot) x)

abbrev pub type_name_uses : {T S D P : Type 0} → Looks T S D P → TypeName → List (Use D P)
type_name_uses looks n = map (use_of looks) (type_name_spots looks n)

abbrev pub select_uses : {T S D P : Type 0} → Looks T S D P → Stand → ExprTree → Ident → List (Use D P)
select_uses looks p e x = uses looks (left_place p e) e ++ (use_of looks (Identifier (SelectorBehind (whole p) (dot_of (is_name e) (denoted looks (left_place p e) e))) x) ∷ [])

abbrev pub args_uses : {T S D P : Type 0} → Looks T S D P → ItemTrees → List (Use D P)
args_uses looks items = map (use_of looks) (args_spots looks items)

abbrev pub call_uses : {T S D P : Type 0} → Looks T S D P → ExprTree → Span → ItemTrees → List (Use D P)
call_uses looks e first items = uses looks stands.Callee e ++ made_use first.start roles.Call (called_answer looks e first items).outcome ∷ args_uses looks items

abbrev pub key_uses : {T S D P : Type 0} → Looks T S D P → Option T → Bool → List (List ℕ) → Option Key → List (Use D P)
key_uses {T} {S} {D} {P} looks t mixed others key = map (use_of looks) (key_spots {T = T} {D = D} {P = P} t mixed others key)

abbrev pub items_uses : {T S D P : Type 0} → Looks T S D P → Option T → Bool → List (List ℕ) → ItemTrees → List (Use D P)
items_uses looks t mixed before items = map (use_of looks) (items_spots looks t mixed before items)

abbrev pub elements_uses : {T S D P : Type 0} → Looks T S D P → Option T → ItemTrees → List (Use D P)
elements_uses looks t items = items_uses looks t (is_mixed (keys_of items)) [] items
