-- Where an identifier stands that is spelled anew in an initialiser, or in a type outside functions: names mean there what they mean at the top of the file.
use Rattle.std.proofs.Common.{◌≡◌, inl, inr, ℕ, zero, suc, true, List, [], ◌∷◌, ◌++◌, map, Option, Some, None, sym, ap, subst, arith}
use Rattle.std.specs.Prelude.{All, Contains, slice_get}
use Rattle.std.specs.List.{flat_map}
use Rattle.std.proofs.lemmas.List.Elements.{All-nil, All-cons, All-append, All-contains, Contains-append_left, Contains-append_right, Contains-append_cases}
use Rattle.go_site_core.specs.text_core.declared.span.Span.{Span}
use Rattle.go_tree_nodes.specs.declared.names.Ident.{Ident}
use Rattle.go_tree_nodes.specs.declared.usage.Usage.TheVariants as usages
use Rattle.go_tree_nodes.specs.declared.decls.ValueKind.TheVariants as kinds
use Rattle.go_tree_nodes.specs.declared.files.Receiver.{Receiver}
use Rattle.go_tree_nodes.specs.declared.types.TypeName.{TypeName}
use Rattle.go_tree_nodes.specs.declared.types.TypeName.TheVariants as type_names
use Rattle.go_tree_nodes.specs.Trees.{One, TypeTree, FieldTrees, MethodTrees, SignatureTree, ResultTree, ParamTrees, NamedType, Pointer, ParenType, Struct, Interface, NoFields, NamedFields, EmbeddedField, NoMethods, Method, Signed, NoResult, OneResult, Results, NoParams, Param, ValueSpecTree, TypeSpecTree, Specs, FuncTree, DeclTree, TopTree, of_specs}
use Rattle.go_term_core.specs.Terms.{Term, Sign}
use Rattle.go_cursor_core.specs.denote_core.declared.things.Stand.{Stand}
use Rattle.go_cursor_core.specs.denote_core.declared.things.Stand.TheVariants as stands
use Rattle.go_cursor_core.specs.denote_core.Selectors.{dot_of}
use Rattle.go_stmt_core.specs.expr_core.Denoting.{ident_answer}
use Rattle.go_stmt_core.specs.expr_core.Respelling.{RespellsType}
use Rattle.go_stmt_core.specs.expr_core.Uses.{Context, NameAt, SelectorBehind, Identifier, CallAt, type_name_spots, type_spots, fields_spots, methods_spots, signature_spots, result_spots, params_spots}
use Rattle.go_value_core.specs.env_core.Looks.{TheLooks}
use Rattle.go_query_core.specs.body_core.FunctionStands.{FileStand, outer_look, outer_looks}
use Rattle.go_query_core.specs.complete_core.PlacePlacing.{none_has, more_has}
use Rattle.go_site_core.specs.handle_core.Declarations.{Declaration}
use Rattle.go_query_core.specs.complete_core.SpellingFiles.{WritesInGroup, AtFirst, AtLater, WritesInSpecs, InTheOnly, InTheGroup, WritesInTops, InTop, InLaterTops}
use Rattle.go_query_core.specs.complete_core.SpellingFunctions.{TheSpot}
use Rattle.go_query_core.specs.complete_core.SpellingOuter.{RespellsTypeGroup, InFirstType, InLaterTypes, RespellsTypeSpecs, InOneType, InTypeGroup, RespellsOuterType, InValueType, InTypeDecl, InReceiverType, InHeaderType, RespellsOuterTops, InOuterTop, BehindOuterTop}
use Rattle.go_query_core.specs.complete_core.SpellingPieceSpots.{spec_spots, values_spots, receiver_spots, header_spots}
use Rattle.go_query_core.specs.complete_core.SpellingPlaces.{PlacedSpot, placed_spot, func_places, decl_places, tops_places}
use Rattle.go_query_core.specs.complete_core.SpellingTrees.{RespellsValues, InSomeValues, InSpecType, InReceiver, InSignature, InSpec, value_spec_with}
use Rattle.go_query_core.specs.complete_core.SpellingPieces.{pieces_stay}

-- lists

pub get_has : {A : Type 0} (xs : List A) (k : ℕ) (x : A) → slice_get xs k ≡ Some x → Contains xs x
get_has [] k x h = absurd (let no : None ≡ Some x = h in cc)
get_has (y ∷ xs) zero x h = (let same : y ≡ x = (let s : Some y ≡ Some x = h in cc) in (0, omega arith, same))
get_has (y ∷ xs) (suc k) x h = more_has y x xs (get_has xs k x h)

map_has : {A B : Type 0} (f : A → B) (xs : List A) (x : A) → Contains xs x → Contains (map f xs) (f x)
map_has f [] x h = absurd (none_has x h)
map_has f (y ∷ xs) x (zero, below, same) = (0, omega arith, ap f same)
map_has f (y ∷ xs) x (suc k, below, same) = more_has (f y) (f x) (map f xs) (map_has f xs x (k, omega arith, same))

without_nil : {A : Type 0} (xs : List A) (x : A) → Contains (xs ++ []) x → Contains xs x
without_nil xs x h = elim (Contains-append_cases xs [] x h) [ inl a ↦ a | inr b ↦ absurd (none_has x b) ]

-- the contexts in types: a name alone, and one behind the name left of the dot of a type
pub data IsTypeContext (looks : TheLooks) : Context Term Declaration → Type 0 where
  Alone : {s : Stand} → IsTypeContext looks (NameAt s)
  Behind : (q : Ident) → IsTypeContext looks (SelectorBehind usages.«Type» (dot_of true (ident_answer looks stands.TypeDot q).denoted))

abbrev IsTypeSpot : TheLooks → TheSpot → Type 0
IsTypeSpot looks (Identifier c x) = IsTypeContext looks c
IsTypeSpot looks (CallAt s o) = ⊥

module _ (looks : TheLooks) where
  abbrev Each : List TheSpot → Type 0
  Each ss = All (IsTypeSpot looks) ss

  both : (ss ts : List TheSpot) → Each ss → Each ts → Each (ss ++ ts)
  both ss ts h k = All-append (IsTypeSpot looks) ss ts h k

  none : Each []
  none = All-nil (IsTypeSpot looks)

  name_each : (n : TypeName) → Each (type_name_spots looks n)
  name_each (type_names.Plain x) = All-cons (IsTypeSpot looks) _ [] Alone none
  name_each (type_names.Qualified p dot x) = All-cons (IsTypeSpot looks) _ (_ ∷ []) Alone (All-cons (IsTypeSpot looks) _ [] (Behind p) none)

  mutual
    type_each : (t : TypeTree) → Each (type_spots looks t)
    type_each (NamedType n) = name_each n
    type_each (Pointer star t) = type_each t
    type_each (ParenType first t last) = type_each t
    type_each (Struct k first ls last) = fields_each ls
    type_each (Interface k first ms last) = methods_each ms

    fields_each : (ls : FieldTrees) → Each (fields_spots looks ls)
    fields_each NoFields = none
    fields_each (NamedFields xs t tag s rest) = both (type_spots looks t) (fields_spots looks rest) (type_each t) (fields_each rest)
    fields_each (EmbeddedField star n tag s rest) = both (type_name_spots looks n) (fields_spots looks rest) (name_each n) (fields_each rest)

    methods_each : (ms : MethodTrees) → Each (methods_spots looks ms)
    methods_each NoMethods = none
    methods_each (Method x g s rest) = both (signature_spots looks g) (methods_spots looks rest) (signature_each g) (methods_each rest)

    signature_each : (g : SignatureTree) → Each (signature_spots looks g)
    signature_each (Signed first params last result) = both (params_spots looks params) (result_spots looks result) (params_each params) (result_each result)

    result_each : (q : ResultTree) → Each (result_spots looks q)
    result_each NoResult = none
    result_each (OneResult t) = type_each t
    result_each (Results first params last) = params_each params

    params_each : (ps : ParamTrees) → Each (params_spots looks ps)
    params_each NoParams = none
    params_each (Param xs t comma rest) = both (type_spots looks t) (params_spots looks rest) (type_each t) (params_each rest)

  receiver_each : (q : Option Receiver) → Each (receiver_spots looks q)
  receiver_each None = none
  receiver_each (Some q) = name_each q.base

  header_each : (q : Option Receiver) (g : SignatureTree) → Each (header_spots looks q g)
  header_each q g = both (receiver_spots looks q) (signature_spots looks g) (receiver_each q) (signature_each g)

  -- the identifier among some spots, in such a context
  record IsInType (ss : List TheSpot) (x : Ident) : Type 0 where
    context : Context Term Declaration
    among : Contains ss (Identifier context x)
    of_type : IsTypeContext looks context

  there : (ss : List TheSpot) (x : Ident) (c : Context Term Declaration) → Contains ss (Identifier c x) → Each ss → IsInType ss x
  there ss x c h each = record { context = c; among = h; of_type = All-contains (IsTypeSpot looks) ss (Identifier c x) each h }

  in_type : (x : Ident) (name : List ℕ) (t u : TypeTree) → RespellsType x name t u → IsInType (type_spots looks t) x
  in_type x name t u r =
      let it = (pieces_stay Term Sign Declaration (List ℕ)).stays looks x name _ _ (InSpec {k = kinds.Var} (InSpecType {xs = One x} {vs = None} r)) in
      there (type_spots looks t) x it.context (without_nil (type_spots looks t) _ (get_has _ it.number _ it.stands)) (type_each t)

-- among all that the declarations of a file have

pub record IsOutside (st : FileStand) (P : Context Term Declaration → Type 0) (ps : List PlacedSpot) (x : Ident) : Type 0 where
  pub context : Context Term Declaration
  pub among : Contains ps (placed_spot (outer_look st) (Identifier context x))
  pub holds : P context

module _ (st : FileStand) (P : Context Term Declaration → Type 0) (x : Ident) where
  abbrev Outside : List PlacedSpot → Type 0
  Outside ps = IsOutside st P ps x

  in_first : (ps qs : List PlacedSpot) → Outside ps → Outside (ps ++ qs)
  in_first ps qs h = record { context = h.context; among = Contains-append_left ps qs _ h.among; holds = h.holds }

  in_second : (ps qs : List PlacedSpot) → Outside qs → Outside (ps ++ qs)
  in_second ps qs h = record { context = h.context; among = Contains-append_right ps qs _ h.among; holds = h.holds }

  -- an identifier among spots
  record Among (ss : List TheSpot) : Type 0 where
    context : Context Term Declaration
    among : Contains ss (Identifier context x)
    holds : P context

  first_among : (ss ts : List TheSpot) → Among ss → Among (ss ++ ts)
  first_among ss ts h = record { context = h.context; among = Contains-append_left ss ts _ h.among; holds = h.holds }

  second_among : (ss ts : List TheSpot) → Among ts → Among (ss ++ ts)
  second_among ss ts h = record { context = h.context; among = Contains-append_right ss ts _ h.among; holds = h.holds }

  placed : (ss : List TheSpot) → Among ss → Outside (map (placed_spot (outer_look st)) ss)
  placed ss h = record { context = h.context; among = map_has (placed_spot (outer_look st)) ss (Identifier h.context x) h.among; holds = h.holds }

  -- of a specification that is written in one place

  abbrev specs_of : List (ValueSpecTree × Option Span) → List TheSpot
  specs_of ls = flat_map (λ l. spec_spots (outer_looks st) l.0) ls

  module _ (v w : ValueSpecTree) (h : Among (spec_spots (outer_looks st) v)) where
    in_group : (vs ws : List (ValueSpecTree × Option Span)) → WritesInGroup v w vs ws → Among (specs_of vs)
    in_group vs ws (AtFirst {more = more}) = first_among (spec_spots (outer_looks st) v) (specs_of more) h
    in_group vs ws (AtLater {u = u} {more = more} {rest = rest} s) = second_among (spec_spots (outer_looks st) u.0) (specs_of more) (in_group more rest s)

    in_specs : (vs ws : Specs ValueSpecTree) → WritesInSpecs v w vs ws → Among (of_specs (spec_spots (outer_looks st)) vs)
    in_specs vs ws InTheOnly = h
    in_specs vs ws (InTheGroup {vs = olds} {ws = news} s) = in_group olds news s

    in_values : (ds es : List TopTree) → WritesInTops v w ds es → Outside (tops_places st ds)
    in_values ds es (InTop {vs = vs} {ws = ws} {more = more} s) = in_first (map (placed_spot (outer_look st)) (of_specs (spec_spots (outer_looks st)) vs)) (tops_places st more) (placed (of_specs (spec_spots (outer_looks st)) vs) (in_specs vs ws s))
    in_values ds es (InLaterTops {d = d} {more = more} {rest = rest} s) = in_second (decl_places st d.decl) (tops_places st more) (in_values more rest s)

abbrev pub Anything : Context Term Declaration → Type 0
Anything c = Unit {0}

-- in an initialiser
pub in_initialiser : (st : FileStand) (x : Ident) (name : List ℕ) (v w : ValueSpecTree) (ds es : List TopTree) → RespellsValues x name v w → WritesInTops v w ds es → IsOutside st Anything (tops_places st ds) x
in_initialiser st x name v w ds es r s =
    let it = (pieces_stay Term Sign Declaration (List ℕ)).stays (outer_looks st) x name _ _ (InSpec {k = kinds.Var} (InSomeValues r)) in
    in_values st Anything x v w (record { context = it.context; among = get_has (spec_spots (outer_looks st) v) it.number _ it.stands; holds = tt }) ds es s

-- in a type outside functions

module _ (st : FileStand) (x : Ident) (name : List ℕ) where
  abbrev Q : Context Term Declaration → Type 0
  Q c = IsTypeContext (outer_looks st) c

  abbrev InSpots : List TheSpot → Type 0
  InSpots ss = Among st Q x ss

  type_among : (t u : TypeTree) → RespellsType x name t u → InSpots (type_spots (outer_looks st) t)
  type_among t u r = (let it = in_type (outer_looks st) x name t u r in record { context = it.context; among = it.among; holds = it.of_type })

  abbrev types_of : List (TypeSpecTree × Option Span) → List TheSpot
  types_of ls = flat_map (λ l. type_spots (outer_looks st) l.0.type_expr) ls

  in_types : (ts us : List (TypeSpecTree × Option Span)) → RespellsTypeGroup x name ts us → InSpots (types_of ts)
  in_types ts us (InFirstType {t = t} {u = u} {more = more} r) = first_among st Q x (type_spots (outer_looks st) t.type_expr) (types_of more) (type_among t.type_expr u r)
  in_types ts us (InLaterTypes {a = a} {more = more} {rest = rest} r) = second_among st Q x (type_spots (outer_looks st) a.0.type_expr) (types_of more) (in_types more rest r)

  in_type_specs : (ts us : Specs TypeSpecTree) → RespellsTypeSpecs x name ts us → InSpots (of_specs (λ (s : TypeSpecTree). type_spots (outer_looks st) s.type_expr) ts)
  in_type_specs ts us (InOneType {t = t} {u = u} r) = type_among t.type_expr u r
  in_type_specs ts us (InTypeGroup {ts = olds} {us = news} r) = in_types olds news r

  in_header : (f : FuncTree) → InSpots (header_spots (outer_looks st) f.receiver f.signature) → IsOutside st Q (func_places st f) x
  in_header f h = in_first st Q x (map (placed_spot (outer_look st)) (header_spots (outer_looks st) f.receiver f.signature)) _ (placed st Q x (header_spots (outer_looks st) f.receiver f.signature) h)

  header_among : (q : Option Receiver) (g : SignatureTree) (c : Context Term Declaration) → Contains (header_spots (outer_looks st) q g) (Identifier c x) → InSpots (header_spots (outer_looks st) q g)
  header_among q g c h = record { context = c; among = h; holds = All-contains (IsTypeSpot (outer_looks st)) (header_spots (outer_looks st) q g) (Identifier c x) (header_each (outer_looks st) q g) h }

  in_decl : (d e : DeclTree) → RespellsOuterType x name d e → IsOutside st Q (decl_places st d) x
  in_decl d e (InValueType {vs = vs} {ws = ws} {xs = xs} {t = t} {u = u} {values = values} r s) =
      placed st Q x (of_specs (spec_spots (outer_looks st)) vs)
      (in_specs st Q x (value_spec_with xs (Some t) values) (value_spec_with xs (Some u) values) (first_among st Q x (type_spots (outer_looks st) t) (values_spots (outer_looks st) values) (type_among t u r)) vs ws s)
  in_decl d e (InTypeDecl {ts = ts} {us = us} r) = placed st Q x (of_specs (λ (s : TypeSpecTree). type_spots (outer_looks st) s.type_expr) ts) (in_type_specs ts us r)
  in_decl d e (InReceiverType {f = f} {r = q} {n = n} is r) =
      let it = (pieces_stay Term Sign Declaration (List ℕ)).stays (outer_looks st) x name _ _ (InReceiver {r = q} {g = f.signature} r) in
      in_header f (header_among f.receiver f.signature it.context (subst (λ (p : Option Receiver). Contains (header_spots (outer_looks st) p f.signature) (Identifier it.context x)) (sym is) (get_has (header_spots (outer_looks st) (Some q) f.signature) it.number _ it.stands)))
  in_decl d e (InHeaderType {f = f} {g = g} r) =
      let it = (pieces_stay Term Sign Declaration (List ℕ)).stays (outer_looks st) x name _ _ (InSignature {r = f.receiver} r) in
      in_header f (header_among f.receiver f.signature it.context (get_has (header_spots (outer_looks st) f.receiver f.signature) it.number _ it.stands))

  pub in_outer : (ds es : List TopTree) → RespellsOuterTops x name ds es → IsOutside st Q (tops_places st ds) x
  in_outer ds es (InOuterTop {d = d} {e = e} {more = more} r) = in_first st Q x (decl_places st d) (tops_places st more) (in_decl d e r)
  in_outer ds es (BehindOuterTop {d = d} {more = more} {rest = rest} r) = in_second st Q x (decl_places st d.decl) (tops_places st more) (in_outer more rest r)
