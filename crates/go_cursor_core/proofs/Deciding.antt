-- The spot of an identifier decides its context.
use Rattle.std.proofs.Common.{◌≡◌, ℕ, ◌+◌, suc, Bool, true, false, List, [], ◌∷◌, ◌++◌, map, Option, Some, None, refl, sym, ap, ◌∙◌, append_assoc, arith}
use Rattle.std.specs.Prelude.{if◌then◌else◌, find, nat_eq}
use Rattle.std.specs.Option.{option_map}
use Rattle.std.proofs.lemmas.List.{map-append}
use Rattle.std.proofs.lemmas.List.Elements.{filter_map-append}
use Rattle.go_tree_nodes.specs.text_core.declared.span.Span.{Span}
use Rattle.go_tree_nodes.specs.declared.names.Ident.{Ident}
use Rattle.go_tree_nodes.specs.declared.exprs.Key.{Key}
use Rattle.go_tree_nodes.specs.declared.files.Receiver.{Receiver}
use Rattle.go_tree_nodes.specs.declared.types.TypeName.{TypeName}
use Rattle.go_tree_nodes.specs.declared.types.TypeName.TheVariants as type_names
use Rattle.go_tree_nodes.specs.Trees.{Separated, One, Then, TypeTree, FieldTrees, MethodTrees, SignatureTree, ResultTree, ParamTrees, NamedType, Pointer, ParenType, Struct, Interface, NoFields, NamedFields, EmbeddedField, NoMethods, Method, Signed, NoResult, OneResult, Results, NoParams, Param, ExprTree, ItemTrees, Integer, Text, Named, Paren, Unary, Binary, Select, Call, Literal, StructLiteral, NoItems, Item, SimpleTree, Alone, Step, Assign, Update, Define}
use Rattle.go_expr_core.specs.local_core.WalksEnds.{is_blank_target}
use Rattle.go_expr_core.specs.local_core.Steps.{Piece, Header, Spec, Act, Condition, Given}
use Rattle.go_expr_core.specs.denote_core.declared.things.Stand.{Stand}
use Rattle.go_expr_core.specs.denote_core.declared.things.Stand.TheVariants as stands
use Rattle.go_expr_core.specs.Looks.{Looks}
use Rattle.go_expr_core.specs.Places.{inside, under_place, left_place}
use Rattle.go_expr_core.specs.Elements.{key_names, all_keys, keys_of, is_mixed, key_context}
use Rattle.go_expr_core.specs.Uses.{Context, KeyAmong, Spot, type_name_spots, type_spots, fields_spots, methods_spots, signature_spots, result_spots, params_spots, key_spots, spots, args_spots, items_spots}
use Rattle.go_cursor_core.specs.Used.{LiteralType, OfName, OfWritten, Used, first_used, type_name_used, type_used, fields_used, methods_used, signature_used, result_used, params_used, key_used, expr_used, args_used, elements_used, exprs_used, some_type_used, values_used, target_used, targets_used, simple_used, given_used, receiver_used, piece_used}
use Rattle.go_cursor_core.specs.Contexts.{type_of_literal, other_keys, context_of_spot, in_its_context, identifier_of, identifiers_among, context_among}
use Rattle.go_cursor_core.specs.PieceSpots.{exprs_spots, some_type_spots, values_spots, target_spots, targets_spots, simple_spots, receiver_spots, given_spots, piece_spots}
use Rattle.go_cursor_core.specs.Laws.{SpotsDecide}
use Rattle.go_cursor_core.proofs.Finding.{find_mapped}

module _ {T S D P : Type 0} (looks : Looks T S D P) where
  -- these identifiers are those among what is noted, each in its context
  record Same (ss : List (Spot T D P)) (us : List Used) : Type 0 where
    is : identifiers_among ss ≡ map (in_its_context looks) us

  nothing : Same [] []
  nothing = record { is = refl }

  both : (ss ts : List (Spot T D P)) (us vs : List Used) → Same ss us → Same ts vs → Same (ss ++ ts) (us ++ vs)
  both ss ts us vs first second = record {
    is = filter_map-append identifier_of ss ts ∙ (ap (λ l. l ++ identifiers_among ts) first.is ∙ (ap (λ l. map (in_its_context looks) us ++ l) second.is ∙ sym (map-append (in_its_context looks) us vs)));
  }

  -- types

  name_same : (n : TypeName) → Same (type_name_spots looks n) (type_name_used n)
  name_same (type_names.Plain x) = record { is = refl }
  name_same (type_names.Qualified p dot x) = record { is = refl }

  mutual
    type_same : (t : TypeTree) → Same (type_spots looks t) (type_used t)
    type_same (NamedType n) = name_same n
    type_same (Pointer star t) = type_same t
    type_same (ParenType first t last) = type_same t
    type_same (Struct k first ls last) = fields_same ls
    type_same (Interface k first methods last) = methods_same methods

    fields_same : (ls : FieldTrees) → Same (fields_spots looks ls) (fields_used ls)
    fields_same NoFields = nothing
    fields_same (NamedFields xs t tag s rest) = both _ _ _ _ (type_same t) (fields_same rest)
    fields_same (EmbeddedField star n tag s rest) = both _ _ _ _ (name_same n) (fields_same rest)

    methods_same : (ms : MethodTrees) → Same (methods_spots looks ms) (methods_used ms)
    methods_same NoMethods = nothing
    methods_same (Method x signature s rest) = both _ _ _ _ (signature_same signature) (methods_same rest)

    signature_same : (g : SignatureTree) → Same (signature_spots looks g) (signature_used g)
    signature_same (Signed first params last result) = both _ _ _ _ (params_same params) (result_same result)

    result_same : (r : ResultTree) → Same (result_spots looks r) (result_used r)
    result_same NoResult = nothing
    result_same (OneResult t) = type_same t
    result_same (Results first params last) = params_same params

    params_same : (ps : ParamTrees) → Same (params_spots looks ps) (params_used ps)
    params_same NoParams = nothing
    params_same (Param xs t comma rest) = both _ _ _ _ (type_same t) (params_same rest)

  -- expressions

  key_same : (l : LiteralType) (all : ItemTrees) (n : ℕ) (others : List (List ℕ)) (key : Option Key) → other_keys n all ≡ others
      → Same (key_spots {T = T} {D = D} {P = P} (type_of_literal looks l) (is_mixed (keys_of all)) others key) (key_used l all n key)
  key_same l all n others None h = nothing
  key_same l all n others (Some k) h = record { is = ap (λ o. (KeyAmong (key_context (type_of_literal looks l) (is_mixed (keys_of all)) o), k.name) ∷ []) (sym h) }

  -- the keys but for one, from the elements in front on
  first_keys : (all : ItemTrees) (n : ℕ) (before : List (List ℕ)) (key : Option Key) (e : ExprTree) (comma : Option Span) (rest : ItemTrees)
      → ((j : ℕ) → other_keys (n + j) all ≡ before ++ other_keys j (Item key e comma rest)) → other_keys n all ≡ before ++ all_keys rest
  first_keys all n before key e comma rest h = ap (λ i. other_keys i all) (omega arith) ∙ h 0

  later_keys : (all : ItemTrees) (n : ℕ) (before : List (List ℕ)) (key : Option Key) (e : ExprTree) (comma : Option Span) (rest : ItemTrees)
      → ((j : ℕ) → other_keys (n + j) all ≡ before ++ other_keys j (Item key e comma rest)) → (j : ℕ) → other_keys ((n + 1) + j) all ≡ (before ++ key_names key) ++ other_keys j rest
  later_keys all n before key e comma rest h j =
      let at : (n + 1) + j ≡ n + suc j = omega arith in
      ap (λ i. other_keys i all) at ∙ (h (suc j) ∙ sym (append_assoc before (key_names key) (other_keys j rest)))

  mutual
    same : (p : Stand) (e : ExprTree) → Same (spots looks p e) (expr_used p e)
    same p (Integer n span) = nothing
    same p (Text t) = nothing
    same p (Named x) = record { is = refl }
    same p (Paren first e last) = same (inside p) e
    same p (Unary op span e) = same (under_place op p) e
    same p (Binary a op span b) = both _ _ _ _ (same stands.«Value» a) (same stands.«Value» b)
    same p (Select e dot x) = both _ _ _ _ (same (left_place p e) e) (record { is = refl })
    same p (Call e first items last) = both _ _ _ _ (same stands.Callee e) (record { is = (args_same items).is })
    same p (Literal n first items last) = both _ _ _ _ (name_same n) (items_same (OfName n) items 0 [] items (λ j. ap (λ i. other_keys i items) (omega arith)))
    same p (StructLiteral t first items last) = both _ _ _ _ (type_same t) (items_same (OfWritten t) items 0 [] items (λ j. ap (λ i. other_keys i items) (omega arith)))

    args_same : (items : ItemTrees) → Same (args_spots looks items) (args_used items)
    args_same NoItems = nothing
    args_same (Item key e comma rest) = both _ _ _ _ (same stands.«Value» e) (args_same rest)

    items_same : (l : LiteralType) (all : ItemTrees) (n : ℕ) (before : List (List ℕ)) (items : ItemTrees) → ((j : ℕ) → other_keys (n + j) all ≡ before ++ other_keys j items)
        → Same (items_spots looks (type_of_literal looks l) (is_mixed (keys_of all)) before items) (elements_used l all n items)
    items_same l all n before NoItems h = nothing
    items_same l all n before (Item key e comma rest) h =
        both _ _ _ _ (key_same l all n (before ++ all_keys rest) key (first_keys all n before key e comma rest h))
        (both _ _ _ _ (same stands.«Value» e) (items_same l all (n + 1) (before ++ key_names key) rest (later_keys all n before key e comma rest h)))

  -- pieces

  exprs_same : (es : Separated ExprTree) → Same (exprs_spots looks es) (exprs_used es)
  exprs_same (One e) = same stands.«Value» e
  exprs_same (Then e comma more) = both _ _ _ _ (same stands.«Value» e) (exprs_same more)

  some_type_same : (t : Option TypeTree) → Same (some_type_spots looks t) (some_type_used t)
  some_type_same None = nothing
  some_type_same (Some t) = type_same t

  values_same : (v : Option (Span × Separated ExprTree)) → Same (values_spots looks v) (values_used v)
  values_same None = nothing
  values_same (Some v) = exprs_same v.1

  target_same : (e : ExprTree) → Same (target_spots looks e) (target_used e)
  target_same e = by (is_blank_target e)
    where
      by : (b : Bool) → Same (if b then [] else spots looks stands.«Value» e) (if b then [] else expr_used stands.«Value» e)
      by true = nothing
      by false = same stands.«Value» e

  targets_same : (es : Separated ExprTree) → Same (targets_spots looks es) (targets_used es)
  targets_same (One e) = target_same e
  targets_same (Then e comma more) = both _ _ _ _ (target_same e) (targets_same more)

  simple_same : (s : SimpleTree) → Same (simple_spots looks s) (simple_used s)
  simple_same (Alone e) = same stands.«Value» e
  simple_same (Step e op span) = same stands.«Value» e
  simple_same (Assign ts span es) = both _ _ _ _ (targets_same ts) (exprs_same es)
  simple_same (Update e op span v) = both _ _ _ _ (same stands.«Value» e) (same stands.«Value» v)
  simple_same (Define xs span es) = exprs_same es

  receiver_same : (r : Option Receiver) → Same (receiver_spots looks r) (receiver_used r)
  receiver_same None = nothing
  receiver_same (Some r) = name_same r.base

  given_same : (es : Option (Separated ExprTree)) → Same (given_spots looks es) (given_used es)
  given_same None = nothing
  given_same (Some es) = exprs_same es

  piece_same : (p : Piece) → Same (piece_spots looks p) (piece_used p)
  piece_same (Header r g) = both _ _ _ _ (receiver_same r) (signature_same g)
  piece_same (Spec k v) = both _ _ _ _ (some_type_same v.type_expr) (values_same v.values)
  piece_same (Act s) = simple_same s
  piece_same (Condition e) = same stands.«Value» e
  piece_same (Given place es) = given_same es

  first_context : (o : Option Used) → option_map (λ (c : Context T D × Ident). c.0) (option_map (in_its_context looks) o) ≡ option_map (λ u. context_of_spot looks u.spot) o
  first_context None = refl
  first_context (Some u) = refl

  piece_found : (start : ℕ) (p : Piece) → context_among start (piece_spots looks p) ≡ option_map (λ u. context_of_spot looks u.spot) (first_used start (piece_used p))
  piece_found start p =
      ap (λ l. option_map (λ (c : Context T D × Ident). c.0) (find (λ c. nat_eq c.1.span.start start) l)) (piece_same p).is
      ∙ (ap (option_map (λ (c : Context T D × Ident). c.0)) (find_mapped (λ c. nat_eq c.1.span.start start) (in_its_context looks) (piece_used p)) ∙ first_context (first_used start (piece_used p)))

pub spots_decide : (T S D P : Type 0) → SpotsDecide T S D P
spots_decide T S D P = record { each = λ looks p. (piece_same looks p).is; found = λ looks start p. piece_found looks start p }
