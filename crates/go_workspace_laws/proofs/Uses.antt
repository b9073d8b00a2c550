-- What the occurrences of expressions, types, pieces of functions and declarations have is declared in some packages alone.
use Rattle.std.proofs.Common.{ℕ, Bool, List, [], ◌∷◌, ◌++◌, map}
use Rattle.std.specs.Prelude.{Option, Some, None}
use Rattle.std.specs.List.{flat_map}
use Rattle.go_path_core.specs.text_core.declared.span.Span.{Span}
use Rattle.go_tree_nodes.specs.declared.exprs.Key.{Key}
use Rattle.go_tree_nodes.specs.declared.files.Receiver.{Receiver}
use Rattle.go_tree_nodes.specs.declared.types.TypeName.{TypeName}
use Rattle.go_tree_nodes.specs.declared.types.TypeName.TheVariants as type_names
use Rattle.go_tree_nodes.specs.Trees.{Separated, One, Then, Specs, Single, Group, TypeTree, FieldTrees, MethodTrees, SignatureTree, ResultTree, ParamTrees, NamedType, Pointer, ParenType, Struct, Interface, NoFields, NamedFields, EmbeddedField, NoMethods, Method, Signed, NoResult, OneResult, Results, NoParams, Param, ExprTree, ItemTrees, Integer, Text, Named, Paren, Unary, Binary, Select, Call, Literal, StructLiteral, NoItems, Item, SimpleTree, Alone, Step, Assign, Update, Define, ValueSpecTree, of_specs}
use Rattle.go_term_core.specs.Terms.{Term, Sign}
use Rattle.go_names_core.specs.local_core.Steps.{Piece, Header, Spec, Act, Condition, Given}
use Rattle.go_names_core.specs.local_core.WalksEnds.{is_blank_target}
use Rattle.go_report_core.specs.denote_core.declared.things.Stand.{Stand}
use Rattle.go_report_core.specs.denote_core.declared.things.Stand.TheVariants as stands
use Rattle.go_report_core.specs.denote_core.Arguments.{arguments_of, is_free}
use Rattle.go_report_core.specs.denote_core.Calls.{call_answer}
use Rattle.go_report_core.specs.denote_core.Selectors.{dot_of}
use Rattle.go_report_core.specs.denote_core.CompositeRepeats.{has_name}
use Rattle.go_report_core.specs.expr_core.Looks.{look_of_place}
use Rattle.go_report_core.specs.expr_core.Lists.{exprs_uses}
use Rattle.go_report_core.specs.expr_core.Places.{inside, under_place, left_place, whole, is_name, is_lone_call}
use Rattle.go_report_core.specs.expr_core.Denoting.{denoted, denoted_items, named_type, written_type}
use Rattle.go_report_core.specs.expr_core.Elements.{all_keys, is_mixed, key_names, keys_of}
use Rattle.go_report_core.specs.expr_core.Uses.{Spot, Identifier, CallAt, SelectorBehind, args_spots, fields_spots, items_spots, key_spots, methods_spots, params_spots, result_spots, signature_spots, spots, type_name_spots, type_spots, use_of, uses}
use Rattle.go_report_core.specs.expr_core.TypeUses.{type_uses, signature_uses}
use Rattle.go_body_core.specs.stmt_core.PieceHeaders.{receiver_uses}
use Rattle.go_body_core.specs.stmt_core.PiecePieces.{piece_uses}
use Rattle.go_body_core.specs.stmt_core.PieceSpecifications.{spec_uses, values_uses}
use Rattle.go_body_core.specs.stmt_core.PieceStatements.{returned_uses, simple_uses}
use Rattle.go_body_core.specs.stmt_core.PieceTargets.{target_uses, targets_uses}
use Rattle.go_body_core.specs.stmt_core.PieceTypes.{some_type_uses}
use Rattle.govisd_resolve.specs.handle_core.Declarations.{Declaration}
use Rattle.go_body_core.specs.env_core.Looks.{TheLooks}
use Rattle.go_body_core.specs.Notes.{TheUse}
use Rattle.go_snap_core.specs.near.Near.{NearRest, IfAny}
use Rattle.go_snap_core.specs.near.Looks.{AreClosed}
use Rattle.go_snap_core.proofs.NearClosing.{either}
use Rattle.go_snap_core.proofs.NearExpressions.{named_near, written_near}
use Rattle.go_snap_core.proofs.NearPieces.{each_both}
use Rattle.go_workspace_laws.proofs.Answers.{AreKept, IsOutcomeIn, alike_itself, call_in, denoted_in, ident_in, key_in, select_in, type_name_in}
use Rattle.go_body_core.specs.stmt_core.StatementLocality.{Each}

pub mapped_each : {A B : Type 0} (Is : B → Type 0) (f : A → B) (xs ys : List A) → Each Is (map f xs) → Each Is (map f ys) → Each Is (map f (xs ++ ys))
mapped_each Is f [] ys h k = k
mapped_each Is f (x ∷ xs) ys h k = (h.0, mapped_each Is f xs ys h.1 k)

pub flat_each : {A B : Type 0} (Is : B → Type 0) (f : A → List B) (xs : List A) → ((x : A) → Each Is (f x)) → Each Is (flat_map f xs)
flat_each Is f [] h = tt
flat_each Is f (x ∷ xs) h = each_both Is (f x) (flat_map f xs) (h x) (flat_each Is f xs h)

pub specs_each : {A B : Type 0} (Is : B → Type 0) (f : A → List B) (ls : Specs A) → ((x : A) → Each Is (f x)) → Each Is (of_specs f ls)
specs_each Is f (Single x) h = h x
specs_each Is f (Group first ls last) h = flat_each Is (λ l. f l.0) ls (λ l. h l.0)

module _ (Inside : List ℕ → Type 0) where
  abbrev pub IsUseIn : TheUse → Type 0
  IsUseIn u = IsOutcomeIn Inside u.outcome

  module _ (Near : Term → Type 0) (Rest : NearRest Sign Declaration) (looks : TheLooks) (law : AreClosed Near Rest looks) (kept : AreKept Inside Near Rest looks) where
    abbrev TheSpot : Type 0
    TheSpot = Spot Term Declaration (List ℕ)

    abbrev AreIn : List TheSpot → Type 0
    AreIn ss = Each IsUseIn (map (use_of looks) ss)

    joined : (ss ts : List TheSpot) → AreIn ss → AreIn ts → AreIn (ss ++ ts)
    joined ss ts h k = mapped_each IsUseIn (use_of looks) ss ts h k

    -- types

    type_name_uses_in : (n : TypeName) → AreIn (type_name_spots looks n)
    type_name_uses_in (type_names.Plain x) = ((ident_in Inside Near Rest looks law kept stands.«Type» x).0, tt)
    type_name_uses_in (type_names.Qualified q dot x) =
        ((ident_in Inside Near Rest looks law kept stands.TypeDot q).0, ((type_name_in Inside Near Rest looks law kept (type_names.Qualified q dot x)).0, tt))

    mutual
      type_uses_in : (t : TypeTree) → AreIn (type_spots looks t)
      type_uses_in (NamedType n) = type_name_uses_in n
      type_uses_in (Pointer star t) = type_uses_in t
      type_uses_in (ParenType first t last) = type_uses_in t
      type_uses_in (Struct k first ls last) = fields_uses_in ls
      type_uses_in (Interface k first methods last) = methods_uses_in methods

      fields_uses_in : (ls : FieldTrees) → AreIn (fields_spots looks ls)
      fields_uses_in NoFields = tt
      fields_uses_in (NamedFields xs t tag s rest) = joined (type_spots looks t) (fields_spots looks rest) (type_uses_in t) (fields_uses_in rest)
      fields_uses_in (EmbeddedField star n tag s rest) = joined (type_name_spots looks n) (fields_spots looks rest) (type_name_uses_in n) (fields_uses_in rest)

      methods_uses_in : (ms : MethodTrees) → AreIn (methods_spots looks ms)
      methods_uses_in NoMethods = tt
      methods_uses_in (Method x signature s rest) = joined (signature_spots looks signature) (methods_spots looks rest) (signature_uses_in signature) (methods_uses_in rest)

      signature_uses_in : (g : SignatureTree) → AreIn (signature_spots looks g)
      signature_uses_in (Signed first params last result) = joined (params_spots looks params) (result_spots looks result) (params_uses_in params) (result_uses_in result)

      result_uses_in : (r : ResultTree) → AreIn (result_spots looks r)
      result_uses_in NoResult = tt
      result_uses_in (OneResult t) = type_uses_in t
      result_uses_in (Results first params last) = params_uses_in params

      params_uses_in : (ps : ParamTrees) → AreIn (params_spots looks ps)
      params_uses_in NoParams = tt
      params_uses_in (Param xs t comma rest) = joined (type_spots looks t) (params_spots looks rest) (type_uses_in t) (params_uses_in rest)

    -- expressions

    key_uses_in : (t : Option Term) (mixed : Bool) (others : List (List ℕ)) (key : Option Key) → IfAny Near t → AreIn (key_spots t mixed others key)
    key_uses_in t mixed others None h = tt
    key_uses_in t mixed others (Some k) h = (key_in Inside Near Rest looks law kept k.name.span.start t mixed (has_name k.name.name others) k.name.name h, tt)

    mutual
      pub uses_in : (p : Stand) (e : ExprTree) → AreIn (spots looks p e)
      uses_in p (Integer n span) = tt
      uses_in p (Text t) = tt
      uses_in p (Named x) = ((ident_in Inside Near Rest looks law kept p x).0, tt)
      uses_in p (Paren first e last) = uses_in (inside p) e
      uses_in p (Unary op span e) = uses_in (under_place op p) e
      uses_in p (Binary a op span b) = joined (spots looks stands.«Value» a) (spots looks stands.«Value» b) (uses_in stands.«Value» a) (uses_in stands.«Value» b)
      uses_in p (Select e dot x) =
          joined (spots looks (left_place p e) e) (Identifier (SelectorBehind (whole p) (dot_of (is_name e) (denoted looks (left_place p e) e))) x ∷ []) (uses_in (left_place p e) e)
          ((select_in Inside Near Rest looks law kept p e x).0, tt)
      uses_in p (Call e first items last) =
          joined (spots looks stands.Callee e)
          (CallAt first (call_answer (look_of_place looks first.start) (denoted looks stands.Callee e) (is_free (is_lone_call items) (denoted_items looks items)) (arguments_of (look_of_place looks first.start) (denoted_items looks items))).outcome ∷ args_spots looks items)
          (uses_in stands.Callee e) (
            (call_in Inside Near Rest looks law kept first.start (denoted looks stands.Callee e) (is_free (is_lone_call items) (denoted_items looks items)) (arguments_of (look_of_place looks first.start) (denoted_items looks items))
                (denoted_in Inside Near Rest looks law kept stands.Callee e)).0,
            args_in items,
          )
      uses_in p (Literal n first items last) =
          joined (type_name_spots looks n) (items_spots looks (named_type looks n) (is_mixed (keys_of items)) [] items) (type_name_uses_in n)
          (items_in (named_type looks n) (is_mixed (keys_of items)) [] items (named_near Near Rest looks looks law (alike_itself Near Rest looks) n))
      uses_in p (StructLiteral t first items last) =
          joined (type_spots looks t) (items_spots looks (written_type looks t) (is_mixed (keys_of items)) [] items) (type_uses_in t)
          (items_in (written_type looks t) (is_mixed (keys_of items)) [] items (written_near Near Rest looks looks law (alike_itself Near Rest looks) t))

      args_in : (items : ItemTrees) → AreIn (args_spots looks items)
      args_in NoItems = tt
      args_in (Item key e comma rest) = joined (spots looks stands.«Value» e) (args_spots looks rest) (uses_in stands.«Value» e) (args_in rest)

      items_in : (t : Option Term) (mixed : Bool) (before : List (List ℕ)) (items : ItemTrees) → IfAny Near t → AreIn (items_spots looks t mixed before items)
      items_in t mixed before NoItems h = tt
      items_in t mixed before (Item key e comma rest) h =
          joined (key_spots t mixed (before ++ all_keys rest) key) (spots looks stands.«Value» e ++ items_spots looks t mixed (before ++ key_names key) rest) (key_uses_in t mixed (before ++ all_keys rest) key h)
          (joined (spots looks stands.«Value» e) (items_spots looks t mixed (before ++ key_names key) rest) (uses_in stands.«Value» e) (items_in t mixed (before ++ key_names key) rest h))

    -- pieces

    exprs_in : (es : Separated ExprTree) → Each IsUseIn (exprs_uses looks es)
    exprs_in (One e) = uses_in stands.«Value» e
    exprs_in (Then e comma more) = each_both IsUseIn (uses looks stands.«Value» e) (exprs_uses looks more) (uses_in stands.«Value» e) (exprs_in more)

    target_in : (e : ExprTree) → Each IsUseIn (target_uses looks e)
    target_in e = either (Each IsUseIn) (is_blank_target e) _ _ tt (uses_in stands.«Value» e)

    targets_in : (ts : Separated ExprTree) → Each IsUseIn (targets_uses looks ts)
    targets_in (One e) = target_in e
    targets_in (Then e comma more) = each_both IsUseIn (target_uses looks e) (targets_uses looks more) (target_in e) (targets_in more)

    some_type_in : (t : Option TypeTree) → Each IsUseIn (some_type_uses looks t)
    some_type_in None = tt
    some_type_in (Some t) = type_uses_in t

    values_in : (v : Option (Span × Separated ExprTree)) → Each IsUseIn (values_uses looks v)
    values_in None = tt
    values_in (Some v) = exprs_in v.1

    pub spec_in : (v : ValueSpecTree) → Each IsUseIn (spec_uses looks v)
    spec_in v = each_both IsUseIn (some_type_uses looks v.type_expr) (values_uses looks v.values) (some_type_in v.type_expr) (values_in v.values)

    pub written_uses_in : (t : TypeTree) → Each IsUseIn (type_uses looks t)
    written_uses_in t = type_uses_in t

    simple_in : (s : SimpleTree) → Each IsUseIn (simple_uses looks s)
    simple_in (Alone e) = uses_in stands.«Value» e
    simple_in (Step e op span) = uses_in stands.«Value» e
    simple_in (Assign ts span es) = each_both IsUseIn (targets_uses looks ts) (exprs_uses looks es) (targets_in ts) (exprs_in es)
    simple_in (Update e op span v) = each_both IsUseIn (uses looks stands.«Value» e) (uses looks stands.«Value» v) (uses_in stands.«Value» e) (uses_in stands.«Value» v)
    simple_in (Define xs span es) = exprs_in es

    receiver_in : (r : Option Receiver) → Each IsUseIn (receiver_uses looks r)
    receiver_in None = tt
    receiver_in (Some r) = type_name_uses_in r.base

    returned_in : (es : Option (Separated ExprTree)) → Each IsUseIn (returned_uses looks es)
    returned_in None = tt
    returned_in (Some es) = exprs_in es

    pub piece_in : (p : Piece) → Each IsUseIn (piece_uses looks p)
    piece_in (Header r s) = each_both IsUseIn (receiver_uses looks r) (signature_uses looks s) (receiver_in r) (signature_uses_in s)
    piece_in (Spec kind v) = spec_in v
    piece_in (Act s) = simple_in s
    piece_in (Condition e) = uses_in stands.«Value» e
    piece_in (Given place es) = returned_in es
