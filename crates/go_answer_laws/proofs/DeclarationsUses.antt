-- What the occurrences of expressions, types, pieces of functions and declarations have is there under their names.
use Rattle.std.proofs.Common.{◌≡◌, ℕ, Bool, true, false, List, [], ◌∷◌, ◌++◌, map, refl, sym, ap, subst, ◌∙◌}
use Rattle.std.specs.Prelude.{Option, Some, None, ⊤, if◌then◌else◌}
use Rattle.go_site_core.specs.text_core.declared.span.Span.{Span}
use Rattle.go_tree_nodes.specs.token_core.declared.kind.Operator.{Operator}
use Rattle.go_tree_nodes.specs.token_core.declared.kind.Operator.TheVariants as operators
use Rattle.go_tree_nodes.specs.declared.names.Ident.{Ident}
use Rattle.go_tree_nodes.specs.declared.exprs.Key.{Key}
use Rattle.go_tree_nodes.specs.declared.files.Receiver.{Receiver}
use Rattle.go_tree_nodes.specs.declared.types.TypeName.{TypeName}
use Rattle.go_tree_nodes.specs.declared.types.TypeName.TheVariants as type_names
use Rattle.go_tree_nodes.specs.Trees.{Separated, One, Then, TypeTree, FieldTrees, MethodTrees, SignatureTree, ResultTree, ParamTrees, NamedType, Pointer, ParenType, Struct, Interface, NoFields, NamedFields, EmbeddedField, NoMethods, Method, Signed, NoResult, OneResult, Results, NoParams, Param, ExprTree, ItemTrees, Integer, Text, Named, Paren, Unary, Binary, Select, Call, Literal, StructLiteral, NoItems, Item, SimpleTree, Alone, Step, Assign, Update, Define, ValueSpecTree}
use Rattle.go_tree_nodes.specs.Rules.{Wf, Wf_exprs, Wf_items, Wf_simple, Wf_some_exprs, Wf_values}
use Rattle.go_tree_core.specs.declared.occurrence.Role.TheVariants as roles
use Rattle.go_tree_core.specs.declared.occurrence.Context.{Context}
use Rattle.go_tree_core.specs.declared.occurrence.Context.TheVariants as contexts
use Rattle.go_tree_core.specs.declared.occurrence.Occ.{Occ}
use Rattle.go_tree_core.specs.Occurrences.{call_at, expr_occs, exprs_occs, fields_occs, inside_context, items_occs, key_occs, methods_occs, named_occs, occurrence, params_occs, pointed_context, receiver_occs, result_occs, signature_occs, simple_occs, some_exprs_occs, some_type_occs, type_name_occs, type_occs, under, value_spec_occs, values_occs, whole_usage}
use Rattle.go_term_core.specs.Terms.{Term, Sign}
use Rattle.go_names_core.specs.local_core.Steps.{Piece, Header, Spec, Act, Condition, Given}
use Rattle.go_names_core.specs.local_core.WalksEnds.{is_blank_target}
use Rattle.go_cursor_core.specs.denote_core.declared.things.Stand.{Stand}
use Rattle.go_cursor_core.specs.denote_core.declared.things.Stand.TheVariants as stands
use Rattle.go_cursor_core.specs.denote_core.Arguments.{arguments_of, is_free}
use Rattle.go_cursor_core.specs.denote_core.Calls.{call_answer}
use Rattle.go_cursor_core.specs.denote_core.declared.things.Outcome.{Outcome}
use Rattle.go_cursor_core.specs.denote_core.declared.things.Outcome.TheVariants as outcomes
use Rattle.go_cursor_core.specs.denote_core.Selectors.{dot_of}
use Rattle.go_cursor_core.specs.denote_core.CompositeRepeats.{has_name}
use Rattle.go_stmt_core.specs.expr_core.Looks.{look_of_place}
use Rattle.go_stmt_core.specs.expr_core.Lists.{exprs_uses}
use Rattle.go_stmt_core.specs.expr_core.Places.{inside, under_place, left_place, whole, is_name, is_lone_call}
use Rattle.go_stmt_core.specs.expr_core.Denoting.{denoted, denoted_items, named_type, written_type}
use Rattle.go_stmt_core.specs.expr_core.Elements.{all_keys, is_mixed, key_names, keys_of}
use Rattle.go_stmt_core.specs.expr_core.Uses.{Spot, Identifier, CallAt, NameAt, SelectorBehind, args_spots, fields_spots, items_spots, key_spots, methods_spots, params_spots, result_spots, signature_spots, spots, type_name_spots, type_spots, use_of, uses}
use Rattle.go_stmt_core.specs.expr_core.TypeUses.{type_uses, signature_uses}
use Rattle.go_stmt_core.specs.piece.Headers.{receiver_uses}
use Rattle.go_stmt_core.specs.piece.Pieces.{piece_uses}
use Rattle.go_stmt_core.specs.piece.Specifications.{spec_uses, values_uses}
use Rattle.go_stmt_core.specs.piece.Statements.{returned_uses, simple_uses}
use Rattle.go_stmt_core.specs.piece.Targets.{target_uses, targets_uses}
use Rattle.go_stmt_core.specs.piece.Types.{some_type_uses}
use Rattle.go_site_core.specs.handle_core.Declarations.{Declaration}
use Rattle.go_value_core.specs.env_core.Looks.{TheLooks}
use Rattle.go_query_core.specs.body_core.Notes.{TheUse}
use Rattle.go_query_core.specs.body_core.WellFormed.{IsOfGrammar}
use Rattle.go_stmt_core.specs.piece.Laws.{piece_occs}
use Rattle.go_query_core.specs.snap_core.NearNear.{NearRest, IfAny}
use Rattle.go_query_core.specs.snap_core.NearLooks.{AreClosed}
use Rattle.go_query_core.specs.snap_core.NearExpressions.{named_near, written_near}
use Rattle.go_answer_laws.proofs.DeclarationsAnswers.{AreKept, IsCalled, IsOutcomeIn, TheAnswer, alike_itself, call_in, callee_name, denoted_in, ident_in, key_in, select_in, type_name_in}
use Rattle.go_answer_laws.specs.declarations.Found.{AreThereAs, HasDeclared}

-- how the last of some occurrences is spelled, or what stands before them
abbrev pub last_of : List ℕ → List Occ → List ℕ
last_of before [] = before
last_of before (o ∷ os) = last_of o.spelling os

last_behind : (before : List ℕ) (os ps : List Occ) → last_of before (os ++ ps) ≡ last_of (last_of before os) ps
last_behind before [] ps = refl
last_behind before (o ∷ os) ps = last_behind o.spelling os ps

abbrev IsNoTarget : Context → Type 0
IsNoTarget contexts.Target = ⊥
IsNoTarget _ = ⊤

inside_no : (c : Context) → IsNoTarget c → IsNoTarget (inside_context c)
inside_no contexts.Target h = h
inside_no contexts.«Type» h = tt
inside_no contexts.«Value» h = tt
inside_no contexts.Callee h = tt
inside_no contexts.BeforeDot h = tt

pointed_no : (c : Context) → IsNoTarget (pointed_context c)
pointed_no contexts.Target = tt
pointed_no contexts.«Type» = tt
pointed_no contexts.«Value» = tt
pointed_no contexts.Callee = tt
pointed_no contexts.BeforeDot = tt

under_no : (op : Operator) (c : Context) → IsNoTarget (under op c)
under_no operators.Star c = pointed_no c
under_no _ c = tt

-- what stands left of `=`

-- the place behind a unary operator is the same left of `=` and elsewhere
under_target : (op : Operator) → under op contexts.Target ≡ under op contexts.«Value»
under_target operators.Star = refl
under_target _ = refl

target_occs : (e : ExprTree) → expr_occs contexts.Target e ≡ (if is_blank_target e then [] else expr_occs contexts.«Value» e)
target_occs (Integer n span) = refl
target_occs (Text t) = refl
target_occs (Named x) = refl
target_occs (Paren first e last) = target_occs e
target_occs (Unary op span e) = ap (λ p. expr_occs p e) (under_target op)
target_occs (Binary a op span b) = refl
target_occs (Select e dot x) = refl
target_occs (Call e first items last) = refl
target_occs (Literal n first items last) = refl
target_occs (StructLiteral t first items last) = refl

-- an expression that is called ends with its name

some_same : (x name : List ℕ) → Some x ≡ Some name → x ≡ name
some_same x name e = cc

none_some : {A : Type 0} (name : List ℕ) → None ≡ Some name → A
none_some name e = absurd cc

named_last : (c : Context) → IsNoTarget c → (x : Ident) (before : List ℕ) → last_of before (named_occs c x) ≡ x.name
named_last contexts.Target h x before = absurd h
named_last contexts.«Type» h x before = refl
named_last contexts.«Value» h x before = refl
named_last contexts.Callee h x before = refl
named_last contexts.BeforeDot h x before = refl

callee_last : (c : Context) → IsNoTarget c → (e : ExprTree) (name before : List ℕ) → callee_name e ≡ Some name → last_of before (expr_occs c e) ≡ name
callee_last c h (Integer n span) name before is = none_some name is
callee_last c h (Text t) name before is = none_some name is
callee_last c h (Named x) name before is = named_last c h x before ∙ some_same x.name name is
callee_last c h (Paren first e last) name before is = callee_last (inside_context c) (inside_no c h) e name before is
callee_last c h (Unary op span e) name before is = callee_last (under op c) (under_no op c) e name before is
callee_last c h (Binary a op span b) name before is = none_some name is
callee_last c h (Select e dot x) name before is =
    last_behind before (expr_occs contexts.BeforeDot e) (occurrence (roles.Selector (whole_usage c)) x ∷ []) ∙ some_same x.name name is
callee_last c h (Call e first items last) name before is = none_some name is
callee_last c h (Literal n first items last) name before is = none_some name is
callee_last c h (StructLiteral t first items last) name before is = none_some name is

module _ (IsNamed : List ℕ → Declaration → Type 0) (IsImported : ℕ → Declaration → Type 0) where
  -- what these occurrences have is there, whatever stands before them
  abbrev pub AreThere : List Occ → List TheUse → Type 0
  AreThere os us = (before : List ℕ) → AreThereAs IsNamed IsImported before os us

  pub both_behind : (before : List ℕ) (os ps : List Occ) (us vs : List TheUse) → AreThereAs IsNamed IsImported before os us → AreThereAs IsNamed IsImported (last_of before os) ps vs → AreThereAs IsNamed IsImported before (os ++ ps) (us ++ vs)
  both_behind before [] ps [] vs h k = k
  both_behind before [] ps (u ∷ us) vs h k = absurd h
  both_behind before (o ∷ os) ps [] vs h k = absurd h
  both_behind before (o ∷ os) ps (u ∷ us) vs h k = (h.0, both_behind o.spelling os ps us vs h.1 k)

  pub both_there : (os ps : List Occ) (us vs : List TheUse) → AreThere os us → AreThere ps vs → AreThere (os ++ ps) (us ++ vs)
  both_there os ps us vs h k before = both_behind before os ps us vs (h before) (k (last_of before os))

  -- what is called by its name
  called : (o : Option (List ℕ)) (before : List ℕ) → ((name : List ℕ) → o ≡ Some name → before ≡ name) → (d : Declaration) → IsCalled IsNamed o d → IsNamed before d
  called None before last d h = absurd h
  called (Some name) before last d h = subst (λ (x : List ℕ). IsNamed x d) (sym (last name refl)) h

  called_has : (o : Option (List ℕ)) (before : List ℕ) → ((name : List ℕ) → o ≡ Some name → before ≡ name) → (r : Outcome Declaration (List ℕ)) → IsOutcomeIn (IsCalled IsNamed o) r → HasDeclared (IsNamed before) r
  called_has o before last (outcomes.Declared d) h = called o before last d h
  called_has o before last (outcomes.Selected d path) h = called o before last d h
  called_has o before last (outcomes.Refused rule) h = tt

  module _ (Near : Term → Type 0) (Rest : NearRest Sign Declaration) (looks : TheLooks) (law : AreClosed Near Rest looks) (kept : AreKept IsNamed Near Rest looks) where
    abbrev TheSpot : Type 0
    TheSpot = Spot Term Declaration (List ℕ)

    abbrev AreIn : List Occ → List TheSpot → Type 0
    AreIn os ss = AreThere os (map (use_of looks) ss)

    behind : (before : List ℕ) (os ps : List Occ) (ss ts : List TheSpot) → AreThereAs IsNamed IsImported before os (map (use_of looks) ss) → AreThereAs IsNamed IsImported (last_of before os) ps (map (use_of looks) ts)
        → AreThereAs IsNamed IsImported before (os ++ ps) (map (use_of looks) (ss ++ ts))
    behind before [] ps [] ts h k = k
    behind before [] ps (s ∷ ss) ts h k = absurd h
    behind before (o ∷ os) ps [] ts h k = absurd h
    behind before (o ∷ os) ps (s ∷ ss) ts h k = (h.0, behind o.spelling os ps ss ts h.1 k)

    joined : (os ps : List Occ) (ss ts : List TheSpot) → AreIn os ss → AreIn ps ts → AreIn (os ++ ps) (ss ++ ts)
    joined os ps ss ts h k before = behind before os ps ss ts (h before) (k (last_of before os))

    -- types

    type_name_uses_in : (n : TypeName) → AreIn (type_name_occs n) (type_name_spots looks n)
    type_name_uses_in (type_names.Plain x) before = ((ident_in IsNamed Near Rest looks law kept stands.«Type» x).0, tt)
    type_name_uses_in (type_names.Qualified q dot x) before =
        ((ident_in IsNamed Near Rest looks law kept stands.TypeDot q).0, ((type_name_in IsNamed Near Rest looks law kept (type_names.Qualified q dot x)).0, tt))

    mutual
      type_uses_in : (t : TypeTree) → AreIn (type_occs t) (type_spots looks t)
      type_uses_in (NamedType n) = type_name_uses_in n
      type_uses_in (Pointer star t) = type_uses_in t
      type_uses_in (ParenType first t last) = type_uses_in t
      type_uses_in (Struct k first ls last) = fields_uses_in ls
      type_uses_in (Interface k first methods last) = methods_uses_in methods

      fields_uses_in : (ls : FieldTrees) → AreIn (fields_occs ls) (fields_spots looks ls)
      fields_uses_in NoFields = λ before. tt
      fields_uses_in (NamedFields xs t tag s rest) = joined (type_occs t) (fields_occs rest) (type_spots looks t) (fields_spots looks rest) (type_uses_in t) (fields_uses_in rest)
      fields_uses_in (EmbeddedField star n tag s rest) = joined (type_name_occs n) (fields_occs rest) (type_name_spots looks n) (fields_spots looks rest) (type_name_uses_in n) (fields_uses_in rest)

      methods_uses_in : (ms : MethodTrees) → AreIn (methods_occs ms) (methods_spots looks ms)
      methods_uses_in NoMethods = λ before. tt
      methods_uses_in (Method x signature s rest) = joined (signature_occs signature) (methods_occs rest) (signature_spots looks signature) (methods_spots looks rest) (signature_uses_in signature) (methods_uses_in rest)

      signature_uses_in : (g : SignatureTree) → AreIn (signature_occs g) (signature_spots looks g)
      signature_uses_in (Signed first params last result) = joined (params_occs params) (result_occs result) (params_spots looks params) (result_spots looks result) (params_uses_in params) (result_uses_in result)

      result_uses_in : (r : ResultTree) → AreIn (result_occs r) (result_spots looks r)
      result_uses_in NoResult = λ before. tt
      result_uses_in (OneResult t) = type_uses_in t
      result_uses_in (Results first params last) = params_uses_in params

      params_uses_in : (ps : ParamTrees) → AreIn (params_occs ps) (params_spots looks ps)
      params_uses_in NoParams = λ before. tt
      params_uses_in (Param xs t comma rest) = joined (type_occs t) (params_occs rest) (type_spots looks t) (params_spots looks rest) (type_uses_in t) (params_uses_in rest)

    -- expressions

    key_uses_in : (t : Option Term) (mixed : Bool) (others : List (List ℕ)) (key : Option Key) → IfAny Near t → AreIn (key_occs key) (key_spots t mixed others key)
    key_uses_in t mixed others None h before = tt
    key_uses_in t mixed others (Some k) h before = (key_in IsNamed Near Rest looks law kept k.name.span.start t mixed (has_name k.name.name others) k.name.name h, tt)

    named_uses_in : (p : Stand) (c : Context) → IsNoTarget c → (x : Ident) → AreIn (named_occs c x) (Identifier (NameAt p) x ∷ [])
    named_uses_in p contexts.Target h x before = absurd h
    named_uses_in p contexts.«Type» h x before = ((ident_in IsNamed Near Rest looks law kept p x).0, tt)
    named_uses_in p contexts.«Value» h x before = ((ident_in IsNamed Near Rest looks law kept p x).0, tt)
    named_uses_in p contexts.Callee h x before = ((ident_in IsNamed Near Rest looks law kept p x).0, tt)
    named_uses_in p contexts.BeforeDot h x before = ((ident_in IsNamed Near Rest looks law kept p x).0, tt)

    abbrev call_of : ExprTree → Span → ItemTrees → TheAnswer
    call_of e first items = call_answer (look_of_place looks first.start) (denoted looks stands.Callee e) (is_free (is_lone_call items) (denoted_items looks items)) (arguments_of (look_of_place looks first.start) (denoted_items looks items))

    call_uses_in : (e : ExprTree) (first : Span) (items : ItemTrees) → AreIn (expr_occs contexts.Callee e) (spots looks stands.Callee e) → AreIn (items_occs items) (args_spots looks items)
        → AreIn (expr_occs contexts.Callee e ++ (call_at first ∷ items_occs items)) (spots looks stands.Callee e ++ (CallAt first (call_of e first items).outcome ∷ args_spots looks items))
    call_uses_in e first items h k before =
        behind before (expr_occs contexts.Callee e) (call_at first ∷ items_occs items) (spots looks stands.Callee e) (CallAt first (call_of e first items).outcome ∷ args_spots looks items) (h before) (
          called_has (callee_name e) (last_of before (expr_occs contexts.Callee e)) (λ word is. callee_last contexts.Callee tt e word before is) (call_of e first items).outcome
              (call_in (IsCalled IsNamed (callee_name e)) looks first.start (denoted looks stands.Callee e) (is_free (is_lone_call items) (denoted_items looks items)) (arguments_of (look_of_place looks first.start) (denoted_items looks items))
              (denoted_in IsNamed Near Rest looks law kept stands.Callee e)).0,
          k (40 ∷ []),
        )

    mutual
      pub uses_in : (p : Stand) (c : Context) → IsNoTarget c → (header : Bool) (e : ExprTree) → Wf header e → AreIn (expr_occs c e) (spots looks p e)
      uses_in p c n header (Integer i span) wf = λ before. tt
      uses_in p c n header (Text t) wf = λ before. tt
      uses_in p c n header (Named x) wf = named_uses_in p c n x
      uses_in p c n header (Paren first e last) wf = uses_in (inside p) (inside_context c) (inside_no c n) false e wf
      uses_in p c n header (Unary op span e) wf = uses_in (under_place op p) (under op c) (under_no op c) header e wf.1
      uses_in p c n header (Binary a op span b) wf =
          joined (expr_occs contexts.«Value» a) (expr_occs contexts.«Value» b) (spots looks stands.«Value» a) (spots looks stands.«Value» b)
          (uses_in stands.«Value» contexts.«Value» tt header a wf.1) (uses_in stands.«Value» contexts.«Value» tt header b wf.3)
      uses_in p c n header (Select e dot x) wf =
          joined (expr_occs contexts.BeforeDot e) (occurrence (roles.Selector (whole_usage c)) x ∷ [])
          (spots looks (left_place p e) e) (Identifier (SelectorBehind (whole p) (dot_of (is_name e) (denoted looks (left_place p e) e))) x ∷ []) (uses_in (left_place p e) contexts.BeforeDot tt header e wf.0)
          (λ before. ((select_in IsNamed Near Rest looks law kept p e x).0, tt))
      uses_in p c n header (Call e first items last) wf = call_uses_in e first items (uses_in stands.Callee contexts.Callee tt header e wf.0) (args_in items wf.2)
      uses_in p c n header (Literal name first items last) wf =
          joined (type_name_occs name) (items_occs items) (type_name_spots looks name) (items_spots looks (named_type looks name) (is_mixed (keys_of items)) [] items) (type_name_uses_in name)
          (items_in (named_type looks name) (is_mixed (keys_of items)) [] items (named_near Near Rest looks looks law (alike_itself Near Rest looks) name) wf.1)
      uses_in p c n header (StructLiteral t first items last) wf =
          joined (type_occs t) (items_occs items) (type_spots looks t) (items_spots looks (written_type looks t) (is_mixed (keys_of items)) [] items) (type_uses_in t)
          (items_in (written_type looks t) (is_mixed (keys_of items)) [] items (written_near Near Rest looks looks law (alike_itself Near Rest looks) t) wf.2)

      args_in : (items : ItemTrees) → Wf_items false items → AreIn (items_occs items) (args_spots looks items)
      args_in NoItems wf = λ before. tt
      args_in (Item None e comma rest) wf =
          joined (expr_occs contexts.«Value» e) (items_occs rest) (spots looks stands.«Value» e) (args_spots looks rest) (uses_in stands.«Value» contexts.«Value» tt false e wf.1) (args_in rest wf.3)
      args_in (Item (Some key) e comma rest) wf = absurd wf.0

      items_in : (t : Option Term) (mixed : Bool) (before : List (List ℕ)) (items : ItemTrees) → IfAny Near t → Wf_items true items → AreIn (items_occs items) (items_spots looks t mixed before items)
      items_in t mixed before NoItems h wf = λ first. tt
      items_in t mixed before (Item key e comma rest) h wf =
          joined (key_occs key) (expr_occs contexts.«Value» e ++ items_occs rest) (key_spots t mixed (before ++ all_keys rest) key) (spots looks stands.«Value» e ++ items_spots looks t mixed (before ++ key_names key) rest)
          (key_uses_in t mixed (before ++ all_keys rest) key h)
          (joined (expr_occs contexts.«Value» e) (items_occs rest) (spots looks stands.«Value» e) (items_spots looks t mixed (before ++ key_names key) rest) (uses_in stands.«Value» contexts.«Value» tt false e wf.1)
          (items_in t mixed (before ++ key_names key) rest h wf.3))

    value_in : (header : Bool) (e : ExprTree) → Wf header e → AreThere (expr_occs contexts.«Value» e) (uses looks stands.«Value» e)
    value_in header e wf = uses_in stands.«Value» contexts.«Value» tt header e wf

    -- pieces

    exprs_in : (header : Bool) (es : Separated ExprTree) → Wf_exprs header es → AreThere (exprs_occs contexts.«Value» es) (exprs_uses looks es)
    exprs_in header (One e) wf = value_in header e wf
    exprs_in header (Then e comma more) wf =
        both_there (expr_occs contexts.«Value» e) (exprs_occs contexts.«Value» more) (uses looks stands.«Value» e) (exprs_uses looks more) (value_in header e wf.0) (exprs_in header more wf.1)

    target_in : (header : Bool) (e : ExprTree) → Wf header e → AreThere (expr_occs contexts.Target e) (target_uses looks e)
    target_in header e wf = subst (λ os. AreThere os (target_uses looks e)) (sym (target_occs e)) (by (is_blank_target e))
      where
        by : (b : Bool) → AreThere (if b then [] else expr_occs contexts.«Value» e) (if b then [] else uses looks stands.«Value» e)
        by true = λ before. tt
        by false = value_in header e wf

    targets_in : (header : Bool) (ts : Separated ExprTree) → Wf_exprs header ts → AreThere (exprs_occs contexts.Target ts) (targets_uses looks ts)
    targets_in header (One e) wf = target_in header e wf
    targets_in header (Then e comma more) wf =
        both_there (expr_occs contexts.Target e) (exprs_occs contexts.Target more) (target_uses looks e) (targets_uses looks more) (target_in header e wf.0) (targets_in header more wf.1)

    some_type_in : (t : Option TypeTree) → AreThere (some_type_occs t) (some_type_uses looks t)
    some_type_in None = λ before. tt
    some_type_in (Some t) = type_uses_in t

    values_in : (v : Option (Span × Separated ExprTree)) → Wf_values v → AreThere (values_occs v) (values_uses looks v)
    values_in None wf = λ before. tt
    values_in (Some v) wf = exprs_in false v.1 wf

    pub spec_in : (v : ValueSpecTree) → Wf_values v.values → AreThere (value_spec_occs v) (spec_uses looks v)
    spec_in v wf = both_there (some_type_occs v.type_expr) (values_occs v.values) (some_type_uses looks v.type_expr) (values_uses looks v.values) (some_type_in v.type_expr) (values_in v.values wf)

    pub written_uses_in : (t : TypeTree) → AreThere (type_occs t) (type_uses looks t)
    written_uses_in t = type_uses_in t

    simple_in : (header : Bool) (s : SimpleTree) → Wf_simple header s → AreThere (simple_occs s) (simple_uses looks s)
    simple_in header (Alone e) wf = value_in header e wf
    simple_in header (Step e op span) wf = value_in header e wf.1
    simple_in header (Assign ts span es) wf =
        both_there (exprs_occs contexts.Target ts) (exprs_occs contexts.«Value» es) (targets_uses looks ts) (exprs_uses looks es) (targets_in header ts wf.0) (exprs_in header es wf.1)
    simple_in header (Update e op span v) wf =
        both_there (expr_occs contexts.«Value» e) (expr_occs contexts.«Value» v) (uses looks stands.«Value» e) (uses looks stands.«Value» v) (value_in header e wf.1) (value_in header v wf.2)
    simple_in header (Define xs span es) wf = exprs_in header es wf

    receiver_in : (r : Option Receiver) → AreThere (receiver_occs r) (receiver_uses looks r)
    receiver_in None = λ before. tt
    receiver_in (Some r) = type_name_uses_in r.base

    returned_in : (es : Option (Separated ExprTree)) → Wf_some_exprs es → AreThere (some_exprs_occs es) (returned_uses looks es)
    returned_in None wf = λ before. tt
    returned_in (Some es) wf = exprs_in false es wf

    pub piece_in : (p : Piece) → IsOfGrammar p → AreThere (piece_occs p) (piece_uses looks p)
    piece_in (Header r s) wf = both_there (receiver_occs r) (signature_occs s) (receiver_uses looks r) (signature_uses looks s) (receiver_in r) (signature_uses_in s)
    piece_in (Spec kind v) wf = spec_in v wf.2
    piece_in (Act s) wf = simple_in wf.0 s wf.1
    piece_in (Condition e) wf = value_in true e wf
    piece_in (Given place es) wf = returned_in es wf
