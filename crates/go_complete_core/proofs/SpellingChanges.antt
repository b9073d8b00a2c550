-- What another spelling of one identifier of an expression changes: three kinds of identifiers.
use Rattle.std.proofs.Common.{◌≡◌, ℕ, suc, Bool, true, List, [], ◌∷◌, ◌++◌, refl, sym, ap, subst, ◌∙◌}
use Rattle.std.specs.Prelude.{Option, Some, None}
use Rattle.go_tree_nodes.specs.text_core.declared.span.Span.{Span}
use Rattle.go_tree_nodes.specs.declared.names.Ident.{Ident}
use Rattle.go_tree_nodes.specs.declared.exprs.Key.{Key}
use Rattle.go_tree_nodes.specs.declared.types.TypeName.{TypeName}
use Rattle.go_tree_nodes.specs.declared.types.TypeName.TheVariants as type_names
use Rattle.go_tree_nodes.specs.declared.usage.Usage.TheVariants as usages
use Rattle.go_tree_nodes.specs.Trees.{TypeTree, FieldTrees, MethodTrees, SignatureTree, ResultTree, ParamTrees, NamedType, Pointer, ParenType, Struct, Interface, NoFields, NamedFields, EmbeddedField, NoMethods, Method, Signed, NoResult, OneResult, Results, NoParams, Param, ExprTree, ItemTrees, Integer, Text, Named, Paren, Unary, Binary, Select, Call, Literal, StructLiteral, NoItems, Item}
use Rattle.go_cursor_core.specs.denote_core.declared.things.Stand.{Stand}
use Rattle.go_cursor_core.specs.denote_core.declared.things.Stand.TheVariants as stands
use Rattle.go_cursor_core.specs.denote_core.Arguments.{arguments_of, is_free}
use Rattle.go_cursor_core.specs.denote_core.Calls.{call_answer}
use Rattle.go_cursor_core.specs.denote_core.Selectors.{dot_of, selector_answer}
use Rattle.go_stmt_core.specs.expr_core.Looks.{Looks, look_of_place}
use Rattle.go_stmt_core.specs.expr_core.Places.{inside, under_place, left_place, whole, is_name, is_literal, is_call, is_lone_call}
use Rattle.go_stmt_core.specs.expr_core.Denoting.{ident_answer, named_type, written_type, denoted, denoted_items}
use Rattle.go_stmt_core.specs.expr_core.Operators.{unary_of, binary_of}
use Rattle.go_stmt_core.specs.expr_core.Elements.{key_names, all_keys, keys_of, is_mixed}
use Rattle.go_stmt_core.specs.expr_core.Needed.{needed_idents, needed_by_args}
use Rattle.go_stmt_core.specs.expr_core.Uses.{SelectorBehind, Spot, type_name_spots, type_spots, fields_spots, methods_spots, signature_spots, result_spots, params_spots, key_spots, spots, args_spots, items_spots}
use Rattle.go_stmt_core.specs.expr_core.Respelling.{RespellsName, InPlain, InQualifier, BehindDot, RespellsType, InNamedType, InPointer, InParenType, InStruct, InInterface, RespellsFields, InFieldType, InLaterFields, InEmbedded, BehindEmbedded, RespellsMethods, InMethod, InLaterMethods, RespellsSignature, InParams, InResult, RespellsResult, InOneResult, InResults, RespellsParams, InParam, InLaterParams, Respells, InName, InParen, InUnary, InLeft, InRight, InOperand, InSelector, InCallee, InArguments, InLiteralType, InElements, InStructType, InStructElements, RespellsArgs, InArgument, InLaterArguments}
use Rattle.go_stmt_core.specs.expr_core.Independence.{len}
use Rattle.go_complete_core.proofs.SpellingSplits.{len_app, Split, here, in_left, in_right}
use Rattle.go_tree_nodes.specs.Idents.{type_name_idents, type_idents, fields_idents, methods_idents, signature_type_idents, result_type_idents, params_idents}

-- how many spots there are does not depend on the look-ups

module _ {T S D P : Type 0} (looks other : Looks T S D P) where
  pub name_len : (n : TypeName) → len (type_name_spots looks n) ≡ len (type_name_spots other n)
  name_len (type_names.Plain x) = refl
  name_len (type_names.Qualified p dot x) = refl

  mutual
    pub type_len : (t : TypeTree) → len (type_spots looks t) ≡ len (type_spots other t)
    type_len (NamedType n) = name_len n
    type_len (Pointer star t) = type_len t
    type_len (ParenType first t last) = type_len t
    type_len (Struct k first ls last) = fields_len ls
    type_len (Interface k first methods last) = methods_len methods

    fields_len : (ls : FieldTrees) → len (fields_spots looks ls) ≡ len (fields_spots other ls)
    fields_len NoFields = refl
    fields_len (NamedFields xs t tag s rest) = len_app (type_spots looks t) _ (type_spots other t) _ (type_len t) (fields_len rest)
    fields_len (EmbeddedField star n tag s rest) = len_app (type_name_spots looks n) _ (type_name_spots other n) _ (name_len n) (fields_len rest)

    methods_len : (ms : MethodTrees) → len (methods_spots looks ms) ≡ len (methods_spots other ms)
    methods_len NoMethods = refl
    methods_len (Method x signature s rest) = len_app (signature_spots looks signature) _ (signature_spots other signature) _ (signature_len signature) (methods_len rest)

    pub signature_len : (g : SignatureTree) → len (signature_spots looks g) ≡ len (signature_spots other g)
    signature_len (Signed first params last result) = len_app (params_spots looks params) _ (params_spots other params) _ (params_len params) (result_len result)

    result_len : (r : ResultTree) → len (result_spots looks r) ≡ len (result_spots other r)
    result_len NoResult = refl
    result_len (OneResult t) = type_len t
    result_len (Results first params last) = params_len params

    params_len : (ps : ParamTrees) → len (params_spots looks ps) ≡ len (params_spots other ps)
    params_len NoParams = refl
    params_len (Param xs t comma rest) = len_app (type_spots looks t) _ (type_spots other t) _ (type_len t) (params_len rest)

  key_len : (t u : Option T) (m : Bool) (others : List (List ℕ)) (key : Option Key) → len (key_spots {T = T} {D = D} {P = P} t m others key) ≡ len (key_spots {T = T} {D = D} {P = P} u m others key)
  key_len t u m others None = refl
  key_len t u m others (Some k) = refl

  mutual
    pub expr_len : (p : Stand) (e : ExprTree) → len (spots looks p e) ≡ len (spots other p e)
    expr_len p (Integer n span) = refl
    expr_len p (Text t) = refl
    expr_len p (Named x) = refl
    expr_len p (Paren first e last) = expr_len (inside p) e
    expr_len p (Unary op span e) = expr_len (under_place op p) e
    expr_len p (Binary a op span b) = len_app (spots looks stands.«Value» a) _ (spots other stands.«Value» a) _ (expr_len stands.«Value» a) (expr_len stands.«Value» b)
    expr_len p (Select e dot x) = len_app (spots looks (left_place p e) e) (_ ∷ []) (spots other (left_place p e) e) (_ ∷ []) (expr_len (left_place p e) e) refl
    expr_len p (Call e first items last) =
        len_app (spots looks stands.Callee e) (_ ∷ args_spots looks items) (spots other stands.Callee e) (_ ∷ args_spots other items) (expr_len stands.Callee e) (ap suc (args_len items))
    expr_len p (Literal n first items last) = len_app (type_name_spots looks n) _ (type_name_spots other n) _ (name_len n) (items_len (named_type looks n) (named_type other n) (is_mixed (keys_of items)) [] items)
    expr_len p (StructLiteral t first items last) = len_app (type_spots looks t) _ (type_spots other t) _ (type_len t) (items_len (written_type looks t) (written_type other t) (is_mixed (keys_of items)) [] items)

    args_len : (items : ItemTrees) → len (args_spots looks items) ≡ len (args_spots other items)
    args_len NoItems = refl
    args_len (Item key e comma rest) = len_app (spots looks stands.«Value» e) _ (spots other stands.«Value» e) _ (expr_len stands.«Value» e) (args_len rest)

    items_len : (t u : Option T) (m : Bool) (before : List (List ℕ)) (items : ItemTrees) → len (items_spots looks t m before items) ≡ len (items_spots other u m before items)
    items_len t u m before NoItems = refl
    items_len t u m before (Item key e comma rest) =
        len_app (key_spots t m (before ++ all_keys rest) key) _ (key_spots u m (before ++ all_keys rest) key) _ (key_len t u m (before ++ all_keys rest) key)
        (len_app (spots looks stands.«Value» e) _ (spots other stands.«Value» e) _ (expr_len stands.«Value» e) (items_len t u m (before ++ key_names key) rest))

-- what a respelling leaves as it was, whatever the look-ups

module _ (x : Ident) (name : List ℕ) where
  pub left_same : (p : Stand) (e f : ExprTree) → Respells x name e f → left_place p f ≡ left_place p e
  left_same p e f InName = refl
  left_same p e f (InParen r) = refl
  left_same p e f (InUnary r) = refl
  left_same p e f (InLeft r) = refl
  left_same p e f (InRight r) = refl
  left_same p e f (InOperand r) = refl
  left_same p e f InSelector = refl
  left_same p e f (InCallee r) = refl
  left_same p e f (InArguments r) = refl
  left_same p e f (InLiteralType r) = refl
  left_same p e f (InElements r) = refl
  left_same p e f (InStructType r) = refl
  left_same p e f (InStructElements r) = refl

  name_same : (e f : ExprTree) → Respells x name e f → is_name e ≡ is_name f
  name_same e f InName = refl
  name_same e f (InParen r) = refl
  name_same e f (InUnary r) = refl
  name_same e f (InLeft r) = refl
  name_same e f (InRight r) = refl
  name_same e f (InOperand r) = refl
  name_same e f InSelector = refl
  name_same e f (InCallee r) = refl
  name_same e f (InArguments r) = refl
  name_same e f (InLiteralType r) = refl
  name_same e f (InElements r) = refl
  name_same e f (InStructType r) = refl
  name_same e f (InStructElements r) = refl

  literal_same : (e f : ExprTree) → Respells x name e f → is_literal e ≡ is_literal f
  literal_same e f InName = refl
  literal_same e f (InParen r) = literal_same _ _ r
  literal_same e f (InUnary r) = refl
  literal_same e f (InLeft r) = refl
  literal_same e f (InRight r) = refl
  literal_same e f (InOperand r) = refl
  literal_same e f InSelector = refl
  literal_same e f (InCallee r) = refl
  literal_same e f (InArguments r) = refl
  literal_same e f (InLiteralType r) = refl
  literal_same e f (InElements r) = refl
  literal_same e f (InStructType r) = refl
  literal_same e f (InStructElements r) = refl

  call_same : (e f : ExprTree) → Respells x name e f → is_call e ≡ is_call f
  call_same e f InName = refl
  call_same e f (InParen r) = call_same _ _ r
  call_same e f (InUnary r) = refl
  call_same e f (InLeft r) = refl
  call_same e f (InRight r) = refl
  call_same e f (InOperand r) = refl
  call_same e f InSelector = refl
  call_same e f (InCallee r) = refl
  call_same e f (InArguments r) = refl
  call_same e f (InLiteralType r) = refl
  call_same e f (InElements r) = refl
  call_same e f (InStructType r) = refl
  call_same e f (InStructElements r) = refl

  lone_first : (key : Option Key) (e f : ExprTree) (comma : Option Span) (rest : ItemTrees) → is_call e ≡ is_call f → is_lone_call (Item key e comma rest) ≡ is_lone_call (Item key f comma rest)
  lone_first key e f comma NoItems h = h
  lone_first key e f comma (Item key2 e2 comma2 more) h = refl

  lone_later : (key : Option Key) (e : ExprTree) (comma : Option Span) (rest more : ItemTrees) → RespellsArgs x name rest more → is_lone_call (Item key e comma rest) ≡ is_lone_call (Item key e comma more)
  lone_later key e comma rest more (InArgument r) = refl
  lone_later key e comma rest more (InLaterArguments r) = refl

  lone_same : (xs ys : ItemTrees) → RespellsArgs x name xs ys → is_lone_call xs ≡ is_lone_call ys
  lone_same xs ys (InArgument {key} {e} {f} {comma} {rest} r) = lone_first key e f comma rest (call_same e f r)
  lone_same xs ys (InLaterArguments {key} {e} {comma} {rest} {more} r) = lone_later key e comma rest more r

-- A name that is looked up stands in the same context by any look-ups. What is behind a dot leaves the names as they were that are needed, and stands
-- in the same context where these are seen alike. What is an element of a literal leaves them as they were, and all that is denoted.

pub data Change (T D P : Type 0) (Sees : List Ident → Type 0) (x : Ident) (name : List ℕ) (Same : Type 0) (xs ys : List Ident) (ps bs : List (Spot T D P)) : Type 0 where
  OfName : Split T D P x name ps bs → Change T D P Sees x name Same xs ys ps bs
  OfSelector : xs ≡ ys → (Sees xs → Split T D P x name ps bs) → Change T D P Sees x name Same xs ys ps bs
  OfElement : xs ≡ ys → Same → Change T D P Sees x name Same xs ys ps bs

module _ {T D P : Type 0} (Sees : List Ident → Type 0) (left : (xs ys : List Ident) → Sees (xs ++ ys) → Sees xs) (right : (xs ys : List Ident) → Sees (xs ++ ys) → Sees ys) (x : Ident) (name : List ℕ) where
  abbrev Changes : Type 0 → List Ident → List Ident → List (Spot T D P) → List (Spot T D P) → Type 0
  Changes Same xs ys ps bs = Change T D P Sees x name Same xs ys ps bs

  changed : {Q R : Type 0} (xs ys : List Ident) (ps bs : List (Spot T D P)) → (Q → R) → Changes Q xs ys ps bs → Changes R xs ys ps bs
  changed xs ys ps bs f (OfName s) = OfName s
  changed xs ys ps bs f (OfSelector q s) = OfSelector q s
  changed xs ys ps bs f (OfElement q same) = OfElement q (f same)

  -- with more spots behind
  in_front : {Q R : Type 0} (xs ys : List Ident) (ps ps' bs bs' : List (Spot T D P)) → (Q → R) → Changes Q xs ys ps ps' → Changes R xs ys (ps ++ bs) (ps' ++ bs')
  in_front xs ys ps ps' bs bs' f (OfName s) = OfName (in_left x name ps ps' bs bs' s)
  in_front xs ys ps ps' bs bs' f (OfSelector q s) = OfSelector q (λ sees. in_left x name ps ps' bs bs' (s sees))
  in_front xs ys ps ps' bs bs' f (OfElement q same) = OfElement q (f same)

  -- with more names and spots behind
  on_left : {Q R : Type 0} (xs ys zs : List Ident) (ps ps' bs bs' : List (Spot T D P)) → (Q → R) → Changes Q xs ys ps ps' → Changes R (xs ++ zs) (ys ++ zs) (ps ++ bs) (ps' ++ bs')
  on_left xs ys zs ps ps' bs bs' f (OfName s) = OfName (in_left x name ps ps' bs bs' s)
  on_left xs ys zs ps ps' bs bs' f (OfSelector q s) = OfSelector (ap (λ l. l ++ zs) q) (λ sees. in_left x name ps ps' bs bs' (s (left xs zs sees)))
  on_left xs ys zs ps ps' bs bs' f (OfElement q same) = OfElement (ap (λ l. l ++ zs) q) (f same)

  -- with more names and spots before
  on_right : {Q R : Type 0} (zs xs ys : List Ident) (ps ps' bs bs' : List (Spot T D P)) → len ps ≡ len ps' → (Q → R) → Changes Q xs ys bs bs' → Changes R (zs ++ xs) (zs ++ ys) (ps ++ bs) (ps' ++ bs')
  on_right zs xs ys ps ps' bs bs' long f (OfName s) = OfName (in_right x name ps ps' bs bs' long s)
  on_right zs xs ys ps ps' bs bs' long f (OfSelector q s) = OfSelector (ap (λ l. zs ++ l) q) (λ sees. in_right x name ps ps' bs bs' long (s (right zs xs sees)))
  on_right zs xs ys ps ps' bs bs' long f (OfElement q same) = OfElement (ap (λ l. zs ++ l) q) (f same)

  module _ {S : Type 0} (looks other : Looks T S D P) (named : (y : Ident) → Sees (y ∷ []) → (ident_answer looks stands.TypeDot y).denoted ≡ (ident_answer other stands.TypeDot y).denoted) where
    -- types, in which no element stands

    pub of_name : (n m : TypeName) → RespellsName x name n m → Changes ⊥ (type_name_idents n) (type_name_idents m) (type_name_spots looks n) (type_name_spots other m)
    of_name n m InPlain = OfName (here x name _ _ refl [] [])
    of_name n m InQualifier = OfName (here x name _ _ refl _ _)
    of_name n m (BehindDot {q = q}) = OfSelector refl (λ sees. in_right x name (_ ∷ []) (_ ∷ []) _ _ refl (here x name _ _ (ap (λ d. SelectorBehind usages.«Type» (dot_of true d)) (named q sees)) [] []))

    never : ⊥ → ⊥
    never h = h

    mutual
      pub of_type : (t u : TypeTree) → RespellsType x name t u → Changes ⊥ (type_idents t) (type_idents u) (type_spots looks t) (type_spots other u)
      of_type t u (InNamedType r) = of_name _ _ r
      of_type t u (InPointer r) = of_type _ _ r
      of_type t u (InParenType r) = of_type _ _ r
      of_type t u (InStruct r) = of_fields _ _ r
      of_type t u (InInterface r) = of_methods _ _ r

      of_fields : (ls ms : FieldTrees) → RespellsFields x name ls ms → Changes ⊥ (fields_idents ls) (fields_idents ms) (fields_spots looks ls) (fields_spots other ms)
      of_fields ls ms (InFieldType {t = t} {u = u} {rest = rest} r) = on_left (type_idents t) (type_idents u) (fields_idents rest) _ _ _ _ never (of_type t u r)
      of_fields ls ms (InLaterFields {t = t} {rest = rest} {more = more} r) = on_right (type_idents t) (fields_idents rest) (fields_idents more) _ _ _ _ (type_len looks other t) never (of_fields rest more r)
      of_fields ls ms (InEmbedded {n = n} {m = m} {rest = rest} r) = on_left (type_name_idents n) (type_name_idents m) (fields_idents rest) _ _ _ _ never (of_name n m r)
      of_fields ls ms (BehindEmbedded {n = n} {rest = rest} {more = more} r) = on_right (type_name_idents n) (fields_idents rest) (fields_idents more) _ _ _ _ (name_len looks other n) never (of_fields rest more r)

      of_methods : (ls ms : MethodTrees) → RespellsMethods x name ls ms → Changes ⊥ (methods_idents ls) (methods_idents ms) (methods_spots looks ls) (methods_spots other ms)
      of_methods ls ms (InMethod {a = a} {b = b} {rest = rest} r) = on_left (signature_type_idents a) (signature_type_idents b) (methods_idents rest) _ _ _ _ never (of_signature a b r)
      of_methods ls ms (InLaterMethods {a = a} {rest = rest} {more = more} r) = on_right (signature_type_idents a) (methods_idents rest) (methods_idents more) _ _ _ _ (signature_len looks other a) never (of_methods rest more r)

      pub of_signature : (a b : SignatureTree) → RespellsSignature x name a b → Changes ⊥ (signature_type_idents a) (signature_type_idents b) (signature_spots looks a) (signature_spots other b)
      of_signature a b (InParams {ps = ps} {qs = qs} {r = res} r) = on_left (params_idents ps) (params_idents qs) (result_type_idents res) _ _ _ _ never (of_params ps qs r)
      of_signature a b (InResult {ps = ps} {r = res} {q = q} r) = on_right (params_idents ps) (result_type_idents res) (result_type_idents q) _ _ _ _ (params_len looks other ps) never (of_result res q r)

      of_result : (a b : ResultTree) → RespellsResult x name a b → Changes ⊥ (result_type_idents a) (result_type_idents b) (result_spots looks a) (result_spots other b)
      of_result a b (InOneResult r) = of_type _ _ r
      of_result a b (InResults r) = of_params _ _ r

      of_params : (ps qs : ParamTrees) → RespellsParams x name ps qs → Changes ⊥ (params_idents ps) (params_idents qs) (params_spots looks ps) (params_spots other qs)
      of_params ps qs (InParam {t = t} {u = u} {rest = rest} r) = on_left (type_idents t) (type_idents u) (params_idents rest) _ _ _ _ never (of_type t u r)
      of_params ps qs (InLaterParams {t = t} {rest = rest} {more = more} r) = on_right (type_idents t) (params_idents rest) (params_idents more) _ _ _ _ (type_len looks other t) never (of_params rest more r)

    -- expressions

    abbrev Alike : ExprTree → ExprTree → Type 0
    Alike e f = (l : Looks T S D P) (p : Stand) → denoted l p e ≡ denoted l p f

    abbrev AlikeItems : ItemTrees → ItemTrees → Type 0
    AlikeItems xs ys = (l : Looks T S D P) → denoted_items l xs ≡ denoted_items l ys

    unary_alike : (op : _) (span : Span) (e f : ExprTree) → Respells x name e f → Alike e f → Alike (Unary op span e) (Unary op span f)
    unary_alike op span e f r same l p =
        ap (λ b. (unary_of l.types op b (denoted l (under_place op p) e)).denoted) (literal_same x name e f r)
        ∙ ap (λ d. (unary_of l.types op (is_literal f) d).denoted) (same l (under_place op p))

    operand_alike : (e f : ExprTree) (dot : Span) (y : Ident) → Respells x name e f → Alike e f → Alike (Select e dot y) (Select f dot y)
    operand_alike e f dot y r same l p =
        ap (λ b. (selector_answer (look_of_place l y.span.start) (whole p) (dot_of b (denoted l (left_place p e) e)) y.name).denoted) (name_same x name e f r)
        ∙ (ap (λ d. (selector_answer (look_of_place l y.span.start) (whole p) (dot_of (is_name f) d) y.name).denoted) (same l (left_place p e))
        ∙ ap (λ q. (selector_answer (look_of_place l y.span.start) (whole p) (dot_of (is_name f) (denoted l q f)) y.name).denoted) (sym (left_same x name p e f r)))

    args_alike : (e : ExprTree) (first last : Span) (xs ys : ItemTrees) → RespellsArgs x name xs ys → AlikeItems xs ys → Alike (Call e first xs last) (Call e first ys last)
    args_alike e first last xs ys r same l p =
        ap (λ b. (call_answer (look_of_place l first.start) (denoted l stands.Callee e) (is_free b (denoted_items l xs)) (arguments_of (look_of_place l first.start) (denoted_items l xs))).denoted) (lone_same x name xs ys r)
        ∙ ap (λ ds. (call_answer (look_of_place l first.start) (denoted l stands.Callee e) (is_free (is_lone_call ys) ds) (arguments_of (look_of_place l first.start) ds)).denoted) (same l)

    module _ (seen : (p : Stand) (e : ExprTree) → Sees (needed_idents e) → denoted looks p e ≡ denoted other p e) where
      mutual
        pub of_expr : (p : Stand) (e f : ExprTree) → Respells x name e f → Changes (Alike e f) (needed_idents e) (needed_idents f) (spots looks p e) (spots other p f)
        of_expr p e f InName = OfName (here x name _ _ refl [] [])
        of_expr p e f (InParen {e = a} {f = b} r) = changed (needed_idents a) (needed_idents b) _ _ (λ same l p. same l (inside p)) (of_expr (inside p) a b r)
        of_expr p e f (InUnary {op = op} {span = span} {e = a} {f = b} r) = changed (needed_idents a) (needed_idents b) _ _ (unary_alike op span a b r) (of_expr (under_place op p) a b r)
        of_expr p e f (InLeft {op = op} {a = a} {b = b} {c = c} r) =
            on_left (needed_idents a) (needed_idents c) (needed_idents b) _ _ _ _ (λ same l p. ap (λ d. (binary_of l.types op d (denoted l stands.«Value» b)).denoted) (same l stands.«Value»)) (of_expr stands.«Value» a c r)
        of_expr p e f (InRight {op = op} {a = a} {b = b} {c = c} r) =
            on_right (needed_idents a) (needed_idents b) (needed_idents c) _ _ _ _ (expr_len looks other stands.«Value» a)
            (λ same l p. ap (λ d. (binary_of l.types op (denoted l stands.«Value» a) d).denoted) (same l stands.«Value»)) (of_expr stands.«Value» b c r)
        of_expr p e f (InOperand {dot = dot} {y = y} {e = a} {f = b} r) =
            in_front (needed_idents a) (needed_idents b) _ _ _ _ (operand_alike a b dot y r)
            (let At : Stand → Type 0 = λ q. Changes (Alike a b) (needed_idents a) (needed_idents b) (spots looks (left_place p a) a) (spots other q b) in
            subst At (sym (left_same x name p a b r)) (of_expr (left_place p a) a b r))
        of_expr p e f (InSelector {e = a}) =
            OfSelector refl
            (λ sees. in_right x name (spots looks (left_place p a) a) (spots other (left_place p a) a) _ _ (expr_len looks other (left_place p a) a)
            (here x name _ _ (ap (λ d. SelectorBehind (whole p) (dot_of (is_name a) d)) (seen (left_place p a) a sees)) [] []))
        of_expr p e f (InCallee {first = first} {items = items} {e = a} {f = b} r) =
            on_left (needed_idents a) (needed_idents b) (needed_by_args items) _ _ _ _
            (λ same l p. ap (λ d. (call_answer (look_of_place l first.start) d (is_free (is_lone_call items) (denoted_items l items)) (arguments_of (look_of_place l first.start) (denoted_items l items))).denoted) (same l stands.Callee))
            (of_expr stands.Callee a b r)
        of_expr p e f (InArguments {first = first} {last = last} {items = xs} {others = ys} {e = a} r) =
            on_right (needed_idents a) (needed_by_args xs) (needed_by_args ys) _ _ _ _ (expr_len looks other stands.Callee a) (args_alike a first last xs ys r)
            (on_right [] (needed_by_args xs) (needed_by_args ys) (_ ∷ []) (_ ∷ []) _ _ refl (λ (same : AlikeItems xs ys). same) (of_args xs ys r))
        of_expr p e f (InLiteralType {n = n} {m = m} r) = in_front (type_name_idents n) (type_name_idents m) _ _ _ _ (λ h. absurd h) (of_name n m r)
        of_expr p e f (InElements r) = OfElement refl (λ l p. refl)
        of_expr p e f (InStructType {t = t} {u = u} r) = in_front (type_idents t) (type_idents u) _ _ _ _ (λ h. absurd h) (of_type t u r)
        of_expr p e f (InStructElements r) = OfElement refl (λ l p. refl)

        of_args : (xs ys : ItemTrees) → RespellsArgs x name xs ys → Changes (AlikeItems xs ys) (needed_by_args xs) (needed_by_args ys) (args_spots looks xs) (args_spots other ys)
        of_args xs ys (InArgument {e = a} {f = b} {rest = rest} r) =
            on_left (needed_idents a) (needed_idents b) (needed_by_args rest) _ _ _ _ (λ same l. ap (λ d. d ∷ denoted_items l rest) (same l stands.«Value»)) (of_expr stands.«Value» a b r)
        of_args xs ys (InLaterArguments {e = a} {rest = rest} {more = more} r) =
            on_right (needed_idents a) (needed_by_args rest) (needed_by_args more) _ _ _ _ (expr_len looks other stands.«Value» a)
            (λ same l. ap (λ ds. denoted l stands.«Value» a ∷ ds) (same l)) (of_args rest more r)
