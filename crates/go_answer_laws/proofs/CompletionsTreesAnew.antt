-- Types and expressions in which the identifier that begins at an offset has another spelling.
use Rattle.std.proofs.Common.{◌≡◌, ℕ, Bool, true, false, List, [], ◌∷◌, Option, Some, None, refl, if◌then◌else◌}
use Rattle.go_site_core.specs.text_core.declared.span.Span.{Span}
use Rattle.go_site_core.specs.text_core.Text.{is_blank}
use Rattle.go_tree_nodes.specs.token_core.declared.kind.Operator.TheVariants as operator
use Rattle.go_tree_nodes.specs.declared.names.Ident.{Ident}
use Rattle.go_tree_nodes.specs.declared.names.TextLiteral.{TextLiteral}
use Rattle.go_tree_nodes.specs.declared.types.TypeName.{TypeName}
use Rattle.go_tree_nodes.specs.declared.types.TypeName.TheVariants as type_name
use Rattle.go_tree_nodes.specs.declared.exprs.Key.{Key}
use Rattle.go_tree_nodes.specs.declared.usage.Usage.TheVariants as usage
use Rattle.go_tree_nodes.specs.Terminals.{Terminal}
use Rattle.go_tree_nodes.specs.Rules.{Wf, Wf_items, Wf_exprs}
use Rattle.go_tree_nodes.specs.Spelling.{spell_ident, spell_names, spell_tag, spell_type_name, spell_type, spell_fields, spell_methods, spell_signature, spell_result, spell_params, spell_key, spell, spell_items, spell_exprs}
use Rattle.go_tree_nodes.specs.Trees.{Separated, One, Then, TypeTree, FieldTrees, MethodTrees, SignatureTree, ResultTree, ParamTrees, NamedType, Pointer, ParenType, Struct, Interface, NoFields, NamedFields, EmbeddedField, NoMethods, Method, Signed, NoResult, OneResult, Results, NoParams, Param, ExprTree, ItemTrees, Integer, Text, Named, Paren, Unary, Binary, Select, Call, Literal, StructLiteral, NoItems, Item}
use Rattle.go_tree_core.specs.copies.Respelled.{names_with, type_name_with, type_with, fields_with, methods_with, signature_with, result_with, params_with, some_with, key_with, expr_with, items_with, exprs_with}
use Rattle.go_tree_core.specs.declared.occurrence.Role.TheVariants as role
use Rattle.go_tree_core.specs.declared.occurrence.Context.{Context}
use Rattle.go_tree_core.specs.declared.occurrence.Context.TheVariants as context
use Rattle.go_tree_core.specs.declared.occurrence.Occ.{Occ}
use Rattle.go_tree_core.specs.Occurrences.{occurrence, call_at, type_name_occs, type_occs, fields_occs, methods_occs, signature_occs, result_occs, params_occs, named_occs, inside_context, under, whole_usage, key_occs, expr_occs, items_occs, exprs_occs}
use Rattle.go_stmt_core.specs.expr_core.Respelling.{RespellsName, InPlain, InQualifier, BehindDot, RespellsType, InNamedType, InPointer, InParenType, InStruct, InInterface, RespellsFields, InFieldType, InLaterFields, InEmbedded, BehindEmbedded, RespellsMethods, InMethod, InLaterMethods, RespellsSignature, InParams, InResult, RespellsResult, InOneResult, InResults, RespellsParams, InParam, InLaterParams, Respells, InName, InParen, InUnary, InLeft, InRight, InOperand, InSelector, InCallee, InArguments, InLiteralType, InElements, InStructType, InStructElements, RespellsArgs, InArgument, InLaterArguments, RespellsItems, InKey, InElement, InLaterElements}
use Rattle.go_query_core.specs.complete_core.SpellingTrees.{RespellsExprs, InOnly, InFirst, InLater}
use Rattle.go_answer_laws.specs.completions.Respelled.{ident_of}
use Rattle.go_answer_laws.proofs.CompletionsAnew.{count, h, Anew, Never, fixed, lifted, past, behind, before, some_quiet, pair, three, declared, idents_anew, leaf}

module _ (start : ℕ) (name : List ℕ) where
  -- the relations, each of the identifier that an occurrence is

  abbrev pub OfName : Occ → TypeName → TypeName → Type 0
  OfName o n m = RespellsName (ident_of o) name n m

  abbrev pub OfType : Occ → TypeTree → TypeTree → Type 0
  OfType o t u = RespellsType (ident_of o) name t u

  abbrev pub OfFields : Occ → FieldTrees → FieldTrees → Type 0
  OfFields o t u = RespellsFields (ident_of o) name t u

  abbrev pub OfMethods : Occ → MethodTrees → MethodTrees → Type 0
  OfMethods o t u = RespellsMethods (ident_of o) name t u

  abbrev pub OfSignature : Occ → SignatureTree → SignatureTree → Type 0
  OfSignature o t u = RespellsSignature (ident_of o) name t u

  abbrev pub OfResult : Occ → ResultTree → ResultTree → Type 0
  OfResult o t u = RespellsResult (ident_of o) name t u

  abbrev pub OfParams : Occ → ParamTrees → ParamTrees → Type 0
  OfParams o t u = RespellsParams (ident_of o) name t u

  abbrev pub OfExpr : Occ → ExprTree → ExprTree → Type 0
  OfExpr o t u = Respells (ident_of o) name t u

  abbrev pub OfArgs : Occ → ItemTrees → ItemTrees → Type 0
  OfArgs o t u = RespellsArgs (ident_of o) name t u

  abbrev pub OfItems : Occ → ItemTrees → ItemTrees → Type 0
  OfItems o t u = RespellsItems (ident_of o) name t u

  abbrev pub OfExprs : Occ → Separated ExprTree → Separated ExprTree → Type 0
  OfExprs o t u = RespellsExprs (ident_of o) name t u

  abbrev r : Ident → Ident
  r x = h start name x

  tag_quiet : (t : Option TextLiteral) → count start (spell_tag t) ≡ 0
  tag_quiet None = refl
  tag_quiet (Some t) = refl

  names_anew : (xs : Option (Separated Ident)) → Anew start name Never (spell_names xs) [] xs (names_with r xs)
  names_anew None = fixed start name
  names_anew (Some xs) = lifted start name Some (λ o a b k. k) (idents_anew start name xs)

  -- names of types

  pub type_name_anew : (n : TypeName) → Anew start name OfName (spell_type_name n) (type_name_occs n) n (type_name_with r n)
  type_name_anew (type_name.Plain x) = leaf start name {R = OfName} type_name.Plain x (occurrence role.«Type» x) (type_name_occs (type_name.Plain x)) refl InPlain
  type_name_anew (type_name.Qualified p dot x) =
      let one : (o : Occ) → Ident → Ident → Type 0 = λ o a b. (y : Ident) → OfName o (type_name.Qualified a dot y) (type_name.Qualified b dot y) in
      let two : (o : Occ) → Ident → Ident → Type 0 = λ o a b. (q : Ident) → OfName o (type_name.Qualified q dot a) (type_name.Qualified q dot b) in
      let s : Occ = occurrence (role.Selector usage.«Type») x in
      pair start name {P = one} {Q = two} {R = OfName} {ts = spell_ident p ∷ []} {os = occurrence role.Qualifier p ∷ []} (λ q y. type_name.Qualified q dot y) (λ o a b y k. k y) (λ o q a b k. k q)
      (leaf start name {R = one} (λ q. q) p (occurrence role.Qualifier p) (occurrence role.Qualifier p ∷ []) refl (λ y. InQualifier))
      (past start name (λ n. refl) (leaf start name {R = two} (λ y. y) x s (s ∷ []) refl (λ q. BehindDot)))

  -- types

  mutual
    pub type_anew : (t : TypeTree) → Anew start name OfType (spell_type t) (type_occs t) t (type_with r t)
    type_anew (NamedType n) = lifted start name NamedType (λ o a b k. InNamedType k) (type_name_anew n)
    type_anew (Pointer star t) = past start name (λ n. refl) (lifted start name (λ t. Pointer star t) (λ o a b k. InPointer k) (type_anew t))
    type_anew (ParenType first t last) = past start name (λ n. refl) (before start name _ refl (lifted start name (λ t. ParenType first t last) (λ o a b k. InParenType k) (type_anew t)))
    type_anew (Struct k first ls last) = past start name (λ n. refl) (past start name (λ n. refl) (before start name _ refl (lifted start name (λ t. Struct k first t last) (λ o a b k. InStruct k) (fields_anew ls))))
    type_anew (Interface k first ms last) = past start name (λ n. refl) (past start name (λ n. refl) (before start name _ refl (lifted start name (λ t. Interface k first t last) (λ o a b k. InInterface k) (methods_anew ms))))

    fields_anew : (ls : FieldTrees) → Anew start name OfFields (spell_fields ls) (fields_occs ls) ls (fields_with r ls)
    fields_anew NoFields = fixed start name
    fields_anew (NamedFields xs t tag s rest) =
        three start name {P = Never} {Q = OfType} {S = OfFields} {R = OfFields} {os = []} (λ a b c. NamedFields a b tag s c) (λ o x y b c k. absurd k) (λ o a x y c k. InFieldType k) (λ o a b x y k. InLaterFields k) (idents_anew start name xs) (type_anew t)
        (behind start name _ (tag_quiet tag) (behind start name _ (some_quiet start name operator.Semicolon s) (fields_anew rest)))
    fields_anew (EmbeddedField star n tag s rest) =
        behind start name _ (some_quiet start name operator.Star star)
        (pair start name {P = OfName} {Q = OfFields} {R = OfFields} (λ a b. EmbeddedField star a tag s b) (λ o x y b k. InEmbedded k) (λ o a x y k. BehindEmbedded k) (type_name_anew n)
        (behind start name _ (tag_quiet tag) (behind start name _ (some_quiet start name operator.Semicolon s) (fields_anew rest))))

    methods_anew : (ms : MethodTrees) → Anew start name OfMethods (spell_methods ms) (methods_occs ms) ms (methods_with r ms)
    methods_anew NoMethods = fixed start name
    methods_anew (Method x g s rest) =
        three start name {P = Never} {Q = OfSignature} {S = OfMethods} {R = OfMethods} {ts = spell_ident x ∷ []} {os = []} (λ a b c. Method a b s c) (λ o x y b c k. absurd k) (λ o a x y c k. InMethod k) (λ o a b x y k. InLaterMethods k) (declared start name x) (signature_anew g)
        (behind start name _ (some_quiet start name operator.Semicolon s) (methods_anew rest))

    pub signature_anew : (g : SignatureTree) → Anew start name OfSignature (spell_signature g) (signature_occs g) g (signature_with r g)
    signature_anew (Signed first params last result) =
        past start name (λ n. refl)
        (pair start name {P = OfParams} {Q = OfResult} {R = OfSignature} (λ a b. Signed first a last b) (λ o x y b k. InParams k) (λ o a x y k. InResult k) (params_anew params) (past start name (λ n. refl) (result_anew result)))

    result_anew : (g : ResultTree) → Anew start name OfResult (spell_result g) (result_occs g) g (result_with r g)
    result_anew NoResult = fixed start name
    result_anew (OneResult t) = lifted start name OneResult (λ o a b k. InOneResult k) (type_anew t)
    result_anew (Results first params last) = past start name (λ n. refl) (before start name _ refl (lifted start name (λ p. Results first p last) (λ o a b k. InResults k) (params_anew params)))

    params_anew : (ps : ParamTrees) → Anew start name OfParams (spell_params ps) (params_occs ps) ps (params_with r ps)
    params_anew NoParams = fixed start name
    params_anew (Param xs t comma rest) =
        three start name {P = Never} {Q = OfType} {S = OfParams} {R = OfParams} {os = []} (λ a b c. Param a b comma c) (λ o x y b c k. absurd k) (λ o a x y c k. InParam k) (λ o a b x y k. InLaterParams k) (names_anew xs) (type_anew t)
        (behind start name _ (some_quiet start name operator.Comma comma) (params_anew rest))

  -- expressions

  -- a name alone
  abbrev Single : List Occ → Ident → Type 0
  Single os x = Anew start name OfExpr (spell_ident x ∷ []) os (Named x) (Named (r x))

  named_anew : (p : Context) (x : Ident) → Single (named_occs p x) x
  named_anew context.«Type» x = leaf start name {R = OfExpr} Named x (occurrence role.«Type» x) (occurrence role.«Type» x ∷ []) refl InName
  named_anew context.«Value» x = leaf start name {R = OfExpr} Named x (occurrence role.«Value» x) (occurrence role.«Value» x ∷ []) refl InName
  named_anew context.Callee x = leaf start name {R = OfExpr} Named x (occurrence role.Callee x) (occurrence role.Callee x ∷ []) refl InName
  named_anew context.BeforeDot x = leaf start name {R = OfExpr} Named x (occurrence role.Qualifier x) (occurrence role.Qualifier x ∷ []) refl InName
  named_anew context.Target x = by (is_blank x.name)
    where
      by : (b : Bool) → Single (if b then [] else occurrence role.«Value» x ∷ []) x
      by true = lifted start name Named (λ o a b k. absurd k) (declared start name x)
      by false = leaf start name {R = OfExpr} Named x (occurrence role.«Value» x) (occurrence role.«Value» x ∷ []) refl InName

  key_anew : (k : Option Key) → Anew start name (λ o a b. (e : ExprTree) (c : Option Span) (is : ItemTrees) → OfItems o (Item a e c is) (Item b e c is)) (spell_key k) (key_occs k) k (some_with (key_with r) k)
  key_anew None = fixed start name
  key_anew (Some k) =
      let R : Occ → Option Key → Option Key → Type 0 = λ o a b. (e : ExprTree) (c : Option Span) (is : ItemTrees) → OfItems o (Item a e c is) (Item b e c is) in
      before start name {ts = spell_ident k.name ∷ []} _ refl (leaf start name {R = R} (λ x. Some (record { name = x; colon = k.colon })) k.name (occurrence role.Key k.name) (key_occs (Some k)) refl (λ e c is. InKey))

  -- a call is no identifier
  over_call : {R : Occ → ItemTrees → ItemTrees → Type 0} {ts : List Terminal} {os : List Occ} {a b : ItemTrees} (s : Span) → Anew start name R ts os a b → Anew start name R ts (call_at s ∷ os) a b
  over_call s m = record { same = m.same; fewer = m.fewer; new = m.new }

  mutual
    pub expr_anew : (p : Context) (header : Bool) (e : ExprTree) → Wf header e → Anew start name OfExpr (spell e) (expr_occs p e) e (expr_with r e)
    expr_anew p header (Integer n span) w = fixed start name
    expr_anew p header (Text t) w = fixed start name
    expr_anew p header (Named x) w = named_anew p x
    expr_anew p header (Paren first t last) w = past start name (λ n. refl) (before start name _ refl (lifted start name (λ e. Paren first e last) (λ o a b k. InParen k) (expr_anew (inside_context p) false t w)))
    expr_anew p header (Unary op span t) w = past start name (λ n. refl) (lifted start name (λ e. Unary op span e) (λ o a b k. InUnary k) (expr_anew (under op p) header t w.1))
    expr_anew p header (Binary a op span b) w =
        pair start name {P = OfExpr} {Q = OfExpr} {R = OfExpr} (λ a b. Binary a op span b) (λ o x y b k. InLeft k) (λ o a x y k. InRight k) (expr_anew context.«Value» header a w.1) (past start name (λ n. refl) (expr_anew context.«Value» header b w.3))
    expr_anew p header (Select t dot x) w =
        let two : (o : Occ) → Ident → Ident → Type 0 = λ o a b. (e : ExprTree) → OfExpr o (Select e dot a) (Select e dot b) in
        let s : Occ = occurrence (role.Selector (whole_usage p)) x in
        pair start name {P = OfExpr} {Q = two} {R = OfExpr} (λ e y. Select e dot y) (λ o x y b k. InOperand k) (λ o a x y k. k a) (expr_anew context.BeforeDot header t w.0)
        (past start name (λ n. refl) (leaf start name {R = two} (λ y. y) x s (s ∷ []) refl (λ e. InSelector)))
    expr_anew p header (Call t first items last) w =
        pair start name {P = OfExpr} {Q = OfArgs} {R = OfExpr} (λ e is. Call e first is last) (λ o x y b k. InCallee k) (λ o a x y k. InArguments k) (expr_anew context.Callee header t w.0)
        (past start name (λ n. refl) (before start name _ refl (over_call first (args_anew items w.2))))
    expr_anew p header (Literal n first items last) w =
        pair start name {P = OfName} {Q = OfItems} {R = OfExpr} (λ m is. Literal m first is last) (λ o x y b k. InLiteralType k) (λ o a x y k. InElements k) (type_name_anew n)
        (past start name (λ n. refl) (before start name _ refl (items_anew items w.1)))
    expr_anew p header (StructLiteral t first items last) w =
        pair start name {P = OfType} {Q = OfItems} {R = OfExpr} (λ m is. StructLiteral m first is last) (λ o x y b k. InStructType k) (λ o a x y k. InStructElements k) (type_anew t)
        (past start name (λ n. refl) (before start name _ refl (items_anew items w.2)))

    -- arguments have no keys
    args_anew : (is : ItemTrees) → Wf_items false is → Anew start name OfArgs (spell_items is) (items_occs is) is (items_with r is)
    args_anew NoItems w = fixed start name
    args_anew (Item None t comma rest) w =
        pair start name {P = OfExpr} {Q = OfArgs} {R = OfArgs} (λ e is. Item None e comma is) (λ o x y b k. InArgument k) (λ o a x y k. InLaterArguments k) (expr_anew context.«Value» false t w.1)
        (behind start name _ (some_quiet start name operator.Comma comma) (args_anew rest w.3))
    args_anew (Item (Some k) t comma rest) w = absurd w.0

    items_anew : (is : ItemTrees) → Wf_items true is → Anew start name OfItems (spell_items is) (items_occs is) is (items_with r is)
    items_anew NoItems w = fixed start name
    items_anew (Item key t comma rest) w =
        let keyed : Occ → Option Key → Option Key → Type 0 = λ o a b. (e : ExprTree) (c : Option Span) (is : ItemTrees) → OfItems o (Item a e c is) (Item b e c is) in
        three start name {P = keyed} {Q = OfExpr} {S = OfItems} {R = OfItems} (λ a b c. Item a b comma c) (λ o x y b c k. k b comma c) (λ o a x y c k. InElement k) (λ o a b x y k. InLaterElements k) (key_anew key) (expr_anew context.«Value» false t w.1)
        (behind start name _ (some_quiet start name operator.Comma comma) (items_anew rest w.3))

  pub exprs_anew : (p : Context) (header : Bool) (es : Separated ExprTree) → Wf_exprs header es → Anew start name OfExprs (spell_exprs es) (exprs_occs p es) es (exprs_with r es)
  exprs_anew p header (One t) w = lifted start name One (λ o a b k. InOnly k) (expr_anew p header t w)
  exprs_anew p header (Then t comma more) w =
      pair start name {P = OfExpr} {Q = OfExprs} {R = OfExprs} (λ a b. Then a comma b) (λ o x y b k. InFirst k) (λ o a x y k. InLater k) (expr_anew p header t w.0) (past start name (λ n. refl) (exprs_anew p header more w.1))
