-- Another spelling of one identifier leaves its context as it was.
use Rattle.std.proofs.Common.{◌≡◌, ◌⊎◌, inl, inr, ℕ, zero, suc, Bool, List, [], ◌∷◌, ◌++◌, map, length, refl, sym, ap, subst, ◌∙◌, append_assoc}
use Rattle.std.specs.Prelude.{Option, Some, None, slice_get}
use Rattle.std.proofs.lemmas.List.{map-append}
use Rattle.go_tree_nodes.specs.declared.names.Ident.{Ident}
use Rattle.go_tree_nodes.specs.declared.exprs.Key.{Key}
use Rattle.go_tree_nodes.specs.declared.types.TypeName.{TypeName}
use Rattle.go_tree_nodes.specs.declared.types.TypeName.TheVariants as type_names
use Rattle.go_tree_nodes.specs.Trees.{TypeTree, FieldTrees, MethodTrees, SignatureTree, ResultTree, ParamTrees, NamedType, Pointer, ParenType, Struct, Interface, NoFields, NamedFields, EmbeddedField, NoMethods, Method, Signed, NoResult, OneResult, Results, NoParams, Param, ExprTree, ItemTrees, Integer, Text, Named, Paren, Unary, Binary, Select, Call, Literal, StructLiteral, NoItems, Item}
use Rattle.go_tree_nodes.specs.Counts.{item_count}
use Rattle.go_denote_core.specs.declared.things.Stand.{Stand}
use Rattle.go_denote_core.specs.declared.things.Stand.TheVariants as stands
use Rattle.go_denote_core.specs.composite.Literals.{keys_among}
use Rattle.go_expr_core.specs.Looks.{Looks}
use Rattle.go_expr_core.specs.Places.{inside, under_place, left_place}
use Rattle.go_expr_core.specs.Denoting.{named_type, written_type}
use Rattle.go_expr_core.specs.Elements.{key_names, all_keys, keys_of, is_mixed}
use Rattle.go_expr_core.specs.Uses.{Context, Spot, Identifier, CallAt, use_of, type_name_spots, type_spots, fields_spots, methods_spots, signature_spots, result_spots, params_spots, key_spots, spots, args_spots, items_spots}
use Rattle.go_expr_core.specs.Respelling.{respelled, RespellsName, InPlain, InQualifier, BehindDot, RespellsType, InNamedType, InPointer, InParenType, InStruct, InInterface, RespellsFields, InFieldType, InLaterFields, InEmbedded, BehindEmbedded, RespellsMethods, InMethod, InLaterMethods, RespellsSignature, InParams, InResult, RespellsResult, InOneResult, InResults, RespellsParams, InParam, InLaterParams, Respells, InName, InParen, InUnary, InLeft, InRight, InOperand, InSelector, InCallee, InArguments, InLiteralType, InElements, InStructType, InStructElements, RespellsArgs, InArgument, InLaterArguments, RespellsItems, InKey, InElement, InLaterElements, NameDecides, StandsAmongSpots, OwnNameDecides}

abbrev pub len : {A : Type 0} → List A → ℕ
len [] = zero
len (x ∷ xs) = suc (len xs)

abbrev pub plus : ℕ → ℕ → ℕ
plus zero n = n
plus (suc m) n = suc (plus m n)

pub len_both : {A : Type 0} (xs ys : List A) → len (xs ++ ys) ≡ plus (len xs) (len ys)
len_both [] ys = refl
len_both (x ∷ xs) ys = ap suc (len_both xs ys)

pub at_seam : {A : Type 0} (xs : List A) (y : A) (ys : List A) → slice_get (xs ++ y ∷ ys) (len xs) ≡ Some y
at_seam [] y ys = refl
at_seam (x ∷ xs) y ys = at_seam xs y ys

pub map_len : {A B : Type 0} (f : A → B) (xs : List A) → len (map f xs) ≡ len xs
map_len f [] = refl
map_len f (x ∷ xs) = ap suc (map_len f xs)

-- at one number of both lists the identifier stands in the same context
record Split (T D P : Type 0) (x : Ident) (name : List ℕ) (ps bs : List (Spot T D P)) : Type 0 where
  context : Context T D
  front : List (Spot T D P)
  front' : List (Spot T D P)
  back : List (Spot T D P)
  back' : List (Spot T D P)
  long : len front ≡ len front'
  before : ps ≡ front ++ Identifier context x ∷ back
  after : bs ≡ front' ++ Identifier context (respelled name x) ∷ back'

module _ {T D P : Type 0} (x : Ident) (name : List ℕ) where
  here : (c : Context T D) (ps bs : List (Spot T D P)) → Split T D P x name (Identifier c x ∷ ps) (Identifier c (respelled name x) ∷ bs)
  here c ps bs = record { context = c; front = []; front' = []; back = ps; back' = bs; long = refl; before = refl; after = refl }

  in_left : (ps ps' bs bs' : List (Spot T D P)) → Split T D P x name ps ps' → Split T D P x name (ps ++ bs) (ps' ++ bs')
  in_left ps ps' bs bs' s = record {
    context = s.context;
    front = s.front;
    front' = s.front';
    back = s.back ++ bs;
    back' = s.back' ++ bs';
    long = s.long;
    before = ap (λ l. l ++ bs) s.before ∙ append_assoc s.front (Identifier s.context x ∷ s.back) bs;
    after = ap (λ l. l ++ bs') s.after ∙ append_assoc s.front' (Identifier s.context (respelled name x) ∷ s.back') bs';
  }

  in_right : (ps ps' bs bs' : List (Spot T D P)) → len ps ≡ len ps' → Split T D P x name bs bs' → Split T D P x name (ps ++ bs) (ps' ++ bs')
  in_right ps ps' bs bs' same s = record {
    context = s.context;
    front = ps ++ s.front;
    front' = ps' ++ s.front';
    back = s.back;
    back' = s.back';
    long = len_both ps s.front ∙ (ap (λ n. plus n (len s.front)) same ∙ (ap (plus (len ps')) s.long ∙ sym (len_both ps' s.front')));
    before = ap (λ l. ps ++ l) s.before ∙ sym (append_assoc ps s.front (Identifier s.context x ∷ s.back));
    after = ap (λ l. ps' ++ l) s.after ∙ sym (append_assoc ps' s.front' (Identifier s.context (respelled name x) ∷ s.back'));
  }

module _ {T S D P : Type 0} (looks : Looks T S D P) (x : Ident) (name : List ℕ) where
  abbrev Stays : List (Spot T D P) → List (Spot T D P) → Type 0
  Stays ps bs = Split T D P x name ps bs

  name_stays : (n m : TypeName) → RespellsName x name n m → Stays (type_name_spots looks n) (type_name_spots looks m)
  name_stays n m InPlain = here x name _ [] []
  name_stays n m InQualifier = here x name _ _ _
  name_stays n m BehindDot = in_right x name (_ ∷ []) (_ ∷ []) _ _ refl (here x name _ [] [])

  mutual
    type_stays : (t u : TypeTree) → RespellsType x name t u → Stays (type_spots looks t) (type_spots looks u)
    type_stays t u (InNamedType r) = name_stays _ _ r
    type_stays t u (InPointer r) = type_stays _ _ r
    type_stays t u (InParenType r) = type_stays _ _ r
    type_stays t u (InStruct r) = fields_stay _ _ r
    type_stays t u (InInterface r) = methods_stay _ _ r

    fields_stay : (ls ms : FieldTrees) → RespellsFields x name ls ms → Stays (fields_spots looks ls) (fields_spots looks ms)
    fields_stay ls ms (InFieldType r) = in_left x name _ _ _ _ (type_stays _ _ r)
    fields_stay ls ms (InLaterFields r) = in_right x name _ _ _ _ refl (fields_stay _ _ r)
    fields_stay ls ms (InEmbedded r) = in_left x name _ _ _ _ (name_stays _ _ r)
    fields_stay ls ms (BehindEmbedded r) = in_right x name _ _ _ _ refl (fields_stay _ _ r)

    methods_stay : (ls ms : MethodTrees) → RespellsMethods x name ls ms → Stays (methods_spots looks ls) (methods_spots looks ms)
    methods_stay ls ms (InMethod r) = in_left x name _ _ _ _ (signature_stays _ _ r)
    methods_stay ls ms (InLaterMethods r) = in_right x name _ _ _ _ refl (methods_stay _ _ r)

    signature_stays : (a b : SignatureTree) → RespellsSignature x name a b → Stays (signature_spots looks a) (signature_spots looks b)
    signature_stays a b (InParams r) = in_left x name _ _ _ _ (params_stay _ _ r)
    signature_stays a b (InResult r) = in_right x name _ _ _ _ refl (result_stays _ _ r)

    result_stays : (a b : ResultTree) → RespellsResult x name a b → Stays (result_spots looks a) (result_spots looks b)
    result_stays a b (InOneResult r) = type_stays _ _ r
    result_stays a b (InResults r) = params_stay _ _ r

    params_stay : (ps qs : ParamTrees) → RespellsParams x name ps qs → Stays (params_spots looks ps) (params_spots looks qs)
    params_stay ps qs (InParam r) = in_left x name _ _ _ _ (type_stays _ _ r)
    params_stay ps qs (InLaterParams r) = in_right x name _ _ _ _ refl (params_stay _ _ r)

  left_same : (p : Stand) (e f : ExprTree) → Respells x name e f → left_place p f ≡ left_place p e
  left_same p e f InName = refl
  left_same p e f (InParen r) = refl
  left_same p e f (InUnary r) = refl
  left_same p e f (InLeft r) = refl
  left_same p e f (InRight r) = refl
  left_same p e f (InOperand r) = refl
  left_same p e f InSelector = refl
  left_same p e f (InCallee r) = refl
  left_same p e f (InArguments r) = refl
  left_same p e f (InLiteralType r) = refl
  left_same p e f (InElements r) = refl
  left_same p e f (InStructType r) = refl
  left_same p e f (InStructElements r) = refl

  count_same : (xs ys : ItemTrees) → RespellsItems x name xs ys → item_count xs ≡ item_count ys
  count_same xs ys InKey = refl
  count_same xs ys (InElement r) = refl
  count_same xs ys (InLaterElements r) = ap suc (count_same _ _ r)

  one_key : (key : Option Key) (e f : ExprTree) (xs ys : ItemTrees) → length (all_keys xs) ≡ length (all_keys ys) → length (all_keys (Item key e None xs)) ≡ length (all_keys (Item key f None ys))
  one_key None e f xs ys h = h
  one_key (Some k) e f xs ys h = ap suc h

  commas : (key : Option Key) (e : ExprTree) (c : _) (xs : ItemTrees) → length (all_keys (Item key e c xs)) ≡ length (all_keys (Item key e None xs))
  commas None e c xs = refl
  commas (Some k) e c xs = refl

  keys_same : (xs ys : ItemTrees) → RespellsItems x name xs ys → length (all_keys xs) ≡ length (all_keys ys)
  keys_same xs ys InKey = refl
  keys_same xs ys (InElement {key} {e} {f} {comma} {rest} r) = commas key e comma rest ∙ (one_key key e f rest rest refl ∙ sym (commas key f comma rest))
  keys_same xs ys (InLaterElements {key} {e} {comma} {rest} {more} r) = commas key e comma rest ∙ (one_key key e e rest more (keys_same rest more r) ∙ sym (commas key e comma more))

  mixed_same : (xs ys : ItemTrees) → RespellsItems x name xs ys → is_mixed (keys_of xs) ≡ is_mixed (keys_of ys)
  mixed_same xs ys r = ap is_mixed (ap (λ n. keys_among n (length (all_keys xs))) (count_same xs ys r) ∙ ap (keys_among (item_count ys)) (keys_same xs ys r))

  key_len : (t : Option T) (m : Bool) (others more : List (List ℕ)) (key : Option Key) → len (key_spots {T = T} {D = D} {P = P} t m others key) ≡ len (key_spots {T = T} {D = D} {P = P} t m more key)
  key_len t m others more None = refl
  key_len t m others more (Some k) = refl

  -- the elements of a literal, whose keys look at whether all have keys
  with_keys : (t : Option T) (xs ys : ItemTrees) → RespellsItems x name xs ys
      → Stays (items_spots looks t (is_mixed (keys_of xs)) [] xs) (items_spots looks t (is_mixed (keys_of xs)) [] ys) → Stays (items_spots looks t (is_mixed (keys_of xs)) [] xs) (items_spots looks t (is_mixed (keys_of ys)) [] ys)
  with_keys t xs ys r kept =
      let With : Bool → Type 0 = λ m. Stays (items_spots looks t (is_mixed (keys_of xs)) [] xs) (items_spots looks t m [] ys) in
      subst With (mixed_same xs ys r) kept

  mutual
    stays : (p : Stand) (e f : ExprTree) → Respells x name e f → Stays (spots looks p e) (spots looks p f)
    stays p e f InName = here x name _ [] []
    stays p e f (InParen r) = stays (inside p) _ _ r
    stays p e f (InUnary {op = op} r) = stays (under_place op p) _ _ r
    stays p e f (InLeft r) = in_left x name _ _ _ _ (stays stands.«Value» _ _ r)
    stays p e f (InRight r) = in_right x name _ _ _ _ refl (stays stands.«Value» _ _ r)
    stays p e f (InOperand {e = a} {f = b} r) =
        in_left x name _ _ _ _ (let At : Stand → Type 0 = λ q. Stays (spots looks (left_place p a) a) (spots looks q b) in subst At (sym (left_same p a b r)) (stays (left_place p a) a b r))
    stays p e f (InSelector {e = a}) = in_right x name _ _ _ _ refl (here x name _ [] [])
    stays p e f (InCallee r) = in_left x name _ _ _ _ (stays stands.Callee _ _ r)
    stays p e f (InArguments {items = xs} {others = ys} r) = in_right x name _ _ _ _ refl (in_right x name (_ ∷ []) (_ ∷ []) _ _ refl (args_stay xs ys r))
    stays p e f (InLiteralType r) = in_left x name _ _ _ _ (name_stays _ _ r)
    stays p e f (InElements {items = xs} {others = ys} {n = n} r) = in_right x name _ _ _ _ refl (with_keys (named_type looks n) xs ys r (items_stay (named_type looks n) (is_mixed (keys_of xs)) [] xs ys r))
    stays p e f (InStructType r) = in_left x name _ _ _ _ (type_stays _ _ r)
    stays p e f (InStructElements {items = xs} {others = ys} {t = t} r) = in_right x name _ _ _ _ refl (with_keys (written_type looks t) xs ys r (items_stay (written_type looks t) (is_mixed (keys_of xs)) [] xs ys r))

    args_stay : (xs ys : ItemTrees) → RespellsArgs x name xs ys → Stays (args_spots looks xs) (args_spots looks ys)
    args_stay xs ys (InArgument r) = in_left x name _ _ _ _ (stays stands.«Value» _ _ r)
    args_stay xs ys (InLaterArguments r) = in_right x name _ _ _ _ refl (args_stay _ _ r)

    items_stay : (t : Option T) (m : Bool) (before : List (List ℕ)) (xs ys : ItemTrees) → RespellsItems x name xs ys → Stays (items_spots looks t m before xs) (items_spots looks t m before ys)
    items_stay t m before xs ys InKey = here x name _ _ _
    items_stay t m before xs ys (InElement {key} r) = in_right x name _ _ _ _ refl (in_left x name _ _ _ _ (stays stands.«Value» _ _ r))
    items_stay t m before xs ys (InLaterElements {key} {e} {comma} {rest} {more} r) =
        in_right x name _ _ _ _ (key_len t m (before ++ all_keys rest) (before ++ all_keys more) key) (in_right x name _ _ _ _ refl (items_stay t m (before ++ key_names key) rest more r))

-- each identifier can be respelled

pub either : {A B C : Type 0} → A ⊎ B → (A → C) → (B → C) → C
either (inl a) f g = f a
either (inr b) f g = g b

apart : {T D P : Type 0} (x : Ident) (ps qs : List (Spot T D P)) → StandsAmongSpots x (ps ++ qs) → StandsAmongSpots x ps ⊎ StandsAmongSpots x qs
apart x [] qs h = inr h
apart x (Identifier c y ∷ ps) qs (inl h) = inl (inl h)
apart x (Identifier c y ∷ ps) qs (inr h) = either (apart x ps qs h) (λ k. inl (inr k)) inr
apart x (CallAt s o ∷ ps) qs h = apart x ps qs h

module _ {T S D P : Type 0} (looks : Looks T S D P) (x : Ident) (name : List ℕ) where
  each_name : (n : TypeName) → StandsAmongSpots x (type_name_spots looks n) → (m : TypeName) × RespellsName x name n m
  each_name (type_names.Plain y) h =
      either h (λ q. let With : Ident → Type 0 = λ z. (m : TypeName) × RespellsName x name (type_names.Plain z) m in subst With (sym q) (type_names.Plain (respelled name x), InPlain)) absurd
  each_name (type_names.Qualified y dot z) h =
      either h
      (λ q. let With : Ident → Type 0 = λ w. (m : TypeName) × RespellsName x name (type_names.Qualified w dot z) m in subst With (sym q) (type_names.Qualified (respelled name x) dot z, InQualifier))
      (λ k. either k (λ q. let With : Ident → Type 0 = λ w. (m : TypeName) × RespellsName x name (type_names.Qualified y dot w) m in subst With (sym q) (type_names.Qualified y dot (respelled name x), BehindDot)) absurd)

  mutual
    each_type : (t : TypeTree) → StandsAmongSpots x (type_spots looks t) → (u : TypeTree) × RespellsType x name t u
    each_type (NamedType n) h = let r = each_name n h in (NamedType r.0, InNamedType r.1)
    each_type (Pointer star t) h = let r = each_type t h in (Pointer star r.0, InPointer r.1)
    each_type (ParenType first t last) h = let r = each_type t h in (ParenType first r.0 last, InParenType r.1)
    each_type (Struct k first ls last) h = let r = each_fields ls h in (Struct k first r.0 last, InStruct r.1)
    each_type (Interface k first ms last) h = let r = each_methods ms h in (Interface k first r.0 last, InInterface r.1)

    each_fields : (ls : FieldTrees) → StandsAmongSpots x (fields_spots looks ls) → (ms : FieldTrees) × RespellsFields x name ls ms
    each_fields NoFields h = absurd h
    each_fields (NamedFields xs t tag s rest) h =
        either (apart x (type_spots looks t) (fields_spots looks rest) h)
        (λ k. let r = each_type t k in (NamedFields xs r.0 tag s rest, InFieldType r.1))
        (λ k. let r = each_fields rest k in (NamedFields xs t tag s r.0, InLaterFields r.1))
    each_fields (EmbeddedField star n tag s rest) h =
        either (apart x (type_name_spots looks n) (fields_spots looks rest) h)
        (λ k. let r = each_name n k in (EmbeddedField star r.0 tag s rest, InEmbedded r.1))
        (λ k. let r = each_fields rest k in (EmbeddedField star n tag s r.0, BehindEmbedded r.1))

    each_methods : (ms : MethodTrees) → StandsAmongSpots x (methods_spots looks ms) → (ns : MethodTrees) × RespellsMethods x name ms ns
    each_methods NoMethods h = absurd h
    each_methods (Method y signature s rest) h =
        either (apart x (signature_spots looks signature) (methods_spots looks rest) h)
        (λ k. let r = each_signature signature k in (Method y r.0 s rest, InMethod r.1))
        (λ k. let r = each_methods rest k in (Method y signature s r.0, InLaterMethods r.1))

    each_signature : (a : SignatureTree) → StandsAmongSpots x (signature_spots looks a) → (b : SignatureTree) × RespellsSignature x name a b
    each_signature (Signed first ps last outcome) h =
        either (apart x (params_spots looks ps) (result_spots looks outcome) h)
        (λ k. let r = each_params ps k in (Signed first r.0 last outcome, InParams r.1))
        (λ k. let r = each_result outcome k in (Signed first ps last r.0, InResult r.1))

    each_result : (a : ResultTree) → StandsAmongSpots x (result_spots looks a) → (b : ResultTree) × RespellsResult x name a b
    each_result NoResult h = absurd h
    each_result (OneResult t) h = let r = each_type t h in (OneResult r.0, InOneResult r.1)
    each_result (Results first ps last) h = let r = each_params ps h in (Results first r.0 last, InResults r.1)

    each_params : (ps : ParamTrees) → StandsAmongSpots x (params_spots looks ps) → (qs : ParamTrees) × RespellsParams x name ps qs
    each_params NoParams h = absurd h
    each_params (Param xs t comma rest) h =
        either (apart x (type_spots looks t) (params_spots looks rest) h)
        (λ k. let r = each_type t k in (Param xs r.0 comma rest, InParam r.1))
        (λ k. let r = each_params rest k in (Param xs t comma r.0, InLaterParams r.1))

  mutual
    each_expr : (p : Stand) (e : ExprTree) → StandsAmongSpots x (spots looks p e) → (f : ExprTree) × Respells x name e f
    each_expr p (Integer n span) h = absurd h
    each_expr p (Text t) h = absurd h
    each_expr p (Named y) h =
        either h (λ q. let With : Ident → Type 0 = λ z. (f : ExprTree) × Respells x name (Named z) f in subst With (sym q) (Named (respelled name x), InName)) absurd
    each_expr p (Paren first e last) h = let r = each_expr (inside p) e h in (Paren first r.0 last, InParen r.1)
    each_expr p (Unary op span e) h = let r = each_expr (under_place op p) e h in (Unary op span r.0, InUnary r.1)
    each_expr p (Binary a op span b) h =
        either (apart x (spots looks stands.«Value» a) (spots looks stands.«Value» b) h)
        (λ k. let r = each_expr stands.«Value» a k in (Binary r.0 op span b, InLeft r.1))
        (λ k. let r = each_expr stands.«Value» b k in (Binary a op span r.0, InRight r.1))
    each_expr p (Select e dot y) h =
        either (apart x (spots looks (left_place p e) e) _ h)
        (λ k. let r = each_expr (left_place p e) e k in (Select r.0 dot y, InOperand r.1))
        (λ k. either k (λ q. let With : Ident → Type 0 = λ z. (f : ExprTree) × Respells x name (Select e dot z) f in subst With (sym q) (Select e dot (respelled name x), InSelector)) absurd)
    each_expr p (Call e first items last) h =
        either (apart x (spots looks stands.Callee e) _ h)
        (λ k. let r = each_expr stands.Callee e k in (Call r.0 first items last, InCallee r.1))
        (λ k. let r = each_args items k in (Call e first r.0 last, InArguments r.1))
    each_expr p (Literal n first items last) h =
        either (apart x (type_name_spots looks n) _ h)
        (λ k. let r = each_name n k in (Literal r.0 first items last, InLiteralType r.1))
        (λ k. let r = each_items (named_type looks n) (is_mixed (keys_of items)) [] items k in (Literal n first r.0 last, InElements r.1))
    each_expr p (StructLiteral t first items last) h =
        either (apart x (type_spots looks t) _ h)
        (λ k. let r = each_type t k in (StructLiteral r.0 first items last, InStructType r.1))
        (λ k. let r = each_items (written_type looks t) (is_mixed (keys_of items)) [] items k in (StructLiteral t first r.0 last, InStructElements r.1))

    each_args : (items : ItemTrees) → StandsAmongSpots x (args_spots looks items) → (others : ItemTrees) × RespellsArgs x name items others
    each_args NoItems h = absurd h
    each_args (Item key e comma rest) h =
        either (apart x (spots looks stands.«Value» e) (args_spots looks rest) h)
        (λ k. let r = each_expr stands.«Value» e k in (Item key r.0 comma rest, InArgument r.1))
        (λ k. let r = each_args rest k in (Item key e comma r.0, InLaterArguments r.1))

    each_items : (t : Option T) (m : Bool) (before : List (List ℕ)) (items : ItemTrees) → StandsAmongSpots x (items_spots looks t m before items) → (others : ItemTrees) × RespellsItems x name items others
    each_items t m before NoItems h = absurd h
    each_items t m before (Item None e comma rest) h =
        either (apart x (spots looks stands.«Value» e) (items_spots looks t m (before ++ []) rest) h)
        (λ k. let r = each_expr stands.«Value» e k in (Item None r.0 comma rest, InElement r.1))
        (λ k. let r = each_items t m (before ++ []) rest k in (Item None e comma r.0, InLaterElements r.1))
    each_items t m before (Item (Some key) e comma rest) h =
        either h
        (λ q. let With : Ident → Type 0 = λ y. (others : ItemTrees) × RespellsItems x name (Item (Some (record { name = y; colon = key.colon })) e comma rest) others in
        subst With (sym q) (Item (Some (record { name = respelled name x; colon = key.colon })) e comma rest, InKey))
        (λ g. either (apart x (spots looks stands.«Value» e) (items_spots looks t m (before ++ key.name.name ∷ []) rest) g)
        (λ k. let r = each_expr stands.«Value» e k in (Item (Some key) r.0 comma rest, InElement r.1))
        (λ k. let r = each_items t m (before ++ key.name.name ∷ []) rest k in (Item (Some key) e comma r.0, InLaterElements r.1)))

decides : {T S D P : Type 0} (looks : Looks T S D P) (p : Stand) (x : Ident) (name : List ℕ) (e f : ExprTree) → Respells x name e f → NameDecides T S D P looks p x name e f
decides looks p x name e f r =
    let s = stays looks x name p e f r in
    let made = use_of looks in
    record {
      number = len s.front;
      context = s.context;
      stands = ap (λ l. slice_get l (len s.front)) s.before ∙ at_seam s.front (Identifier s.context x) s.back;
      has =
          ap (λ l. slice_get (map made l) (len s.front)) s.after
          ∙ (ap (λ l. slice_get l (len s.front)) (map-append made s.front' (Identifier s.context (respelled name x) ∷ s.back'))
          ∙ (ap (λ n. slice_get (map made s.front' ++ made (Identifier s.context (respelled name x)) ∷ map made s.back') n) (s.long ∙ sym (map_len made s.front'))
          ∙ at_seam (map made s.front') (made (Identifier s.context (respelled name x))) (map made s.back')));
    }

pub own_name : (T S D P : Type 0) → OwnNameDecides T S D P
own_name T S D P = record { decides = decides; each = λ looks p x name e. each_expr looks x name p e }
