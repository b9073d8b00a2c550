-- An expression is the same to look-ups that have the same of near things, and what it denotes is near.
use Rattle.std.proofs.Common.{◌≡◌, ℕ, suc, Bool, true, List, [], ◌∷◌, ◌++◌, refl, ap, ◌∙◌}
use Rattle.std.specs.Prelude.{Option, Some, None}
use Rattle.go_tree_nodes.specs.token_core.declared.kind.Operator.{Operator}
use Rattle.go_tree_nodes.specs.declared.names.Ident.{Ident}
use Rattle.go_tree_nodes.specs.declared.exprs.Key.{Key}
use Rattle.go_tree_nodes.specs.declared.types.TypeName.{TypeName}
use Rattle.go_tree_nodes.specs.declared.types.TypeName.TheVariants as type_names
use Rattle.go_tree_nodes.specs.declared.usage.Usage.TheVariants as usages
use Rattle.go_tree_nodes.specs.Trees.{TypeTree, FieldTrees, MethodTrees, SignatureTree, ResultTree, ParamTrees, NamedType, Pointer, ParenType, Struct, Interface, NoFields, NamedFields, EmbeddedField, NoMethods, Method, Signed, NoResult, OneResult, Results, NoParams, Param, ExprTree, ItemTrees, Integer, Text, Named, Paren, Unary, Binary, Select, Call, Literal, StructLiteral, NoItems, Item}
use Rattle.go_tree_nodes.specs.Counts.{item_count}
use Rattle.go_report_core.specs.expr_core.Alike.{mapped}
use Rattle.go_tree_core.specs.declared.occurrence.Role.TheVariants as roles
use Rattle.go_report_core.specs.denote_core.declared.things.Stand.{Stand}
use Rattle.go_report_core.specs.denote_core.declared.things.Stand.TheVariants as stands
use Rattle.go_report_core.specs.denote_core.declared.things.Denoted as things
use Rattle.go_report_core.specs.denote_core.declared.things.Denoted.TheVariants as denotes
use Rattle.go_report_core.specs.denote_core.declared.things.Answer.{Answer}
use Rattle.go_report_core.specs.denote_core.Selectors.{dot_of, selector_answer}
use Rattle.go_report_core.specs.denote_core.Arguments.{arguments_of, is_free, single_rule}
use Rattle.go_report_core.specs.denote_core.Calls.{call_answer}
use Rattle.go_report_core.specs.denote_core.declared.composite.things.KeyAnswer.{KeyAnswer}
use Rattle.go_report_core.specs.denote_core.declared.composite.things.Mode.{Mode}
use Rattle.go_report_core.specs.denote_core.CompositeLiterals.{literal_type, literal_denotes}
use Rattle.go_report_core.specs.denote_core.CompositeRepeats.{has_name}
use Rattle.go_report_core.specs.expr_core.Looks.{Looks, look_of_place}
use Rattle.go_report_core.specs.expr_core.Places.{inside, under_place, left_place, whole, is_name, is_literal, is_lone_call, is_several, start, item_start, place_role}
use Rattle.go_tree_nodes.specs.Starts.{type_name_start, type_start}
use Rattle.go_report_core.specs.expr_core.Operators.{unary_of, binary_of}
use Rattle.go_report_core.specs.expr_core.Denoting.{ident_answer, type_name_answer, named_type, written_type, denoted, denoted_items, select_answer}
use Rattle.go_report_core.specs.expr_core.Elements.{key_names, all_keys, keys_of, is_mixed, element_type, element_rule, whole_mode}
use Rattle.go_report_core.specs.expr_core.Uses.{made_use, use_of, uses, spots, type_name_spots, type_name_uses, type_spots, fields_spots, methods_spots, signature_spots, result_spots, params_spots, key_spots, key_uses, args_spots, args_uses, items_spots, items_uses}
use Rattle.go_report_core.specs.expr_core.TypeUses.{type_uses, fields_uses, methods_uses, signature_uses, result_uses, params_uses}
use Rattle.go_report_core.specs.expr_core.Faults.{fault_at, listed_rule, faults, args_faults, items_faults, operand_faults, literal_faults}
use Rattle.go_snap_core.specs.near.Near.{NearRest, IfAny, NearArgument, NearDot, NearDenoted}
use Rattle.go_snap_core.specs.near.Looks.{AreClosed, LooksAgree}
use Rattle.go_snap_core.specs.near.Laws.{IsNearby}
use Rattle.go_snap_core.proofs.NearClosing.{name_near, selector_near, dot_near, arguments_near, call_near}
use Rattle.go_snap_core.proofs.NearAgreeing.{unary_judged, binary_judged, unary_of_near, binary_of_near, name_same, selector_same, call_same, arguments_same, key_same, rule_same, mode_same, target_same, target_near, misfit_same}
use Rattle.go_body_core.specs.stmt_core.StatementLocality.{Each}

module _ {T S D P : Type 0} (Near : T → Type 0) (Rest : NearRest S D) (looks others : Looks T S D P) (law : AreClosed Near Rest looks) (agree : LooksAgree Near Rest looks others) where
  abbrev Denotes : things.Denoted T S D → Type 0
  Denotes d = NearDenoted Near Rest d

  -- names

  pub ident_near : (p : Stand) (x : Ident) → Denotes (ident_answer looks p x).denoted
  ident_near p x = name_near Near Rest looks law x.span.start p x.name

  pub ident_same : (p : Stand) (x : Ident) → ident_answer looks p x ≡ ident_answer others p x
  ident_same p x = name_same Near Rest looks others law agree x.span.start p x.name

  qualifier_near : (x : Ident) → NearDot Near Rest (dot_of true (ident_answer looks stands.TypeDot x).denoted)
  qualifier_near x = dot_near Near Rest looks law true (ident_answer looks stands.TypeDot x).denoted (ident_near stands.TypeDot x)

  type_name_near : (n : TypeName) → Denotes (type_name_answer looks n).denoted
  type_name_near (type_names.Plain x) = ident_near stands.«Type» x
  type_name_near (type_names.Qualified q dot x) = selector_near Near Rest looks law x.span.start usages.«Type» (dot_of true (ident_answer looks stands.TypeDot q).denoted) x.name (qualifier_near q)

  type_name_same : (n : TypeName) → type_name_answer looks n ≡ type_name_answer others n
  type_name_same (type_names.Plain x) = ident_same stands.«Type» x
  type_name_same (type_names.Qualified q dot x) =
      selector_same Near Rest looks others law agree x.span.start usages.«Type» (dot_of true (ident_answer looks stands.TypeDot q).denoted) x.name (qualifier_near q)
      ∙ ap (λ (a : Answer T S D P). selector_answer (look_of_place others x.span.start) usages.«Type» (dot_of true a.denoted) x.name) (ident_same stands.TypeDot q)

  literal_near : (d : things.Denoted T S D) → Denotes d → IfAny Near (literal_type d)
  literal_near (denotes.«Type» d t) h = h
  literal_near denotes.Refused h = tt
  literal_near denotes.Typeless h = tt
  literal_near (denotes.«Package» d) h = tt
  literal_near (denotes.«Value» operand) h = tt
  literal_near (denotes.Several s) h = tt
  literal_near denotes.Nothing h = tt
  literal_near (denotes.Func d s) h = tt
  literal_near (denotes.Builtin d b) h = tt

  pub named_near : (n : TypeName) → IfAny Near (named_type looks n)
  named_near n = literal_near (type_name_answer looks n).denoted (type_name_near n)

  pub named_same : (n : TypeName) → named_type looks n ≡ named_type others n
  named_same n = ap (λ (a : Answer T S D P). literal_type a.denoted) (type_name_same n)

  pub written_near : (t : TypeTree) → IfAny Near (written_type looks t)
  written_near t = law.type_of (named_type looks) t

  pub written_same : (t : TypeTree) → written_type looks t ≡ written_type others t
  written_same t = agree.type_of (named_type looks) t ∙ (λ j. others.written.type_of (λ n. named_same n j) t)

  literal_denotes_near : (t : Option T) → IfAny Near t → Denotes (literal_denotes t)
  literal_denotes_near None h = tt
  literal_denotes_near (Some t) h = h

  -- what is denoted

  mutual
    pub denoted_near : (p : Stand) (e : ExprTree) → Denotes (denoted looks p e)
    denoted_near p (Integer n span) = tt
    denoted_near p (Text t) = tt
    denoted_near p (Named x) = ident_near p x
    denoted_near p (Paren first e last) = denoted_near (inside p) e
    denoted_near p (Unary op span e) = unary_of_near Near looks.types others.types law.types agree.types Rest op (is_literal e) (denoted looks (under_place op p) e) (denoted_near (under_place op p) e)
    denoted_near p (Binary a op span b) =
        binary_of_near Near looks.types others.types law.types agree.types Rest op (denoted looks stands.«Value» a) (denoted looks stands.«Value» b) (denoted_near stands.«Value» a) (denoted_near stands.«Value» b)
    denoted_near p (Select e dot x) =
        selector_near Near Rest looks law x.span.start (whole p) (dot_of (is_name e) (denoted looks (left_place p e) e)) x.name (dot_near Near Rest looks law (is_name e) (denoted looks (left_place p e) e) (denoted_near (left_place p e) e))
    denoted_near p (Call e first items last) =
        call_near Near Rest looks law first.start (denoted looks stands.Callee e) (is_free (is_lone_call items) (denoted_items looks items)) (arguments_of (look_of_place looks first.start) (denoted_items looks items)) (denoted_near stands.Callee e)
    denoted_near p (Literal n first items last) = literal_denotes_near (named_type looks n) (named_near n)
    denoted_near p (StructLiteral t first items last) = literal_denotes_near (written_type looks t) (written_near t)

    items_near : (items : ItemTrees) → Each Denotes (denoted_items looks items)
    items_near NoItems = tt
    items_near (Item key e comma rest) = (denoted_near stands.«Value» e, items_near rest)

  called_near : (first : ℕ) (items : ItemTrees) → Each (NearArgument Near) (arguments_of (look_of_place looks first) (denoted_items looks items))
  called_near first items = arguments_near Near Rest looks law first (denoted_items looks items) (items_near items)

  left_near : (p : Stand) (e : ExprTree) → NearDot Near Rest (dot_of (is_name e) (denoted looks (left_place p e) e))
  left_near p e = dot_near Near Rest looks law (is_name e) (denoted looks (left_place p e) e) (denoted_near (left_place p e) e)

  select_by : (p : Stand) (e : ExprTree) (x : Ident) → denoted looks (left_place p e) e ≡ denoted others (left_place p e) e → select_answer looks p e x ≡ select_answer others p e x
  select_by p e x same =
      selector_same Near Rest looks others law agree x.span.start (whole p) (dot_of (is_name e) (denoted looks (left_place p e) e)) x.name (left_near p e)
      ∙ ap (λ d. selector_answer (look_of_place others x.span.start) (whole p) (dot_of (is_name e) d) x.name) same

  call_by : (e : ExprTree) (o : ℕ) (items : ItemTrees) → denoted looks stands.Callee e ≡ denoted others stands.Callee e → denoted_items looks items ≡ denoted_items others items
      → call_answer (look_of_place looks o) (denoted looks stands.Callee e) (is_free (is_lone_call items) (denoted_items looks items)) (arguments_of (look_of_place looks o) (denoted_items looks items))
      ≡ call_answer (look_of_place others o) (denoted others stands.Callee e) (is_free (is_lone_call items) (denoted_items others items)) (arguments_of (look_of_place others o) (denoted_items others items))
  call_by e o items same all =
      call_same Near Rest looks others law agree o (denoted looks stands.Callee e) (is_free (is_lone_call items) (denoted_items looks items)) (arguments_of (look_of_place looks o) (denoted_items looks items)) (denoted_near stands.Callee e) (called_near o items)
      ∙ (ap (λ l. call_answer (look_of_place others o) (denoted looks stands.Callee e) (is_free (is_lone_call items) (denoted_items looks items)) l) (arguments_same Near Rest looks others law agree o (denoted_items looks items) (items_near items))
      ∙ (λ j. call_answer (look_of_place others o) (same j) (is_free (is_lone_call items) (all j)) (arguments_of (look_of_place others o) (all j))))

  unary_by : (p : Stand) (op : Operator) (e : ExprTree) → denoted looks p e ≡ denoted others p e → unary_of looks.types op (is_literal e) (denoted looks p e) ≡ unary_of others.types op (is_literal e) (denoted others p e)
  unary_by p op e same =
      unary_judged Near looks.types others.types law.types agree.types Rest op (is_literal e) (denoted looks p e) (denoted_near p e) ∙ ap (unary_of others.types op (is_literal e)) same

  binary_by : (op : Operator) (a b : ExprTree) → denoted looks stands.«Value» a ≡ denoted others stands.«Value» a → denoted looks stands.«Value» b ≡ denoted others stands.«Value» b
      → binary_of looks.types op (denoted looks stands.«Value» a) (denoted looks stands.«Value» b) ≡ binary_of others.types op (denoted others stands.«Value» a) (denoted others stands.«Value» b)
  binary_by op a b one two =
      binary_judged Near looks.types others.types law.types agree.types Rest op (denoted looks stands.«Value» a) (denoted looks stands.«Value» b) (denoted_near stands.«Value» a) (denoted_near stands.«Value» b)
      ∙ (λ j. binary_of others.types op (one j) (two j))

  mutual
    pub denoted_same : (p : Stand) (e : ExprTree) → denoted looks p e ≡ denoted others p e
    denoted_same p (Integer n span) = refl
    denoted_same p (Text t) = refl
    denoted_same p (Named x) = λ j. (ident_same p x j).denoted
    denoted_same p (Paren first e last) = denoted_same (inside p) e
    denoted_same p (Unary op span e) = λ j. (unary_by (under_place op p) op e (denoted_same (under_place op p) e) j).denoted
    denoted_same p (Binary a op span b) = λ j. (binary_by op a b (denoted_same stands.«Value» a) (denoted_same stands.«Value» b) j).denoted
    denoted_same p (Select e dot x) = λ j. (select_by p e x (denoted_same (left_place p e) e) j).denoted
    denoted_same p (Call e first items last) = λ j. (call_by e first.start items (denoted_same stands.Callee e) (items_same items) j).denoted
    denoted_same p (Literal n first items last) = λ j. literal_denotes (named_same n j)
    denoted_same p (StructLiteral t first items last) = λ j. literal_denotes (written_same t j)

    items_same : (items : ItemTrees) → denoted_items looks items ≡ denoted_items others items
    items_same NoItems = refl
    items_same (Item key e comma rest) = λ j. denoted_same stands.«Value» e j ∷ items_same rest j

  -- uses

  pub name_uses : (n : TypeName) → type_name_uses looks n ≡ type_name_uses others n
  name_uses (type_names.Plain x) = λ j. made_use x.span.start (place_role stands.«Type») (ident_same stands.«Type» x j).outcome ∷ []
  name_uses (type_names.Qualified q dot x) =
      λ j. made_use q.span.start (place_role stands.TypeDot) (ident_same stands.TypeDot q j).outcome
      ∷ (made_use x.span.start (roles.Selector usages.«Type») (type_name_same (type_names.Qualified q dot x) j).outcome ∷ [])

  mutual
    pub type_used : (t : TypeTree) → type_uses looks t ≡ type_uses others t
    type_used (NamedType n) = name_uses n
    type_used (Pointer star t) = type_used t
    type_used (ParenType first t last) = type_used t
    type_used (Struct k first ls last) = fields_used ls
    type_used (Interface k first methods last) = methods_used methods

    pub fields_used : (ls : FieldTrees) → fields_uses looks ls ≡ fields_uses others ls
    fields_used NoFields = refl
    fields_used (NamedFields xs t tag s rest) = mapped (use_of looks) (use_of others) (type_spots looks t) (fields_spots looks rest) (type_spots others t) (fields_spots others rest) (type_used t) (fields_used rest)
    fields_used (EmbeddedField star n tag s rest) = mapped (use_of looks) (use_of others) (type_name_spots looks n) (fields_spots looks rest) (type_name_spots others n) (fields_spots others rest) (name_uses n) (fields_used rest)

    pub methods_used : (ms : MethodTrees) → methods_uses looks ms ≡ methods_uses others ms
    methods_used NoMethods = refl
    methods_used (Method x signature s rest) = mapped (use_of looks) (use_of others) (signature_spots looks signature) (methods_spots looks rest) (signature_spots others signature) (methods_spots others rest) (signature_used signature) (methods_used rest)

    pub signature_used : (s : SignatureTree) → signature_uses looks s ≡ signature_uses others s
    signature_used (Signed first params last result) = mapped (use_of looks) (use_of others) (params_spots looks params) (result_spots looks result) (params_spots others params) (result_spots others result) (params_used params) (result_used result)

    pub result_used : (r : ResultTree) → result_uses looks r ≡ result_uses others r
    result_used NoResult = refl
    result_used (OneResult t) = type_used t
    result_used (Results first params last) = params_used params

    pub params_used : (ps : ParamTrees) → params_uses looks ps ≡ params_uses others ps
    params_used NoParams = refl
    params_used (Param xs t comma rest) = mapped (use_of looks) (use_of others) (type_spots looks t) (params_spots looks rest) (type_spots others t) (params_spots others rest) (type_used t) (params_used rest)

  key_used : (t : Option T) (m : Bool) (before : List (List ℕ)) (key : Option Key) → IfAny Near t → key_uses looks t m before key ≡ key_uses others t m before key
  key_used t m before None h = refl
  key_used t m before (Some k) h =
      ap (λ (a : KeyAnswer T D P). made_use k.name.span.start roles.Key a.outcome ∷ []) (key_same Near Rest looks others law agree k.name.span.start t m (has_name k.name.name before) k.name.name h)

  mutual
    pub used_same : (p : Stand) (e : ExprTree) → uses looks p e ≡ uses others p e
    used_same p (Integer n span) = refl
    used_same p (Text t) = refl
    used_same p (Named x) = λ j. made_use x.span.start (place_role p) (ident_same p x j).outcome ∷ []
    used_same p (Paren first e last) = used_same (inside p) e
    used_same p (Unary op span e) = used_same (under_place op p) e
    used_same p (Binary a op span b) = mapped (use_of looks) (use_of others) (spots looks stands.«Value» a) (spots looks stands.«Value» b) (spots others stands.«Value» a) (spots others stands.«Value» b) (used_same stands.«Value» a) (used_same stands.«Value» b)
    used_same p (Select e dot x) =
        mapped _ _ (spots looks (left_place p e) e) _ (spots others (left_place p e) e) _ (used_same (left_place p e) e)
        (λ j. made_use x.span.start (roles.Selector (whole p)) (select_by p e x (denoted_same (left_place p e) e) j).outcome ∷ [])
    used_same p (Call e first items last) =
        mapped _ _ (spots looks stands.Callee e) _ (spots others stands.Callee e) _ (used_same stands.Callee e)
        (λ j. made_use first.start roles.Call (call_by e first.start items (denoted_same stands.Callee e) (items_same items) j).outcome ∷ args_used items j)
    used_same p (Literal n first items last) =
        mapped (use_of looks) (use_of others) (type_name_spots looks n) (items_spots looks (named_type looks n) (is_mixed (keys_of items)) [] items) (type_name_spots others n) (items_spots others (named_type others n) (is_mixed (keys_of items)) [] items)
        (name_uses n) (items_used (named_type looks n) (is_mixed (keys_of items)) [] items (named_near n) ∙ (λ j. items_uses others (named_same n j) (is_mixed (keys_of items)) [] items))
    used_same p (StructLiteral t first items last) =
        mapped (use_of looks) (use_of others) (type_spots looks t) (items_spots looks (written_type looks t) (is_mixed (keys_of items)) [] items) (type_spots others t) (items_spots others (written_type others t) (is_mixed (keys_of items)) [] items)
        (type_used t) (items_used (written_type looks t) (is_mixed (keys_of items)) [] items (written_near t) ∙ (λ j. items_uses others (written_same t j) (is_mixed (keys_of items)) [] items))

    args_used : (items : ItemTrees) → args_uses looks items ≡ args_uses others items
    args_used NoItems = refl
    args_used (Item key e comma rest) = mapped (use_of looks) (use_of others) (spots looks stands.«Value» e) (args_spots looks rest) (spots others stands.«Value» e) (args_spots others rest) (used_same stands.«Value» e) (args_used rest)

    items_used : (t : Option T) (m : Bool) (before : List (List ℕ)) (items : ItemTrees) → IfAny Near t → items_uses looks t m before items ≡ items_uses others t m before items
    items_used t m before NoItems h = refl
    items_used t m before (Item key e comma rest) h =
        mapped _ _ (key_spots t m (before ++ all_keys rest) key) _ (key_spots t m (before ++ all_keys rest) key) _ (key_used t m (before ++ all_keys rest) key h)
        (mapped (use_of looks) (use_of others) (spots looks stands.«Value» e) (items_spots looks t m (before ++ key_names key) rest) (spots others stands.«Value» e) (items_spots others t m (before ++ key_names key) rest)
        (used_same stands.«Value» e) (items_used t m (before ++ key_names key) rest h))

  -- faults

  pub operand_with : (p : Stand) (e : ExprTree) → faults looks p e ≡ faults others p e → operand_faults looks p e ≡ operand_faults others p e
  operand_with p e same = λ j. same j ++ fault_at (start e) (single_rule (denoted_same p e j))

  literal_with : (offset : ℕ) (t : Option T) (items : ItemTrees) → IfAny Near t
      → items_faults looks t (whole_mode looks offset t items) (is_mixed (keys_of items)) 0 [] items ≡ items_faults others t (whole_mode looks offset t items) (is_mixed (keys_of items)) 0 [] items
      → literal_faults looks offset t items ≡ literal_faults others offset t items
  literal_with offset t items h same =
      let elements = same ∙ ap (λ m. items_faults others t m (is_mixed (keys_of items)) 0 [] items) (mode_same Near Rest looks others law agree offset t (keys_of items) (item_count items) h) in
      λ j. fault_at offset (rule_same Near Rest looks others law agree offset t (keys_of items) (item_count items) h j) ++ elements j

  element_by : (t : Option T) (mode : Mode) (m : Bool) (n : ℕ) (keys : List (List ℕ)) (key : Option Key) (e : ExprTree) → IfAny Near t
      → element_rule looks (start e) (element_type looks (start e) t mode m n keys key) (denoted looks stands.«Value» e) ≡ element_rule others (start e) (element_type others (start e) t mode m n keys key) (denoted others stands.«Value» e)
  element_by t mode m n keys key e h =
      misfit_same Near Rest looks others law agree (start e) (element_type looks (start e) t mode m n keys key) (denoted looks stands.«Value» e) (target_near Near Rest looks others law agree (start e) t mode m n keys key h) (denoted_near stands.«Value» e)
      ∙ (λ j. element_rule others (start e) (target_same Near Rest looks others law agree (start e) t mode m n keys key h j) (denoted_same stands.«Value» e j))

  pub written_faults : (t : TypeTree) → looks.written.faults_of (named_type looks) t ≡ others.written.faults_of (named_type others) t
  written_faults t = agree.faults_of (named_type looks) t ∙ (λ j. others.written.faults_of (λ n. named_same n j) t)

  mutual
    pub faults_same : (p : Stand) (e : ExprTree) → faults looks p e ≡ faults others p e
    faults_same p (Integer n span) = refl
    faults_same p (Text t) = refl
    faults_same p (Named x) = refl
    faults_same p (Paren first e last) = faults_same (inside p) e
    faults_same p (Unary op span e) =
        λ j. operand_with (under_place op p) e (faults_same (under_place op p) e) j ++ fault_at span.start (unary_by (under_place op p) op e (denoted_same (under_place op p) e) j).fault
    faults_same p (Binary a op span b) =
        λ j. operand_with stands.«Value» a (faults_same stands.«Value» a) j ++ (operand_with stands.«Value» b (faults_same stands.«Value» b) j
        ++ fault_at (start a) (binary_by op a b (denoted_same stands.«Value» a) (denoted_same stands.«Value» b) j).fault)
    faults_same p (Select e dot x) = faults_same (left_place p e) e
    faults_same p (Call e first items last) = λ j. faults_same stands.Callee e j ++ args_same (is_several items) items j
    faults_same p (Literal n first items last) =
        literal_with (type_name_start n) (named_type looks n) items (named_near n) (elements_same (named_type looks n) (whole_mode looks (type_name_start n) (named_type looks n) items) (is_mixed (keys_of items)) 0 [] items (named_near n))
        ∙ (λ j. literal_faults others (type_name_start n) (named_same n j) items)
    faults_same p (StructLiteral t first items last) =
        (λ j. written_faults t j ++ literal_with (type_start t) (written_type looks t) items (written_near t) (elements_same (written_type looks t) (whole_mode looks (type_start t) (written_type looks t) items) (is_mixed (keys_of items)) 0 [] items (written_near t)) j)
        ∙ (λ j. others.written.faults_of (named_type others) t ++ literal_faults others (type_start t) (written_same t j) items)

    args_same : (b : Bool) (items : ItemTrees) → args_faults looks b items ≡ args_faults others b items
    args_same b NoItems = refl
    args_same b (Item key e comma rest) = λ j. (faults_same stands.«Value» e j ++ fault_at (start e) (listed_rule b (denoted_same stands.«Value» e j))) ++ args_same b rest j

    elements_same : (t : Option T) (mode : Mode) (m : Bool) (n : ℕ) (before : List (List ℕ)) (items : ItemTrees) → IfAny Near t → items_faults looks t mode m n before items ≡ items_faults others t mode m n before items
    elements_same t mode m n before NoItems h = refl
    elements_same t mode m n before (Item key e comma rest) h =
        λ j. (operand_with stands.«Value» e (faults_same stands.«Value» e) j ++ fault_at (item_start key e) (element_by t mode m n (before ++ all_keys rest) key e h j)) ++ elements_same t mode m (suc n) (before ++ key_names key) rest h j

  pub nearby : (p : Stand) (e : ExprTree) → IsNearby Near Rest looks others p e
  nearby p e = record { near = denoted_near p e; denoted = denoted_same p e; uses = used_same p e; faults = faults_same p e }
