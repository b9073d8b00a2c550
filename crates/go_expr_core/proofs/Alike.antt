-- Look-ups that differ in what names stand for alone, and agree on the names that are written, make the same of an expression.
use Rattle.std.proofs.Common.{◌≡◌, ℕ, suc, Bool, true, List, [], ◌∷◌, ◌++◌, map, refl, sym, ap, ◌∙◌}
use Rattle.std.specs.Prelude.{Option, Some, None, MatchOption, ⊤, if◌then◌else◌}
use Rattle.std.proofs.lemmas.List.{map-append}
use Rattle.go_denote_core.specs.text_core.Text.{is_blank}
use Rattle.go_denote_core.specs.text_core.declared.rule.Rule.TheVariants.{N8, F1, F5, F8}
use Rattle.go_tree_nodes.specs.declared.names.Ident.{Ident}
use Rattle.go_tree_nodes.specs.declared.exprs.Key.{Key}
use Rattle.go_tree_nodes.specs.declared.types.TypeName.{TypeName}
use Rattle.go_tree_nodes.specs.declared.types.TypeName.TheVariants as type_names
use Rattle.go_tree_nodes.specs.declared.usage.Usage.{Usage}
use Rattle.go_tree_nodes.specs.declared.usage.Usage.TheVariants as usages
use Rattle.go_tree_nodes.specs.Trees.{TypeTree, FieldTrees, MethodTrees, SignatureTree, ResultTree, ParamTrees, NamedType, Pointer, ParenType, Struct, Interface, NoFields, NamedFields, EmbeddedField, NoMethods, Method, Signed, NoResult, OneResult, Results, NoParams, Param, ExprTree, ItemTrees, Integer, Text, Named, Paren, Unary, Binary, Select, Call, Literal, StructLiteral, NoItems, Item}
use Rattle.go_tree_nodes.specs.WrittenTypes.{expr_types, items_types}
use Rattle.go_tree_nodes.specs.Counts.{item_count}
use Rattle.go_tree_core.specs.declared.occurrence.Role.TheVariants as roles
use Rattle.go_denote_core.specs.operand_core.declared.types.ValueType.{ValueType}
use Rattle.go_denote_core.specs.operand_core.TypeRules.{TypeRules}
use Rattle.go_denote_core.specs.operand_core.Values.{default_type}
use Rattle.go_denote_core.specs.declared.things.Stand.{Stand}
use Rattle.go_denote_core.specs.declared.things.Stand.TheVariants as stands
use Rattle.go_denote_core.specs.declared.things.Builtin.TheVariants as builtins
use Rattle.go_denote_core.specs.declared.things.Dot.{Dot}
use Rattle.go_denote_core.specs.declared.things.Dot.TheVariants as dots
use Rattle.go_denote_core.specs.declared.things.Found.{Found}
use Rattle.go_denote_core.specs.declared.things.Argument.{Argument}
use Rattle.go_denote_core.specs.declared.things.Argument.TheVariants as arguments
use Rattle.go_denote_core.specs.declared.things.Denoted as declared_denoted
use Rattle.go_denote_core.specs.declared.things.Denoted.TheVariants as denotes
use Rattle.go_denote_core.specs.declared.things.Answer.{Answer}
use Rattle.go_denote_core.specs.Answers.{refused, found_answer}
use Rattle.go_denote_core.specs.Selectors.{dot_of, selector_answer}
use Rattle.go_denote_core.specs.Arguments.{arguments_of, is_free, single_rule}
use Rattle.go_denote_core.specs.Calls.{call_answer}
use Rattle.go_denote_core.specs.Laws.{ValueAlike, GivenAlike, EachAlike, ArgumentAlike, ArgumentsAlike, CallsAlike}
use Rattle.go_denote_core.proofs.Locality.{calls_local}
use Rattle.go_denote_core.specs.declared.composite.things.KeyAnswer.{KeyAnswer}
use Rattle.go_denote_core.specs.declared.composite.things.Keys.{Keys}
use Rattle.go_denote_core.specs.declared.composite.things.Mode.{Mode}
use Rattle.go_denote_core.specs.declared.composite.things.Mode.TheVariants as modes
use Rattle.go_denote_core.specs.declared.composite.things.NamedField.{NamedField}
use Rattle.go_denote_core.specs.declared.composite.things.NamedField.TheVariants as nameds
use Rattle.go_denote_core.specs.composite.Fields.{named_field}
use Rattle.go_denote_core.specs.composite.Literals.{is_struct, literal_type, literal_denotes, literal_rule, literal_mode, element_target}
use Rattle.go_denote_core.specs.composite.Keys.{refused_key, found_key, key_answer}
use Rattle.go_local_core.specs.declared.Fault.{Fault}
use Rattle.go_expr_core.specs.Looks.{WrittenRules, Looks, look_of_place, literals_at}
use Rattle.go_expr_core.specs.Places.{inside, under_place, left_place, whole, is_name, is_literal, is_lone_call, is_several, start, item_start, place_role}
use Rattle.go_tree_nodes.specs.Starts.{type_name_start, type_start}
use Rattle.go_expr_core.specs.Operators.{unary_of, binary_of}
use Rattle.go_expr_core.specs.Denoting.{ident_answer, type_name_answer, named_type, written_type, denoted, denoted_items, select_answer, called_answer}
use Rattle.go_expr_core.specs.Elements.{key_names, all_keys, keys_of, is_mixed, key_target_by, is_again, element_type, element_rule, whole_mode}
use Rattle.go_expr_core.specs.Uses.{made_use, uses, spots, type_name_spots, type_name_uses, type_spots, fields_spots, methods_spots, signature_spots, result_spots, params_spots, key_spots, key_uses, args_spots, args_uses, items_spots, items_uses}
use Rattle.go_expr_core.specs.TypeUses.{type_uses, fields_uses, methods_uses, signature_uses, result_uses, params_uses}
use Rattle.go_expr_core.specs.Faults.{fault_at, listed_rule, faults, args_faults, items_faults, operand_faults, literal_faults}
use Rattle.go_expr_core.specs.Laws.{AgreeOnIdents, SameTypes, LooksAtNames, finding, Same, ExpressionsAreLocal}
use Rattle.go_expr_core.specs.Needed.{needed_idents, needed_by_args, DenotedByNeededNames}
use Rattle.go_expr_core.specs.Locality.{needed_types, needed_types_in, SameType, SameWritten, seeing, ExpressionsAreSeenAlike}
use Rattle.go_tree_nodes.specs.Idents.{type_name_idents, type_idents, fields_idents, methods_idents, signature_type_idents, result_type_idents, params_idents, expr_idents, items_idents}
use Rattle.go_tree_nodes.specs.TypeNames.{type_names_in, field_names_in, method_names_in, signature_names_in, result_names_in, param_names_in}

-- what is asked of types is the same

option_self : {T : Type 0} (o : Option T) (P : T → Type 0) → ((t : T) → P t) → MatchOption o ⊤ P
option_self None P h = tt
option_self (Some t) P h = h t

value_self : {T : Type 0} (rules : TypeRules T) (v : ValueType T) → ValueAlike rules rules v
value_self rules v = (refl, option_self (default_type rules v) _ (λ s. refl))

given_self : {T : Type 0} (rules : TypeRules T) (v : ValueType T) (t : T) → GivenAlike rules rules v t
given_self rules v t = (value_self rules v, refl, option_self (default_type rules v) _ (λ s. (refl, refl)))

each_self : {T : Type 0} (P : ValueType T → Type 0) → ((v : ValueType T) → P v) → (given : List (Argument T)) → EachAlike P given
each_self P h [] = tt
each_self P h (arguments.Refused ∷ given) = each_self P h given
each_self P h (arguments.Void ∷ given) = each_self P h given
each_self P h (arguments.«Value» operand ∷ given) = (h operand.value_type, each_self P h given)

argument_self : {T : Type 0} (rules : TypeRules T) (a : Argument T) (param : Option T) → ArgumentAlike rules rules a param
argument_self rules arguments.Refused param = tt
argument_self rules arguments.Void param = tt
argument_self rules (arguments.«Value» operand) None = tt
argument_self rules (arguments.«Value» operand) (Some t) = given_self rules operand.value_type t

arguments_self : {T : Type 0} (rules : TypeRules T) (given : List (Argument T)) (params : List (Option T)) → ArgumentsAlike rules rules given params
arguments_self rules [] params = tt
arguments_self rules (a ∷ given) [] = tt
arguments_self rules (a ∷ given) (param ∷ params) = (argument_self rules a param, arguments_self rules given params)

-- identifiers of pieces

pub agree_left : {T S D : Type 0} (find other : List ℕ → ℕ → Found T S D) (xs ys : List Ident) → AgreeOnIdents find other (xs ++ ys) → AgreeOnIdents find other xs
agree_left find other [] ys h = tt
agree_left find other (x ∷ xs) ys h = (h.0, agree_left find other xs ys h.1)

agree_both : {T S D : Type 0} (find other : List ℕ → ℕ → Found T S D) (xs ys : List Ident) → AgreeOnIdents find other xs → AgreeOnIdents find other ys → AgreeOnIdents find other (xs ++ ys)
agree_both find other [] ys h k = k
agree_both find other (x ∷ xs) ys h k = (h.0, agree_both find other xs ys h.1 k)

pub agree_right : {T S D : Type 0} (find other : List ℕ → ℕ → Found T S D) (xs ys : List Ident) → AgreeOnIdents find other (xs ++ ys) → AgreeOnIdents find other ys
agree_right find other [] ys h = h
agree_right find other (x ∷ xs) ys h = agree_right find other xs ys h.1

same_both : {T : Type 0} (types other : TypeName → Option T) (ns ms : List TypeName) → SameTypes types other ns → SameTypes types other ms → SameTypes types other (ns ++ ms)
same_both types other [] ms h k = k
same_both types other (n ∷ ns) ms h k = (h.0, same_both types other ns ms h.1 k)

pub pieces : {A : Type 0} (a b c d : List A) → a ≡ c → b ≡ d → a ++ b ≡ c ++ d
pieces a b c d e f = ap (λ l. l ++ b) e ∙ ap (λ l. c ++ l) f

pub mapped : {A B : Type 0} (f g : A → B) (xs ys zs ws : List A) → map f xs ≡ map g zs → map f ys ≡ map g ws → map f (xs ++ ys) ≡ map g (zs ++ ws)
mapped f g xs ys zs ws e h = map-append f xs ys ∙ (pieces _ _ _ _ e h ∙ sym (map-append g zs ws))

module _ {T S D P : Type 0} (looks : Looks T S D P) (find : List ℕ → ℕ → Found T S D) (written : WrittenRules T) where
  abbrev other : Looks T S D P
  other = seeing find written looks

  abbrev Agrees : List Ident → Type 0
  Agrees xs = AgreeOnIdents looks.find find xs

  name_same : (p : Stand) (x : Ident) → looks.find x.name x.span.start ≡ find x.name x.span.start → ident_answer looks p x ≡ ident_answer other p x
  name_same p x h = ap (λ f. if is_blank x.name then refused N8 else found_answer p f) h

  selector_same : (o : ℕ) (u : Usage) (dot : Dot T D) (name : List ℕ) → selector_answer (look_of_place looks o) u dot name ≡ selector_answer (look_of_place other o) u dot name
  selector_same o u (dots.«Package» d) name = refl
  selector_same o u dots.Refused name = refl
  selector_same o u dots.Untyped name = refl
  selector_same o u (dots.«Value» operand) name = refl

  given_same : (o : ℕ) (ds : List (declared_denoted.Denoted T S D)) → arguments_of (look_of_place looks o) ds ≡ arguments_of (look_of_place other o) ds
  given_same o [] = refl
  given_same o (denotes.Several s ∷ []) = refl
  given_same o (denotes.Nothing ∷ []) = refl
  given_same o (denotes.«Value» operand ∷ []) = refl
  given_same o (denotes.Refused ∷ []) = refl
  given_same o (denotes.Typeless ∷ []) = refl
  given_same o (denotes.«Package» d ∷ []) = refl
  given_same o (denotes.«Type» d t ∷ []) = refl
  given_same o (denotes.Func d s ∷ []) = refl
  given_same o (denotes.Builtin d b ∷ []) = refl
  given_same o (first ∷ second ∷ more) = refl

  calls_self : (o : ℕ) (callee : declared_denoted.Denoted T S D) (given : List (Argument T)) → CallsAlike (look_of_place looks o) (look_of_place other o) callee given
  calls_self o (denotes.«Type» d None) given = tt
  calls_self o (denotes.«Type» d (Some t)) given = each_self _ (λ v. given_self looks.types v t) given
  calls_self o (denotes.Func d s) given = (refl, refl, arguments_self looks.types given (looks.params s))
  calls_self o (denotes.Builtin d builtins.Len) given = (refl, each_self _ (value_self looks.types) given)
  calls_self o (denotes.Builtin d builtins.Panic) given = (refl, each_self _ (λ v. given_self looks.types v looks.types.any) given)
  calls_self o (denotes.Builtin d builtins.Print) given = each_self _ (value_self looks.types) given
  calls_self o denotes.Refused given = tt
  calls_self o denotes.Typeless given = tt
  calls_self o (denotes.«Package» d) given = tt
  calls_self o (denotes.«Value» operand) given = tt
  calls_self o (denotes.Several s) given = tt
  calls_self o denotes.Nothing given = tt

  call_same : (o : ℕ) (f f' : declared_denoted.Denoted T S D) (b : Bool) (ds ds' : List (declared_denoted.Denoted T S D)) → f ≡ f' → ds ≡ ds'
      → call_answer (look_of_place looks o) f (is_free b ds) (arguments_of (look_of_place looks o) ds) ≡ call_answer (look_of_place other o) f' (is_free b ds') (arguments_of (look_of_place other o) ds')
  call_same o f f' b ds ds' e h =
      calls_local (look_of_place looks o) (look_of_place other o) f (is_free b ds) (arguments_of (look_of_place looks o) ds) (calls_self o f (arguments_of (look_of_place looks o) ds))
      ∙ (ap (λ l. call_answer (look_of_place other o) f (is_free b ds) l) (given_same o ds)
      ∙ (ap (λ x. call_answer (look_of_place other o) x (is_free b ds) (arguments_of (look_of_place other o) ds)) e
      ∙ ap (λ l. call_answer (look_of_place other o) f' (is_free b l) (arguments_of (look_of_place other o) l)) h))

  -- keys and elements

  found_same : (o : ℕ) (t : T) (again : Bool) (name : List ℕ) (f : NamedField T D) → found_key (literals_at looks o) t again name f ≡ found_key (literals_at other o) t again name f
  found_same o t again name nameds.Hidden = refl
  found_same o t again name nameds.Missing = refl
  found_same o t again name (nameds.Visible field) = refl

  key_same : (o : ℕ) (t : Option T) (m again : Bool) (name : List ℕ) → key_answer (literals_at looks o) t m again name ≡ key_answer (literals_at other o) t m again name
  key_same o None m again name = refl
  key_same o (Some t) m again name =
      ap (λ k. if is_struct (looks.types.form t) then (if m then refused_key F5 else (if is_blank name then refused_key F1 else k)) else refused_key F8) (found_same o t again name (named_field (looks.literals.fields t) name))

  key_target_same : (t : Option T) (m again : Bool) (key : Option Key) → key_target_by looks t m again key ≡ key_target_by other t m again key
  key_target_same t m again None = refl
  key_target_same t m again (Some k) = ap (λ (a : KeyAnswer T D P). a.target) (key_same k.name.span.start t m again k.name.name)

  rule_same : (o : ℕ) (t : Option T) (ks : Keys) (n : ℕ) → literal_rule (literals_at looks o) t ks n ≡ literal_rule (literals_at other o) t ks n
  rule_same o None ks n = refl
  rule_same o (Some t) ks n = refl

  mode_same : (o : ℕ) (t : Option T) (ks : Keys) (n : ℕ) → literal_mode (literals_at looks o) t ks n ≡ literal_mode (literals_at other o) t ks n
  mode_same o None ks n = refl
  mode_same o (Some t) ks n = refl

  target_same : (o : ℕ) (t : Option T) (mode : Mode) (n : ℕ) (by_key : Option T) → element_target (literals_at looks o) t mode n by_key ≡ element_target (literals_at other o) t mode n by_key
  target_same o t modes.Untested n by_key = refl
  target_same o t modes.ByKey n by_key = refl
  target_same o None modes.InOrder n by_key = refl
  target_same o (Some t) modes.InOrder n by_key = refl

  misfit_same : (o : ℕ) (wanted : Option T) (d : declared_denoted.Denoted T S D) → element_rule looks o wanted d ≡ element_rule other o wanted d
  misfit_same o None d = refl
  misfit_same o (Some t) (denotes.«Value» operand) = refl
  misfit_same o (Some t) (denotes.«Type» d u) = refl
  misfit_same o (Some t) denotes.Refused = refl
  misfit_same o (Some t) denotes.Typeless = refl
  misfit_same o (Some t) (denotes.«Package» d) = refl
  misfit_same o (Some t) (denotes.Several s) = refl
  misfit_same o (Some t) denotes.Nothing = refl
  misfit_same o (Some t) (denotes.Func d s) = refl
  misfit_same o (Some t) (denotes.Builtin d b) = refl

  -- names of types

  type_name_same : (n : TypeName) → Agrees (type_name_idents n) → type_name_answer looks n ≡ type_name_answer other n
  type_name_same (type_names.Plain x) h = name_same stands.«Type» x h.0
  type_name_same (type_names.Qualified p dot x) h =
      selector_same x.span.start usages.«Type» (dot_of true (ident_answer looks stands.TypeDot p).denoted) x.name
      ∙ ap (λ (a : Answer T S D P). selector_answer (look_of_place other x.span.start) usages.«Type» (dot_of true a.denoted) x.name) (name_same stands.TypeDot p h.0)

  named_same : (n : TypeName) → Agrees (type_name_idents n) → named_type looks n ≡ named_type other n
  named_same n h = ap (λ (a : Answer T S D P). literal_type a.denoted) (type_name_same n h)

  -- uses in types

  name_uses : (n : TypeName) → Agrees (type_name_idents n) → type_name_uses looks n ≡ type_name_uses other n
  name_uses (type_names.Plain x) h = ap (λ (a : Answer T S D P). made_use x.span.start roles.«Type» a.outcome ∷ []) (name_same stands.«Type» x h.0)
  name_uses (type_names.Qualified p dot x) h =
      ap (λ (a : Answer T S D P). made_use p.span.start roles.Qualifier a.outcome ∷ (made_use x.span.start (roles.Selector usages.«Type») (type_name_answer looks (type_names.Qualified p dot x)).outcome ∷ [])) (name_same stands.TypeDot p h.0)
      ∙ ap (λ (a : Answer T S D P). made_use p.span.start roles.Qualifier (ident_answer other stands.TypeDot p).outcome ∷ (made_use x.span.start (roles.Selector usages.«Type») a.outcome ∷ [])) (type_name_same (type_names.Qualified p dot x) h)

  mutual
    type_used : (t : TypeTree) → Agrees (type_idents t) → type_uses looks t ≡ type_uses other t
    type_used (NamedType n) h = name_uses n h
    type_used (Pointer star t) h = type_used t h
    type_used (ParenType first t last) h = type_used t h
    type_used (Struct k first ls last) h = fields_used ls h
    type_used (Interface k first methods last) h = methods_used methods h

    fields_used : (ls : FieldTrees) → Agrees (fields_idents ls) → fields_uses looks ls ≡ fields_uses other ls
    fields_used NoFields h = refl
    fields_used (NamedFields xs t tag s rest) h =
        mapped _ _ (type_spots looks t) (fields_spots looks rest) (type_spots other t) (fields_spots other rest) (type_used t (agree_left _ _ (type_idents t) (fields_idents rest) h)) (fields_used rest (agree_right _ _ (type_idents t) (fields_idents rest) h))
    fields_used (EmbeddedField star n tag s rest) h =
        mapped _ _ (type_name_spots looks n) (fields_spots looks rest) (type_name_spots other n) (fields_spots other rest) (name_uses n (agree_left _ _ (type_name_idents n) (fields_idents rest) h)) (fields_used rest (agree_right _ _ (type_name_idents n) (fields_idents rest) h))

    methods_used : (ms : MethodTrees) → Agrees (methods_idents ms) → methods_uses looks ms ≡ methods_uses other ms
    methods_used NoMethods h = refl
    methods_used (Method x signature s rest) h =
        mapped _ _ (signature_spots looks signature) (methods_spots looks rest) (signature_spots other signature) (methods_spots other rest) (signature_used signature (agree_left _ _ (signature_type_idents signature) (methods_idents rest) h)) (methods_used rest (agree_right _ _ (signature_type_idents signature) (methods_idents rest) h))

    signature_used : (s : SignatureTree) → Agrees (signature_type_idents s) → signature_uses looks s ≡ signature_uses other s
    signature_used (Signed first params last result) h =
        mapped _ _ (params_spots looks params) (result_spots looks result) (params_spots other params) (result_spots other result) (params_used params (agree_left _ _ (params_idents params) (result_type_idents result) h)) (result_used result (agree_right _ _ (params_idents params) (result_type_idents result) h))

    result_used : (r : ResultTree) → Agrees (result_type_idents r) → result_uses looks r ≡ result_uses other r
    result_used NoResult h = refl
    result_used (OneResult t) h = type_used t h
    result_used (Results first params last) h = params_used params h

    params_used : (ps : ParamTrees) → Agrees (params_idents ps) → params_uses looks ps ≡ params_uses other ps
    params_used NoParams h = refl
    params_used (Param xs t comma rest) h =
        mapped _ _ (type_spots looks t) (params_spots looks rest) (type_spots other t) (params_spots other rest) (type_used t (agree_left _ _ (type_idents t) (params_idents rest) h)) (params_used rest (agree_right _ _ (type_idents t) (params_idents rest) h))

  -- names and struct types of pieces

  abbrev Made : List TypeTree → Type 0
  Made ts = SameWritten looks other ts

  made_left : (ts us : List TypeTree) → Made (ts ++ us) → Made ts
  made_left [] us h = tt
  made_left (t ∷ ts) us h = (h.0, made_left ts us h.1)

  made_right : (ts us : List TypeTree) → Made (ts ++ us) → Made us
  made_right [] us h = h
  made_right (t ∷ ts) us h = made_right ts us h.1

  abbrev Both : List Ident → List TypeTree → Type 0
  Both xs ts = Agrees xs × Made ts

  left : (xs ys : List Ident) (ts us : List TypeTree) → Both (xs ++ ys) (ts ++ us) → Both xs ts
  left xs ys ts us h = (agree_left _ _ xs ys h.0, made_left ts us h.1)

  right : (xs ys : List Ident) (ts us : List TypeTree) → Both (xs ++ ys) (ts ++ us) → Both ys us
  right xs ys ts us h = (agree_right _ _ xs ys h.0, made_right ts us h.1)

  -- what an expression denotes, by what it needs

  mutual
    denoted_needed : (p : Stand) (e : ExprTree) → Both (needed_idents e) (needed_types e) → denoted looks p e ≡ denoted other p e
    denoted_needed p (Integer n span) h = refl
    denoted_needed p (Text t) h = refl
    denoted_needed p (Named x) h = ap (λ (a : Answer T S D P). a.denoted) (name_same p x h.0.0)
    denoted_needed p (Paren first e last) h = denoted_needed (inside p) e h
    denoted_needed p (Unary op span e) h = ap (λ d. (unary_of looks.types op (is_literal e) d).denoted) (denoted_needed (under_place op p) e h)
    denoted_needed p (Binary a op span b) h =
        ap (λ d. (binary_of looks.types op d (denoted looks stands.«Value» b)).denoted) (denoted_needed stands.«Value» a (left (needed_idents a) (needed_idents b) (needed_types a) (needed_types b) h))
        ∙ ap (λ d. (binary_of looks.types op (denoted other stands.«Value» a) d).denoted) (denoted_needed stands.«Value» b (right (needed_idents a) (needed_idents b) (needed_types a) (needed_types b) h))
    denoted_needed p (Select e dot x) h =
        ap (λ (a : Answer T S D P). a.denoted) (selector_same x.span.start (whole p) (dot_of (is_name e) (denoted looks (left_place p e) e)) x.name
        ∙ ap (λ d. selector_answer (look_of_place other x.span.start) (whole p) (dot_of (is_name e) d) x.name) (denoted_needed (left_place p e) e h))
    denoted_needed p (Call e first items last) h =
        ap (λ (a : Answer T S D P). a.denoted)
        (call_same first.start _ _ (is_lone_call items) _ _
        (denoted_needed stands.Callee e (left (needed_idents e) (needed_by_args items) (needed_types e) (needed_types_in items) h))
        (args_needed items (right (needed_idents e) (needed_by_args items) (needed_types e) (needed_types_in items) h)))
    denoted_needed p (Literal n first items last) h = ap literal_denotes (named_same n h.0)
    denoted_needed p (StructLiteral t first items last) h = ap literal_denotes h.1.0.type_of

    args_needed : (items : ItemTrees) → Both (needed_by_args items) (needed_types_in items) → denoted_items looks items ≡ denoted_items other items
    args_needed NoItems h = refl
    args_needed (Item key e comma rest) h =
        ap (λ d. d ∷ denoted_items looks rest) (denoted_needed stands.«Value» e (left (needed_idents e) (needed_by_args rest) (needed_types e) (needed_types_in rest) h))
        ∙ ap (λ l. denoted other stands.«Value» e ∷ l) (args_needed rest (right (needed_idents e) (needed_by_args rest) (needed_types e) (needed_types_in rest) h))

  -- what is needed is written

  made_both : (ts us : List TypeTree) → Made ts → Made us → Made (ts ++ us)
  made_both [] us h k = k
  made_both (t ∷ ts) us h k = (h.0, made_both ts us h.1 k)

  beside : (xs ys : List Ident) (ts us : List TypeTree) → Both xs ts → Both ys us → Both (xs ++ ys) (ts ++ us)
  beside xs ys ts us h k = (agree_both _ _ xs ys h.0 k.0, made_both ts us h.1 k.1)

  mutual
    expr_needs : (e : ExprTree) → Both (expr_idents e) (expr_types e) → Both (needed_idents e) (needed_types e)
    expr_needs (Integer n span) h = h
    expr_needs (Text t) h = h
    expr_needs (Named x) h = h
    expr_needs (Paren first e last) h = expr_needs e h
    expr_needs (Unary op span e) h = expr_needs e h
    expr_needs (Binary a op span b) h =
        beside (needed_idents a) (needed_idents b) (needed_types a) (needed_types b) (expr_needs a (left (expr_idents a) (expr_idents b) (expr_types a) (expr_types b) h)) (expr_needs b (right (expr_idents a) (expr_idents b) (expr_types a) (expr_types b) h))
    expr_needs (Select e dot x) h = expr_needs e h
    expr_needs (Call e first items last) h =
        beside (needed_idents e) (needed_by_args items) (needed_types e) (needed_types_in items)
        (expr_needs e (left (expr_idents e) (items_idents items) (expr_types e) (items_types items) h))
        (args_need items (right (expr_idents e) (items_idents items) (expr_types e) (items_types items) h))
    expr_needs (Literal n first items last) h = (agree_left _ _ (type_name_idents n) (items_idents items) h.0, tt)
    expr_needs (StructLiteral t first items last) h = (agree_left _ _ (type_idents t) (items_idents items) h.0, (h.1.0, tt))

    args_need : (items : ItemTrees) → Both (items_idents items) (items_types items) → Both (needed_by_args items) (needed_types_in items)
    args_need NoItems h = h
    args_need (Item key e comma rest) h =
        beside (needed_idents e) (needed_by_args rest) (needed_types e) (needed_types_in rest)
        (expr_needs e (left (expr_idents e) (items_idents rest) (expr_types e) (items_types rest) h))
        (args_need rest (right (expr_idents e) (items_idents rest) (expr_types e) (items_types rest) h))

  denoted_same : (p : Stand) (e : ExprTree) → Both (expr_idents e) (expr_types e) → denoted looks p e ≡ denoted other p e
  denoted_same p e h = denoted_needed p e (expr_needs e h)

  denoted_all : (items : ItemTrees) → Both (items_idents items) (items_types items) → denoted_items looks items ≡ denoted_items other items
  denoted_all items h = args_needed items (args_need items h)

  select_same : (p : Stand) (e : ExprTree) (x : Ident) → Both (expr_idents e) (expr_types e) → select_answer looks p e x ≡ select_answer other p e x
  select_same p e x h =
      selector_same x.span.start (whole p) (dot_of (is_name e) (denoted looks (left_place p e) e)) x.name
      ∙ ap (λ d. selector_answer (look_of_place other x.span.start) (whole p) (dot_of (is_name e) d) x.name) (denoted_same (left_place p e) e h)

  key_used : (t : Option T) (m : Bool) (others : List (List ℕ)) (key : Option Key) → key_uses looks t m others key ≡ key_uses other t m others key
  key_used t m others None = refl
  key_used t m others (Some k) = ap (λ (a : KeyAnswer T D P). made_use k.name.span.start roles.Key a.outcome ∷ []) (key_same k.name.span.start t m (is_again (Some k) others) k.name.name)

  mutual
    used_same : (p : Stand) (e : ExprTree) → Both (expr_idents e) (expr_types e) → uses looks p e ≡ uses other p e
    used_same p (Integer n span) h = refl
    used_same p (Text t) h = refl
    used_same p (Named x) h = ap (λ (a : Answer T S D P). made_use x.span.start (place_role p) a.outcome ∷ []) (name_same p x h.0.0)
    used_same p (Paren first e last) h = used_same (inside p) e h
    used_same p (Unary op span e) h = used_same (under_place op p) e h
    used_same p (Binary a op span b) h =
        mapped _ _ (spots looks stands.«Value» a) (spots looks stands.«Value» b) (spots other stands.«Value» a) (spots other stands.«Value» b) (used_same stands.«Value» a (left (expr_idents a) (expr_idents b) (expr_types a) (expr_types b) h)) (used_same stands.«Value» b (right (expr_idents a) (expr_idents b) (expr_types a) (expr_types b) h))
    used_same p (Select e dot x) h =
        mapped _ _ (spots looks (left_place p e) e) _ (spots other (left_place p e) e) _ (used_same (left_place p e) e h)
        (ap (λ (a : Answer T S D P). made_use x.span.start (roles.Selector (whole p)) a.outcome ∷ []) (select_same p e x h))
    used_same p (Call e first items last) h =
        mapped _ _ (spots looks stands.Callee e) _ (spots other stands.Callee e) _ (used_same stands.Callee e (left (expr_idents e) (items_idents items) (expr_types e) (items_types items) h))
        (ap (λ (a : Answer T S D P). made_use first.start roles.Call a.outcome ∷ args_uses looks items) (call_same first.start _ _ (is_lone_call items) _ _ (denoted_same stands.Callee e (left (expr_idents e) (items_idents items) (expr_types e) (items_types items) h)) (denoted_all items (right (expr_idents e) (items_idents items) (expr_types e) (items_types items) h)))
        ∙ ap (λ l. made_use first.start roles.Call (called_answer other e first items).outcome ∷ l) (args_used items (right (expr_idents e) (items_idents items) (expr_types e) (items_types items) h)))
    used_same p (Literal n first items last) h =
        mapped _ _ (type_name_spots looks n) (items_spots looks (named_type looks n) (is_mixed (keys_of items)) [] items) (type_name_spots other n) (items_spots other (named_type other n) (is_mixed (keys_of items)) [] items)
        (name_uses n (agree_left _ _ (type_name_idents n) (items_idents items) h.0))
        (items_used (named_type looks n) (is_mixed (keys_of items)) [] items (right (type_name_idents n) (items_idents items) [] (items_types items) h) ∙ ap (λ t. items_uses other t (is_mixed (keys_of items)) [] items) (named_same n (agree_left _ _ (type_name_idents n) (items_idents items) h.0)))
    used_same p (StructLiteral t first items last) h =
        mapped _ _ (type_spots looks t) (items_spots looks (written_type looks t) (is_mixed (keys_of items)) [] items) (type_spots other t) (items_spots other (written_type other t) (is_mixed (keys_of items)) [] items)
        (type_used t (agree_left _ _ (type_idents t) (items_idents items) h.0))
        (items_used (written_type looks t) (is_mixed (keys_of items)) [] items (right (type_idents t) (items_idents items) (t ∷ []) (items_types items) h) ∙ ap (λ s. items_uses other s (is_mixed (keys_of items)) [] items) h.1.0.type_of)

    args_used : (items : ItemTrees) → Both (items_idents items) (items_types items) → args_uses looks items ≡ args_uses other items
    args_used NoItems h = refl
    args_used (Item key e comma rest) h =
        mapped _ _ (spots looks stands.«Value» e) (args_spots looks rest) (spots other stands.«Value» e) (args_spots other rest) (used_same stands.«Value» e (left (expr_idents e) (items_idents rest) (expr_types e) (items_types rest) h)) (args_used rest (right (expr_idents e) (items_idents rest) (expr_types e) (items_types rest) h))

    items_used : (t : Option T) (m : Bool) (before : List (List ℕ)) (items : ItemTrees) → Both (items_idents items) (items_types items) → items_uses looks t m before items ≡ items_uses other t m before items
    items_used t m before NoItems h = refl
    items_used t m before (Item key e comma rest) h =
        mapped _ _ (key_spots t m (before ++ all_keys rest) key) _ (key_spots t m (before ++ all_keys rest) key) _ (key_used t m (before ++ all_keys rest) key)
        (mapped _ _ (spots looks stands.«Value» e) (items_spots looks t m (before ++ key_names key) rest) (spots other stands.«Value» e) (items_spots other t m (before ++ key_names key) rest)
        (used_same stands.«Value» e (left (expr_idents e) (items_idents rest) (expr_types e) (items_types rest) h)) (items_used t m (before ++ key_names key) rest (right (expr_idents e) (items_idents rest) (expr_types e) (items_types rest) h)))

  -- faults

  literal_noted : (offset : ℕ) (t : Option T) (items : ItemTrees) (fs gs : List Fault)
      → items_faults looks t (whole_mode looks offset t items) (is_mixed (keys_of items)) 0 [] items ≡ items_faults other t (whole_mode looks offset t items) (is_mixed (keys_of items)) 0 [] items
      → literal_faults looks offset t items ≡ literal_faults other offset t items
  literal_noted offset t items fs gs h =
      pieces _ _ _ _ (ap (fault_at offset) (rule_same offset t (keys_of items) (item_count items)))
      (h ∙ ap (λ m. items_faults other t m (is_mixed (keys_of items)) 0 [] items) (mode_same offset t (keys_of items) (item_count items)))

  operand_with : (p : Stand) (e : ExprTree) → Both (expr_idents e) (expr_types e) → faults looks p e ≡ faults other p e → operand_faults looks p e ≡ operand_faults other p e
  operand_with p e h same = pieces _ _ _ _ same (ap (λ d. fault_at (start e) (single_rule d)) (denoted_same p e h))

  mutual
    faults_same : (p : Stand) (e : ExprTree) → Both (expr_idents e) (expr_types e) → faults looks p e ≡ faults other p e
    faults_same p (Integer n span) h = refl
    faults_same p (Text t) h = refl
    faults_same p (Named x) h = refl
    faults_same p (Paren first e last) h = faults_same (inside p) e h
    faults_same p (Unary op span e) h =
        pieces _ _ _ _ (operand_with (under_place op p) e h (faults_same (under_place op p) e h)) (ap (λ d. fault_at span.start (unary_of looks.types op (is_literal e) d).fault) (denoted_same (under_place op p) e h))
    faults_same p (Binary a op span b) h =
        pieces _ _ _ _ (operand_with stands.«Value» a (left (expr_idents a) (expr_idents b) (expr_types a) (expr_types b) h) (faults_same stands.«Value» a (left (expr_idents a) (expr_idents b) (expr_types a) (expr_types b) h)))
        (pieces _ _ _ _ (operand_with stands.«Value» b (right (expr_idents a) (expr_idents b) (expr_types a) (expr_types b) h) (faults_same stands.«Value» b (right (expr_idents a) (expr_idents b) (expr_types a) (expr_types b) h)))
        (ap (λ d. fault_at (start a) (binary_of looks.types op d (denoted looks stands.«Value» b)).fault) (denoted_same stands.«Value» a (left (expr_idents a) (expr_idents b) (expr_types a) (expr_types b) h))
        ∙ ap (λ d. fault_at (start a) (binary_of looks.types op (denoted other stands.«Value» a) d).fault) (denoted_same stands.«Value» b (right (expr_idents a) (expr_idents b) (expr_types a) (expr_types b) h))))
    faults_same p (Select e dot x) h = faults_same (left_place p e) e h
    faults_same p (Call e first items last) h =
        pieces _ _ _ _ (faults_same stands.Callee e (left (expr_idents e) (items_idents items) (expr_types e) (items_types items) h)) (args_same (is_several items) items (right (expr_idents e) (items_idents items) (expr_types e) (items_types items) h))
    faults_same p (Literal n first items last) h =
        literal_noted (type_name_start n) (named_type looks n) items [] [] (items_same (named_type looks n) _ _ 0 [] items (right (type_name_idents n) (items_idents items) [] (items_types items) h))
        ∙ ap (λ t. literal_faults other (type_name_start n) t items) (named_same n (agree_left _ _ (type_name_idents n) (items_idents items) h.0))
    faults_same p (StructLiteral t first items last) h =
        pieces _ _ _ _ h.1.0.faults_of
        (literal_noted (type_start t) (written_type looks t) items [] [] (items_same (written_type looks t) _ _ 0 [] items (right (type_idents t) (items_idents items) (t ∷ []) (items_types items) h))
        ∙ ap (λ s. literal_faults other (type_start t) s items) h.1.0.type_of)

    args_same : (b : Bool) (items : ItemTrees) → Both (items_idents items) (items_types items) → args_faults looks b items ≡ args_faults other b items
    args_same b NoItems h = refl
    args_same b (Item key e comma rest) h =
        pieces _ _ _ _ (pieces _ _ _ _ (faults_same stands.«Value» e (left (expr_idents e) (items_idents rest) (expr_types e) (items_types rest) h)) (ap (λ d. fault_at (start e) (listed_rule b d)) (denoted_same stands.«Value» e (left (expr_idents e) (items_idents rest) (expr_types e) (items_types rest) h))))
        (args_same b rest (right (expr_idents e) (items_idents rest) (expr_types e) (items_types rest) h))

    items_same : (t : Option T) (mode : Mode) (m : Bool) (n : ℕ) (before : List (List ℕ)) (items : ItemTrees) → Both (items_idents items) (items_types items) → items_faults looks t mode m n before items ≡ items_faults other t mode m n before items
    items_same t mode m n before NoItems h = refl
    items_same t mode m n before (Item key e comma rest) h =
        let here = left (expr_idents e) (items_idents rest) (expr_types e) (items_types rest) h in
        let wanted = element_type looks (start e) t mode m n (before ++ all_keys rest) key in
        pieces _ _ _ _
        (pieces _ _ _ _ (operand_with stands.«Value» e here (faults_same stands.«Value» e here))
        (ap (fault_at (item_start key e)) (misfit_same (start e) wanted (denoted looks stands.«Value» e)
        ∙ (ap (λ d. element_rule other (start e) wanted d) (denoted_same stands.«Value» e here)
        ∙ ap (λ w. element_rule other (start e) w (denoted other stands.«Value» e))
        (target_same (start e) t mode n (key_target_by looks t m (is_again key (before ++ all_keys rest)) key)
        ∙ ap (element_target (literals_at other (start e)) t mode n) (key_target_same t m (is_again key (before ++ all_keys rest)) key))))))
        (items_same t mode m (suc n) (before ++ key_names key) rest (right (expr_idents e) (items_idents rest) (expr_types e) (items_types rest) h))

  pub all_same : (p : Stand) (e : ExprTree) → Both (expr_idents e) (expr_types e) → Same T S D P looks other p e
  all_same p e h = record { denoted = denoted_same p e h; uses = used_same p e h; faults = faults_same p e h }

-- what looks at the names in a struct type alone makes the same of it

module _ {T S D P : Type 0} (looks : Looks T S D P) (find : List ℕ → ℕ → Found T S D) (law : LooksAtNames T looks.written) where
  abbrev found : Looks T S D P
  found = finding find looks

  abbrev Finds : List Ident → Type 0
  Finds xs = AgreeOnIdents looks.find find xs

  abbrev Names : List TypeName → Type 0
  Names ns = SameTypes (named_type looks) (named_type found) ns

  mutual
    type_agrees : (t : TypeTree) → Finds (type_idents t) → Names (type_names_in t)
    type_agrees (NamedType n) h = (named_same looks find looks.written n h, tt)
    type_agrees (Pointer star t) h = type_agrees t h
    type_agrees (ParenType first t last) h = type_agrees t h
    type_agrees (Struct k first ls last) h = fields_agree ls h
    type_agrees (Interface k first methods last) h = methods_agree methods h

    fields_agree : (ls : FieldTrees) → Finds (fields_idents ls) → Names (field_names_in ls)
    fields_agree NoFields h = tt
    fields_agree (NamedFields xs t tag s rest) h =
        same_both _ _ (type_names_in t) (field_names_in rest) (type_agrees t (agree_left _ _ (type_idents t) (fields_idents rest) h)) (fields_agree rest (agree_right _ _ (type_idents t) (fields_idents rest) h))
    fields_agree (EmbeddedField star n tag s rest) h =
        (named_same looks find looks.written n (agree_left _ _ (type_name_idents n) (fields_idents rest) h), fields_agree rest (agree_right _ _ (type_name_idents n) (fields_idents rest) h))

    methods_agree : (ms : MethodTrees) → Finds (methods_idents ms) → Names (method_names_in ms)
    methods_agree NoMethods h = tt
    methods_agree (Method x signature s rest) h =
        same_both _ _ (signature_names_in signature) (method_names_in rest) (signature_agrees signature (agree_left _ _ (signature_type_idents signature) (methods_idents rest) h)) (methods_agree rest (agree_right _ _ (signature_type_idents signature) (methods_idents rest) h))

    signature_agrees : (s : SignatureTree) → Finds (signature_type_idents s) → Names (signature_names_in s)
    signature_agrees (Signed first params last result) h =
        same_both _ _ (param_names_in params) (result_names_in result) (params_agree params (agree_left _ _ (params_idents params) (result_type_idents result) h)) (result_agrees result (agree_right _ _ (params_idents params) (result_type_idents result) h))

    result_agrees : (r : ResultTree) → Finds (result_type_idents r) → Names (result_names_in r)
    result_agrees NoResult h = tt
    result_agrees (OneResult t) h = type_agrees t h
    result_agrees (Results first params last) h = params_agree params h

    params_agree : (ps : ParamTrees) → Finds (params_idents ps) → Names (param_names_in ps)
    params_agree NoParams h = tt
    params_agree (Param xs t comma rest) h =
        same_both _ _ (type_names_in t) (param_names_in rest) (type_agrees t (agree_left _ _ (type_idents t) (params_idents rest) h)) (params_agree rest (agree_right _ _ (type_idents t) (params_idents rest) h))

  type_made : (t : TypeTree) → Finds (type_idents t) → SameType T S D P looks found t
  type_made t h = record { type_of = law.type_of _ _ t (type_agrees t h); faults_of = law.faults_of _ _ t (type_agrees t h) }

  made : (ts us : List TypeTree) → SameWritten looks found ts → SameWritten looks found us → SameWritten looks found (ts ++ us)
  made ts us h k = made_both looks find looks.written ts us h k

  mutual
    written_alike : (e : ExprTree) → Finds (expr_idents e) → SameWritten looks found (expr_types e)
    written_alike (Integer n span) h = tt
    written_alike (Text t) h = tt
    written_alike (Named x) h = tt
    written_alike (Paren first e last) h = written_alike e h
    written_alike (Unary op span e) h = written_alike e h
    written_alike (Binary a op span b) h = made (expr_types a) (expr_types b) (written_alike a (agree_left _ _ (expr_idents a) (expr_idents b) h)) (written_alike b (agree_right _ _ (expr_idents a) (expr_idents b) h))
    written_alike (Select e dot x) h = written_alike e h
    written_alike (Call e first items last) h =
        made (expr_types e) (items_types items) (written_alike e (agree_left _ _ (expr_idents e) (items_idents items) h)) (items_alike items (agree_right _ _ (expr_idents e) (items_idents items) h))
    written_alike (Literal n first items last) h = items_alike items (agree_right _ _ (type_name_idents n) (items_idents items) h)
    written_alike (StructLiteral t first items last) h = (type_made t (agree_left _ _ (type_idents t) (items_idents items) h), items_alike items (agree_right _ _ (type_idents t) (items_idents items) h))

    items_alike : (items : ItemTrees) → Finds (items_idents items) → SameWritten looks found (items_types items)
    items_alike NoItems h = tt
    items_alike (Item key e comma rest) h = made (expr_types e) (items_types rest) (written_alike e (agree_left _ _ (expr_idents e) (items_idents rest) h)) (items_alike rest (agree_right _ _ (expr_idents e) (items_idents rest) h))

  mutual
    needed_alike : (e : ExprTree) → Finds (needed_idents e) → SameWritten looks found (needed_types e)
    needed_alike (Integer n span) h = tt
    needed_alike (Text t) h = tt
    needed_alike (Named x) h = tt
    needed_alike (Paren first e last) h = needed_alike e h
    needed_alike (Unary op span e) h = needed_alike e h
    needed_alike (Binary a op span b) h =
        made (needed_types a) (needed_types b) (needed_alike a (agree_left _ _ (needed_idents a) (needed_idents b) h)) (needed_alike b (agree_right _ _ (needed_idents a) (needed_idents b) h))
    needed_alike (Select e dot x) h = needed_alike e h
    needed_alike (Call e first items last) h =
        made (needed_types e) (needed_types_in items) (needed_alike e (agree_left _ _ (needed_idents e) (needed_by_args items) h)) (args_alike items (agree_right _ _ (needed_idents e) (needed_by_args items) h))
    needed_alike (Literal n first items last) h = tt
    needed_alike (StructLiteral t first items last) h = (type_made t h, tt)

    args_alike : (items : ItemTrees) → Finds (needed_by_args items) → SameWritten looks found (needed_types_in items)
    args_alike NoItems h = tt
    args_alike (Item key e comma rest) h =
        made (needed_types e) (needed_types_in rest) (needed_alike e (agree_left _ _ (needed_idents e) (needed_by_args rest) h)) (args_alike rest (agree_right _ _ (needed_idents e) (needed_by_args rest) h))

-- the laws

pub expressions_seen : (T S D P : Type 0) → ExpressionsAreSeenAlike T S D P
expressions_seen T S D P = record {
  whole = λ looks find written p e h k. all_same looks find written p e (h, k);
  needed = λ looks find written p e h k. denoted_needed looks find written p e (h, k);
}

pub expressions_local : (T S D P : Type 0) → ExpressionsAreLocal T S D P
expressions_local T S D P looks find p e law h = all_same looks find looks.written p e (h, written_alike looks find law e h)

pub needed_names : (T S D P : Type 0) → DenotedByNeededNames T S D P
needed_names T S D P looks find p e law h = denoted_needed looks find looks.written p e (h, needed_alike looks find law e h)
