-- Look-ups that have the same of near things make the same of what is near.
use Rattle.std.proofs.Common.{◌≡◌, ℕ, zero, suc, Bool, true, false, List, [], ◌∷◌, map, refl, ap, ◌∙◌, subst}
use Rattle.std.specs.Prelude.{Option, Some, None, Result, Ok, Err, ⊤, MatchOption, if◌then◌else◌, ◌||◌, ◌&&◌, not, bytes_eq}
use Rattle.go_path_core.specs.text_core.Text.{is_blank}
use Rattle.go_path_core.specs.text_core.declared.rule.Rule.{Rule}
use Rattle.go_path_core.specs.text_core.declared.rule.Rule.TheVariants.{Y3, Y7, N8, F1, F5, F8}
use Rattle.go_tree_nodes.specs.token_core.declared.kind.Operator.{Operator}
use Rattle.go_constant_core.specs.declared.values.Constant.{Constant}
use Rattle.go_term_core.specs.declared.term.Basic.{Basic}
use Rattle.go_term_core.specs.declared.term.Basic.TheVariants as basics
use Rattle.go_tree_nodes.specs.declared.exprs.Key.{Key}
use Rattle.go_tree_nodes.specs.declared.usage.Usage.{Usage}
use Rattle.go_report_core.specs.operand_core.declared.types.ValueType.{ValueType}
use Rattle.go_report_core.specs.operand_core.declared.types.ValueType.TheVariants as types
use Rattle.go_report_core.specs.operand_core.declared.types.Operand.{Operand}
use Rattle.go_report_core.specs.operand_core.declared.operators.Group.{Group}
use Rattle.go_report_core.specs.operand_core.declared.operators.Group.TheVariants as groups
use Rattle.go_report_core.specs.operand_core.declared.prefixes.Prefix.{Prefix}
use Rattle.go_report_core.specs.operand_core.declared.prefixes.Prefix.TheVariants as prefixes
use Rattle.go_report_core.specs.operand_core.TypeRules.{TypeRules}
use Rattle.go_report_core.specs.operand_core.Values.{is_over, form_basic, basic_under, default_type, untyped, basic_type}
use Rattle.go_report_core.specs.operand_core.Assign.{takes_nil, takes_untyped, untyped_assignable, assignable, taken, common_typed, common_untyped, common_nil, common, comparable_typed, comparable_untyped, comparable_nil, comparable}
use Rattle.go_report_core.specs.operand_core.Operators.{group, divides, takes, is_some_zero, with_constants, value, arithmetic, ordered, equated, binary_in, binary_operand}
use Rattle.go_report_core.specs.operand_core.Prefixes.{prefix, refused_unary, signed, pointed, indirection, address, signed_over, unary_in, unary_operand}
use Rattle.go_report_core.specs.denote_core.declared.things.Stand.{Stand}
use Rattle.go_report_core.specs.denote_core.declared.things.Builtin.TheVariants as builtins
use Rattle.go_report_core.specs.denote_core.declared.things.Dot.{Dot}
use Rattle.go_report_core.specs.denote_core.declared.things.Dot.TheVariants as dots
use Rattle.go_report_core.specs.denote_core.declared.things.Argument.{Argument}
use Rattle.go_report_core.specs.denote_core.declared.things.Argument.TheVariants as arguments
use Rattle.go_report_core.specs.denote_core.declared.things.Denoted.{Denoted}
use Rattle.go_report_core.specs.denote_core.declared.things.Denoted.TheVariants as denotes
use Rattle.go_report_core.specs.denote_core.Answers.{refused, found_answer, name_answer}
use Rattle.go_report_core.specs.denote_core.Selectors.{selector_answer}
use Rattle.go_report_core.specs.denote_core.Arguments.{argument_of_result, arguments_of}
use Rattle.go_report_core.specs.denote_core.Calls.{call_answer}
use Rattle.go_report_core.specs.denote_core.Laws.{SaysAlike, ValueAlike, GivenAlike, EachAlike, ArgumentAlike, ArgumentsAlike, CallsAlike}
use Rattle.go_report_core.specs.denote_core.Locality.{selectors_local, calls_local}
use Rattle.go_report_core.specs.denote_core.declared.composite.things.KeyAnswer.{KeyAnswer}
use Rattle.go_report_core.specs.denote_core.declared.composite.things.Keys.{Keys}
use Rattle.go_report_core.specs.denote_core.declared.composite.things.Mode.{Mode}
use Rattle.go_report_core.specs.denote_core.declared.composite.things.Mode.TheVariants as modes
use Rattle.go_report_core.specs.denote_core.declared.composite.things.NamedField.{NamedField}
use Rattle.go_report_core.specs.denote_core.declared.composite.things.NamedField.TheVariants as nameds
use Rattle.go_report_core.specs.denote_core.CompositeLook.{FieldOf}
use Rattle.go_report_core.specs.denote_core.CompositeFields.{shown_field, named_field}
use Rattle.go_report_core.specs.denote_core.CompositeLiterals.{is_struct, struct_rule, struct_mode, field_type_at, literal_rule, literal_mode, element_target}
use Rattle.go_report_core.specs.denote_core.CompositeKeys.{refused_key, missing_rule, found_key, key_answer}
use Rattle.go_report_core.specs.expr_core.declared.things.Judged.{Judged}
use Rattle.go_report_core.specs.expr_core.Looks.{Looks, look_of_place, literals_at}
use Rattle.go_report_core.specs.expr_core.Operators.{of_operand, pointer_type, is_star, passed, unary_of, operand_of, binary_operands, binary_of}
use Rattle.go_report_core.specs.expr_core.Elements.{key_target_by, is_again, element_type, misfit_rule, element_rule}
use Rattle.go_snap_core.specs.near.Near.{NearRest, IfAny, IfFine, NearValue, NearOperand, NearArgument, NearDot, NearField, NearDenoted}
use Rattle.go_snap_core.specs.near.Looks.{AreRulesClosed, AreClosed, RulesAgree, LooksAgree}
use Rattle.go_snap_core.proofs.NearClosing.{either, common_near, unary_near, binary_near}
use Rattle.go_body_core.specs.stmt_core.StatementLocality.{Each}

-- operands

module _ {T : Type 0} (Near : T → Type 0) (rules others : TypeRules T) (law : AreRulesClosed Near rules) (agree : RulesAgree Near rules others) where
  pub default_same : (v : ValueType T) → default_type rules v ≡ default_type others v
  default_same (types.Typed t) = refl
  default_same types.UntypedInt = λ j. Some (agree.int j)
  default_same types.UntypedText = λ j. Some (agree.string j)
  default_same types.UntypedBool = λ j. Some (agree.bool j)
  default_same types.Nil = refl

  pub default_each : (Q : T → Type 0) → ((t : T) → Near t → Q t) → (v : ValueType T) → NearValue Near v → MatchOption (default_type others v) ⊤ Q
  default_each Q q (types.Typed t) h = q t h
  default_each Q q types.UntypedInt h = subst Q agree.int (q rules.int law.int)
  default_each Q q types.UntypedText h = subst Q agree.string (q rules.string law.string)
  default_each Q q types.UntypedBool h = subst Q agree.bool (q rules.bool law.bool)
  default_each Q q types.Nil h = tt

  pub value_alike : (v : ValueType T) → NearValue Near v → ValueAlike rules others v
  value_alike v h = (default_same v, default_each (λ s. rules.form s ≡ others.form s) agree.form v h)

  pub given_alike : (v : ValueType T) (t : T) → NearValue Near v → Near t → GivenAlike rules others v t
  given_alike v t h k =
      (value_alike v h, agree.form t k, default_each (λ s. (rules.assignable s t ≡ others.assignable s t) × (rules.convertible s t ≡ others.convertible s t)) (λ s near. (agree.assignable s t near k, agree.convertible s t near k)) v h)

  pub basic_same : (v : ValueType T) → NearValue Near v → basic_under rules v ≡ basic_under others v
  basic_same (types.Typed t) h = λ j. form_basic (agree.form t h j)
  basic_same types.UntypedInt h = refl
  basic_same types.UntypedText h = refl
  basic_same types.UntypedBool h = refl
  basic_same types.Nil h = refl

  kind_type : (b : Basic) → basic_type rules b ≡ basic_type others b
  kind_type basics.Bool = agree.bool
  kind_type basics.Int = agree.int
  kind_type basics.Text = agree.string

  kind_type_near : (b : Basic) → Near (basic_type rules b)
  kind_type_near basics.Bool = law.bool
  kind_type_near basics.Int = law.int
  kind_type_near basics.Text = law.string

  untyped_same : (b : Basic) (t : T) → Near t → untyped_assignable rules b t ≡ untyped_assignable others b t
  untyped_same b t k =
      let fits = agree.assignable (basic_type rules b) t (kind_type_near b) k ∙ ap (λ s. others.assignable s t) (kind_type b) in
      λ j. takes_untyped b (fits j) (agree.form t k j)

  pub assignable_same : (v : ValueType T) (t : T) → NearValue Near v → Near t → assignable rules v t ≡ assignable others v t
  assignable_same (types.Typed s) t h k = agree.assignable s t h k
  assignable_same types.UntypedInt t h k = untyped_same basics.Int t k
  assignable_same types.UntypedText t h k = untyped_same basics.Text t k
  assignable_same types.UntypedBool t h k = untyped_same basics.Bool t k
  assignable_same types.Nil t h k = λ j. takes_nil (agree.form t k j)

  taken_same : (v : ValueType T) (t : T) → NearValue Near v → Near t → taken rules v t ≡ taken others v t
  taken_same v t h k = λ j. if assignable_same v t h k j then Some (types.Typed t) else None

  typed_same : (s : T) (w : ValueType T) → Near s → NearValue Near w → common_typed rules s w ≡ common_typed others s w
  typed_same s (types.Typed t) h k = λ j. if agree.identical s t h k j then Some (types.Typed s) else None
  typed_same s types.UntypedInt h k = taken_same types.UntypedInt s tt h
  typed_same s types.UntypedText h k = taken_same types.UntypedText s tt h
  typed_same s types.UntypedBool h k = taken_same types.UntypedBool s tt h
  typed_same s types.Nil h k = taken_same types.Nil s tt h

  -- an untyped value of a kind has no type
  plain : (b : Basic) → NearValue Near (untyped {T = T} b)
  plain basics.Bool = tt
  plain basics.Int = tt
  plain basics.Text = tt

  kinds_same : (b : Basic) (w : ValueType T) → NearValue Near w → common_untyped rules b w ≡ common_untyped others b w
  kinds_same b (types.Typed t) k = taken_same (untyped b) t (plain b) k
  kinds_same b types.UntypedInt k = refl
  kinds_same b types.UntypedText k = refl
  kinds_same b types.UntypedBool k = refl
  kinds_same b types.Nil k = refl

  nil_same : (w : ValueType T) → NearValue Near w → common_nil rules w ≡ common_nil others w
  nil_same (types.Typed t) k = taken_same types.Nil t tt k
  nil_same types.UntypedInt k = refl
  nil_same types.UntypedText k = refl
  nil_same types.UntypedBool k = refl
  nil_same types.Nil k = refl

  common_same : (v w : ValueType T) → NearValue Near v → NearValue Near w → common rules v w ≡ common others v w
  common_same (types.Typed s) w h k = typed_same s w h k
  common_same types.UntypedInt w h k = kinds_same basics.Int w k
  common_same types.UntypedText w h k = kinds_same basics.Text w k
  common_same types.UntypedBool w h k = kinds_same basics.Bool w k
  common_same types.Nil w h k = nil_same w k

  comparable_typed_same : (s : T) (w : ValueType T) → Near s → NearValue Near w → comparable_typed rules s w ≡ comparable_typed others s w
  comparable_typed_same s (types.Typed t) h k = λ j. agree.assignable s t h k j || agree.assignable t s k h j
  comparable_typed_same s types.UntypedInt h k = assignable_same types.UntypedInt s tt h
  comparable_typed_same s types.UntypedText h k = assignable_same types.UntypedText s tt h
  comparable_typed_same s types.UntypedBool h k = assignable_same types.UntypedBool s tt h
  comparable_typed_same s types.Nil h k = assignable_same types.Nil s tt h

  comparable_kinds_same : (b : Basic) (w : ValueType T) → NearValue Near w → comparable_untyped rules b w ≡ comparable_untyped others b w
  comparable_kinds_same b (types.Typed t) k = untyped_same b t k
  comparable_kinds_same b types.UntypedInt k = refl
  comparable_kinds_same b types.UntypedText k = refl
  comparable_kinds_same b types.UntypedBool k = refl
  comparable_kinds_same b types.Nil k = refl

  comparable_nil_same : (w : ValueType T) → NearValue Near w → comparable_nil rules w ≡ comparable_nil others w
  comparable_nil_same (types.Typed t) k = assignable_same types.Nil t tt k
  comparable_nil_same types.UntypedInt k = refl
  comparable_nil_same types.UntypedText k = refl
  comparable_nil_same types.UntypedBool k = refl
  comparable_nil_same types.Nil k = refl

  comparable_same : (v w : ValueType T) → NearValue Near v → NearValue Near w → comparable rules v w ≡ comparable others v w
  comparable_same (types.Typed s) w h k = comparable_typed_same s w h k
  comparable_same types.UntypedInt w h k = comparable_kinds_same basics.Int w k
  comparable_same types.UntypedText w h k = comparable_kinds_same basics.Text w k
  comparable_same types.UntypedBool w h k = comparable_kinds_same basics.Bool w k
  comparable_same types.Nil w h k = comparable_nil_same w k

  arithmetic_by : (op : Operator) (v : Option (ValueType T)) (x y : Option Constant) → IfAny (NearValue Near) v → arithmetic rules op v x y ≡ arithmetic others op v x y
  arithmetic_by op None x y h = refl
  arithmetic_by op (Some v) x y h = λ j. if takes (group op) (basic_same v h j) then (if divides op && is_some_zero y then Err Y7 else with_constants v op x y) else Err Y3

  ordered_by : (op : Operator) (v : Option (ValueType T)) (x y : Option Constant) → IfAny (NearValue Near) v → ordered rules op v x y ≡ ordered others op v x y
  ordered_by op None x y h = refl
  ordered_by op (Some v) x y h = λ j. if takes (group op) (basic_same v h j) then with_constants types.UntypedBool op x y else Err Y3

  computed_same : (op : Operator) (a b : Operand T) → NearOperand Near a → NearOperand Near b
      → arithmetic rules op (common rules a.value_type b.value_type) a.constant b.constant ≡ arithmetic others op (common others a.value_type b.value_type) a.constant b.constant
  computed_same op a b h k =
      arithmetic_by op (common rules a.value_type b.value_type) a.constant b.constant (common_near Near rules law a.value_type b.value_type h k)
      ∙ ap (λ v. arithmetic others op v a.constant b.constant) (common_same a.value_type b.value_type h k)

  binary_in_same : (g : Group) (op : Operator) (a b : Operand T) → NearOperand Near a → NearOperand Near b → binary_in rules g op a b ≡ binary_in others g op a b
  binary_in_same groups.Bits op a b h k = refl
  binary_in_same groups.Logic op a b h k = computed_same op a b h k
  binary_in_same groups.Sum op a b h k = computed_same op a b h k
  binary_in_same groups.Arithmetic op a b h k = computed_same op a b h k
  binary_in_same groups.Order op a b h k =
      ordered_by op (common rules a.value_type b.value_type) a.constant b.constant (common_near Near rules law a.value_type b.value_type h k)
      ∙ ap (λ v. ordered others op v a.constant b.constant) (common_same a.value_type b.value_type h k)
  binary_in_same groups.Equality op a b h k = λ j. equated op (comparable_same a.value_type b.value_type h k j) a.constant b.constant

  pub binary_same : (op : Operator) (a b : Operand T) → NearOperand Near a → NearOperand Near b → binary_operand rules op a b ≡ binary_operand others op a b
  binary_same op a b h k = binary_in_same (group op) op a b h k

  over_same : (b : Basic) (op : Operator) (o : Operand T) → NearOperand Near o → signed_over rules b op o ≡ signed_over others b op o
  over_same b op o h = λ j. if is_over b (basic_same o.value_type h j) then signed op o.value_type o.constant else Err Y3

  indirection_same : (v : ValueType T) → NearValue Near v → indirection rules v ≡ indirection others v
  indirection_same (types.Typed t) h = λ j. pointed (agree.form t h j)
  indirection_same types.UntypedInt h = refl
  indirection_same types.UntypedText h = refl
  indirection_same types.UntypedBool h = refl
  indirection_same types.Nil h = refl

  address_same : (may : Bool) (v : ValueType T) → NearValue Near v → address rules may v ≡ address others may v
  address_same may (types.Typed t) h = λ j. if may then Ok (value (types.Typed (agree.pointer_to t h j)) None) else Err Y3
  address_same may types.UntypedInt h = refl
  address_same may types.UntypedText h = refl
  address_same may types.UntypedBool h = refl
  address_same may types.Nil h = refl

  unary_in_same : (x : Prefix) (op : Operator) (literal : Bool) (o : Operand T) → NearOperand Near o → unary_in rules x op literal o ≡ unary_in others x op literal o
  unary_in_same prefixes.Sign op literal o h = over_same basics.Int op o h
  unary_in_same prefixes.Negation op literal o h = over_same basics.Bool op o h
  unary_in_same prefixes.Indirection op literal o h = indirection_same o.value_type h
  unary_in_same prefixes.Address op literal o h = address_same (literal || o.addressable) o.value_type h
  unary_in_same prefixes.Bits op literal o h = refl

  pub unary_same : (op : Operator) (literal : Bool) (o : Operand T) → NearOperand Near o → unary_operand rules op literal o ≡ unary_operand others op literal o
  unary_same op literal o h = unary_in_same (prefix op) op literal o h

  -- what operators make of what their operands denote

  pointer_same : (t : Option T) → IfAny Near t → pointer_type rules t ≡ pointer_type others t
  pointer_same None h = refl
  pointer_same (Some t) h = λ j. Some (agree.pointer_to t h j)

  pub unary_judged : {S D : Type 0} (Rest : NearRest S D) (op : Operator) (literal : Bool) (d : Denoted T S D) → NearDenoted Near Rest d → unary_of rules op literal d ≡ unary_of others op literal d
  unary_judged Rest op literal (denotes.«Value» o) h = λ j. of_operand (unary_same op literal o h j)
  unary_judged Rest op literal (denotes.«Type» d t) h = λ j. if is_star op then record { denoted = denotes.«Type» d (pointer_same t h j); fault = None } else passed (refused_unary op)
  unary_judged Rest op literal denotes.Refused h = refl
  unary_judged Rest op literal denotes.Typeless h = refl
  unary_judged Rest op literal (denotes.«Package» d) h = refl
  unary_judged Rest op literal (denotes.Several s) h = refl
  unary_judged Rest op literal denotes.Nothing h = refl
  unary_judged Rest op literal (denotes.Func d s) h = refl
  unary_judged Rest op literal (denotes.Builtin d b) h = refl

  operand_near : {S D : Type 0} (Rest : NearRest S D) (d : Denoted T S D) → NearDenoted Near Rest d → IfAny (NearOperand Near) (operand_of d)
  operand_near Rest (denotes.«Value» o) h = h
  operand_near Rest (denotes.«Type» d t) h = tt
  operand_near Rest denotes.Refused h = tt
  operand_near Rest denotes.Typeless h = tt
  operand_near Rest (denotes.«Package» d) h = tt
  operand_near Rest (denotes.Several s) h = tt
  operand_near Rest denotes.Nothing h = tt
  operand_near Rest (denotes.Func d s) h = tt
  operand_near Rest (denotes.Builtin d b) h = tt

  operands_same : {S D : Type 0} (op : Operator) (a b : Option (Operand T)) → IfAny (NearOperand Near) a → IfAny (NearOperand Near) b → binary_operands {S = S} {D = D} rules op a b ≡ binary_operands others op a b
  operands_same op (Some a) (Some b) h k = λ j. of_operand (binary_same op a b h k j)
  operands_same op (Some a) None h k = refl
  operands_same op None b h k = refl

  pub binary_judged : {S D : Type 0} (Rest : NearRest S D) (op : Operator) (a b : Denoted T S D) → NearDenoted Near Rest a → NearDenoted Near Rest b → binary_of rules op a b ≡ binary_of others op a b
  binary_judged Rest op a b h k = operands_same op (operand_of a) (operand_of b) (operand_near Rest a h) (operand_near Rest b k)

  operand_judged : (S D : Type 0) (Rest : NearRest S D) (r : Result (Operand T) Rule) → IfFine (NearOperand Near) r → NearDenoted Near Rest (of_operand {S = S} {D = D} r).denoted
  operand_judged S D Rest (Ok o) h = h
  operand_judged S D Rest (Err rule) h = tt

  pointer_near : (t : Option T) → IfAny Near t → IfAny Near (pointer_type rules t)
  pointer_near None h = tt
  pointer_near (Some t) h = law.pointer_to t h

  pub unary_of_near : {S D : Type 0} (Rest : NearRest S D) (op : Operator) (literal : Bool) (d : Denoted T S D) → NearDenoted Near Rest d → NearDenoted Near Rest (unary_of rules op literal d).denoted
  unary_of_near Rest op literal (denotes.«Value» o) h = operand_judged _ _ Rest (unary_operand rules op literal o) (unary_near Near rules law op literal o h)
  unary_of_near {S = S} {D = D} Rest op literal (denotes.«Type» d t) h = either (λ (x : Judged T S D). NearDenoted Near Rest x.denoted) (is_star op) _ _ (pointer_near t h) tt
  unary_of_near Rest op literal denotes.Refused h = tt
  unary_of_near Rest op literal denotes.Typeless h = tt
  unary_of_near Rest op literal (denotes.«Package» d) h = tt
  unary_of_near Rest op literal (denotes.Several s) h = tt
  unary_of_near Rest op literal denotes.Nothing h = tt
  unary_of_near Rest op literal (denotes.Func d s) h = tt
  unary_of_near Rest op literal (denotes.Builtin d b) h = tt

  operands_near : (S D : Type 0) (Rest : NearRest S D) (op : Operator) (a b : Option (Operand T)) → IfAny (NearOperand Near) a → IfAny (NearOperand Near) b → NearDenoted Near Rest (binary_operands {S = S} {D = D} rules op a b).denoted
  operands_near S D Rest op (Some a) (Some b) h k = operand_judged _ _ Rest (binary_operand rules op a b) (binary_near Near rules law op a b h k)
  operands_near S D Rest op (Some a) None h k = tt
  operands_near S D Rest op None b h k = tt

  pub binary_of_near : {S D : Type 0} (Rest : NearRest S D) (op : Operator) (a b : Denoted T S D) → NearDenoted Near Rest a → NearDenoted Near Rest b → NearDenoted Near Rest (binary_of rules op a b).denoted
  binary_of_near Rest op a b h k = operands_near _ _ Rest op (operand_of a) (operand_of b) (operand_near Rest a h) (operand_near Rest b k)

-- names, selectors, calls and literals

module _ {T S D P : Type 0} (Near : T → Type 0) (Rest : NearRest S D) (looks others : Looks T S D P) (law : AreClosed Near Rest looks) (agree : LooksAgree Near Rest looks others) where
  pub name_same : (o : ℕ) (p : Stand) (name : List ℕ) → name_answer (look_of_place looks o) p name ≡ name_answer (look_of_place others o) p name
  name_same o p name = λ j. if is_blank name then refused N8 else found_answer p (agree.find name o j)

  says_alike : (o : ℕ) (dot : Dot T D) (name : List ℕ) → NearDot Near Rest dot → SaysAlike (look_of_place looks o) (look_of_place others o) dot name name
  says_alike o (dots.«Package» d) name h = agree.exported d name h
  says_alike o dots.Refused name h = tt
  says_alike o dots.Untyped name h = tt
  says_alike o (dots.«Value» operand) name h = (
    default_same Near looks.types others.types law.types agree.types operand.value_type,
    default_each Near looks.types others.types law.types agree.types (λ v. looks.select v name ≡ others.select v name) (λ v near. agree.select v name near) operand.value_type h,
  )

  pub selector_same : (o : ℕ) (u : Usage) (dot : Dot T D) (name : List ℕ) → NearDot Near Rest dot → selector_answer (look_of_place looks o) u dot name ≡ selector_answer (look_of_place others o) u dot name
  selector_same o u dot name h = selectors_local (look_of_place looks o) (look_of_place others o) u dot name (says_alike o dot name h)

  -- calls

  abbrev Alike : ValueType T → Type 0
  Alike v = ValueAlike looks.types others.types v

  each_alike : (Q : ValueType T → Type 0) → ((v : ValueType T) → NearValue Near v → Q v) → (given : List (Argument T)) → Each (NearArgument Near) given → EachAlike Q given
  each_alike Q q [] h = tt
  each_alike Q q (arguments.Refused ∷ given) h = each_alike Q q given h.1
  each_alike Q q (arguments.Void ∷ given) h = each_alike Q q given h.1
  each_alike Q q (arguments.«Value» operand ∷ given) h = (q operand.value_type h.0, each_alike Q q given h.1)

  given_to : (v : ValueType T) (t : T) → NearValue Near v → Near t → GivenAlike looks.types others.types v t
  given_to v t h k = given_alike Near looks.types others.types law.types agree.types v t h k

  argument_alike : (a : Argument T) (param : Option T) → NearArgument Near a → IfAny Near param → ArgumentAlike looks.types others.types a param
  argument_alike arguments.Refused param h k = tt
  argument_alike arguments.Void param h k = tt
  argument_alike (arguments.«Value» operand) None h k = tt
  argument_alike (arguments.«Value» operand) (Some t) h k = given_to operand.value_type t h k

  arguments_alike : (given : List (Argument T)) (params : List (Option T)) → Each (NearArgument Near) given → Each (IfAny Near) params → ArgumentsAlike looks.types others.types given params
  arguments_alike [] params h k = tt
  arguments_alike (a ∷ given) [] h k = tt
  arguments_alike (a ∷ given) (param ∷ params) h k = (argument_alike a param h.0 k.0, arguments_alike given params h.1 k.1)

  calls_alike : (o : ℕ) (d : Denoted T S D) (given : List (Argument T)) → NearDenoted Near Rest d → Each (NearArgument Near) given → CallsAlike (look_of_place looks o) (look_of_place others o) d given
  calls_alike o (denotes.«Type» d None) given h k = tt
  calls_alike o (denotes.«Type» d (Some t)) given h k = each_alike _ (λ v near. given_to v t near h) given k
  calls_alike o (denotes.Func d s) given h k =
      (agree.params s h, agree.results s h, arguments_alike given (others.params s) k (subst (Each (IfAny Near)) (agree.params s h) (law.params s h)))
  calls_alike o (denotes.Builtin d builtins.Len) given h k = (agree.types.int, each_alike _ (λ v near. value_alike Near looks.types others.types law.types agree.types v near) given k)
  calls_alike o (denotes.Builtin d builtins.Panic) given h k = (agree.types.any, each_alike _ (λ v near. given_to v others.types.any near (subst Near agree.types.any law.types.any)) given k)
  calls_alike o (denotes.Builtin d builtins.Print) given h k = each_alike _ (λ v near. value_alike Near looks.types others.types law.types agree.types v near) given k
  calls_alike o denotes.Refused given h k = tt
  calls_alike o denotes.Typeless given h k = tt
  calls_alike o (denotes.«Package» d) given h k = tt
  calls_alike o (denotes.«Value» operand) given h k = tt
  calls_alike o (denotes.Several s) given h k = tt
  calls_alike o denotes.Nothing given h k = tt

  pub call_same : (o : ℕ) (d : Denoted T S D) (free : Bool) (given : List (Argument T)) → NearDenoted Near Rest d → Each (NearArgument Near) given
      → call_answer (look_of_place looks o) d free given ≡ call_answer (look_of_place others o) d free given
  call_same o d free given h k = calls_local (look_of_place looks o) (look_of_place others o) d free given (calls_alike o d given h k)

  pub arguments_same : (o : ℕ) (ds : List (Denoted T S D)) → Each (NearDenoted Near Rest) ds → arguments_of (look_of_place looks o) ds ≡ arguments_of (look_of_place others o) ds
  arguments_same o [] h = refl
  arguments_same o (denotes.Several s ∷ []) h = λ j. map argument_of_result (agree.results s h.0 j)
  arguments_same o (denotes.Nothing ∷ []) h = refl
  arguments_same o (denotes.«Value» operand ∷ []) h = refl
  arguments_same o (denotes.Refused ∷ []) h = refl
  arguments_same o (denotes.Typeless ∷ []) h = refl
  arguments_same o (denotes.«Package» d ∷ []) h = refl
  arguments_same o (denotes.«Type» d t ∷ []) h = refl
  arguments_same o (denotes.Func d s ∷ []) h = refl
  arguments_same o (denotes.Builtin d b ∷ []) h = refl
  arguments_same o (first ∷ second ∷ more) h = refl

  -- keys and elements

  found_same : (o : ℕ) (t : T) (again : Bool) (name : List ℕ) (f : NamedField T D) → Near t → found_key (literals_at looks o) t again name f ≡ found_key (literals_at others o) t again name f
  found_same o t again name nameds.Hidden h = refl
  found_same o t again name nameds.Missing h = λ j. refused_key (missing_rule (agree.select t name h j))
  found_same o t again name (nameds.Visible field) h = refl

  pub key_same : (o : ℕ) (t : Option T) (m again : Bool) (name : List ℕ) → IfAny Near t → key_answer (literals_at looks o) t m again name ≡ key_answer (literals_at others o) t m again name
  key_same o None m again name h = refl
  key_same o (Some t) m again name h =
      let named = found_same o t again name (named_field (looks.literals.fields t) name) h ∙ ap (λ fs. found_key (literals_at others o) t again name (named_field fs name)) (agree.fields t h) in
      λ j. if is_struct (agree.types.form t h j) then (if m then refused_key F5 else (if is_blank name then refused_key F1 else named j)) else refused_key F8

  key_target_same : (t : Option T) (m again : Bool) (key : Option Key) → IfAny Near t → key_target_by looks t m again key ≡ key_target_by others t m again key
  key_target_same t m again None h = refl
  key_target_same t m again (Some k) h = ap (λ (a : KeyAnswer T D P). a.target) (key_same k.name.span.start t m again k.name.name h)

  pub rule_same : (o : ℕ) (t : Option T) (ks : Keys) (n : ℕ) → IfAny Near t → literal_rule (literals_at looks o) t ks n ≡ literal_rule (literals_at others o) t ks n
  rule_same o None ks n h = refl
  rule_same o (Some t) ks n h = λ j. if is_struct (agree.types.form t h j) then struct_rule ks n (agree.fields t h j) else Some F8

  pub mode_same : (o : ℕ) (t : Option T) (ks : Keys) (n : ℕ) → IfAny Near t → literal_mode (literals_at looks o) t ks n ≡ literal_mode (literals_at others o) t ks n
  mode_same o None ks n h = refl
  mode_same o (Some t) ks n h = λ j. if is_struct (agree.types.form t h j) then struct_mode ks n (agree.fields t h j) else modes.Untested

  by_mode_same : (o : ℕ) (t : Option T) (mode : Mode) (n : ℕ) (by_key : Option T) → IfAny Near t → element_target (literals_at looks o) t mode n by_key ≡ element_target (literals_at others o) t mode n by_key
  by_mode_same o t modes.Untested n by_key h = refl
  by_mode_same o t modes.ByKey n by_key h = refl
  by_mode_same o None modes.InOrder n by_key h = refl
  by_mode_same o (Some t) modes.InOrder n by_key h = λ j. if is_struct (agree.types.form t h j) then field_type_at (agree.fields t h j) n else None

  pub target_same : (o : ℕ) (t : Option T) (mode : Mode) (m : Bool) (n : ℕ) (keys : List (List ℕ)) (key : Option Key) → IfAny Near t → element_type looks o t mode m n keys key ≡ element_type others o t mode m n keys key
  target_same o t mode m n keys key h =
      by_mode_same o t mode n (key_target_by looks t m (is_again key keys) key) h
      ∙ ap (element_target (literals_at others o) t mode n) (key_target_same t m (is_again key keys) key h)

  pub misfit_same : (o : ℕ) (wanted : Option T) (d : Denoted T S D) → IfAny Near wanted → NearDenoted Near Rest d → element_rule looks o wanted d ≡ element_rule others o wanted d
  misfit_same o None d h k = refl
  misfit_same o (Some t) (denotes.«Value» operand) h k = λ j. misfit_rule (not (assignable_same Near looks.types others.types law.types agree.types operand.value_type t k h j))
  misfit_same o (Some t) (denotes.«Type» d u) h k = refl
  misfit_same o (Some t) denotes.Refused h k = refl
  misfit_same o (Some t) denotes.Typeless h k = refl
  misfit_same o (Some t) (denotes.«Package» d) h k = refl
  misfit_same o (Some t) (denotes.Several s) h k = refl
  misfit_same o (Some t) denotes.Nothing h k = refl
  misfit_same o (Some t) (denotes.Func d s) h k = refl
  misfit_same o (Some t) (denotes.Builtin d b) h k = refl

  -- what an element is to be assignable to is near

  abbrev NearNamed : NamedField T D → Type 0
  NearNamed nameds.Hidden = ⊤
  NearNamed nameds.Missing = ⊤
  NearNamed (nameds.Visible field) = IfAny Near field.field_type

  abbrev Aims : KeyAnswer T D P → Type 0
  Aims a = IfAny Near a.target

  shown_near : (b : Bool) (f : FieldOf T D) → NearField Near f → NearNamed (shown_field b f.known)
  shown_near true f h = h
  shown_near false f h = tt

  named_near : (fs : List (FieldOf T D)) (name : List ℕ) → Each (NearField Near) fs → NearNamed (named_field fs name)
  named_near [] name h = tt
  named_near (f ∷ fs) name h = either NearNamed (bytes_eq f.name name) _ _ (shown_near f.known.is_visible f h.0) (named_near fs name h.1)

  found_near : (o : ℕ) (t : T) (again : Bool) (name : List ℕ) (f : NamedField T D) → NearNamed f → IfAny Near (found_key (literals_at looks o) t again name f).target
  found_near o t again name nameds.Hidden h = tt
  found_near o t again name nameds.Missing h = tt
  found_near o t again name (nameds.Visible field) h = either (λ (a : KeyAnswer T D P). IfAny Near a.target) again _ _ tt h

  key_near : (o : ℕ) (t : Option T) (m again : Bool) (name : List ℕ) → IfAny Near t → IfAny Near (key_answer (literals_at looks o) t m again name).target
  key_near o None m again name h = tt
  key_near o (Some t) m again name h =
      either Aims (is_struct (looks.types.form t)) _ _
      (either Aims m _ _ tt (either Aims (is_blank name) _ _ tt (found_near o t again name (named_field (looks.literals.fields t) name) (named_near (looks.literals.fields t) name (law.fields t h)))))
      tt

  key_target_near : (t : Option T) (m again : Bool) (key : Option Key) → IfAny Near t → IfAny Near (key_target_by looks t m again key)
  key_target_near t m again None h = tt
  key_target_near t m again (Some k) h = key_near k.name.span.start t m again k.name.name h

  at_near : (fs : List (FieldOf T D)) (n : ℕ) → Each (NearField Near) fs → IfAny Near (field_type_at fs n)
  at_near [] n h = tt
  at_near (f ∷ fs) zero h = h.0
  at_near (f ∷ fs) (suc n) h = at_near fs n h.1

  by_mode_near : (o : ℕ) (t : Option T) (mode : Mode) (n : ℕ) (by_key : Option T) → IfAny Near t → IfAny Near by_key → IfAny Near (element_target (literals_at looks o) t mode n by_key)
  by_mode_near o t modes.Untested n by_key h k = tt
  by_mode_near o t modes.ByKey n by_key h k = k
  by_mode_near o None modes.InOrder n by_key h k = tt
  by_mode_near o (Some t) modes.InOrder n by_key h k = either (IfAny Near) (is_struct (looks.types.form t)) _ _ (at_near (looks.literals.fields t) n (law.fields t h)) tt

  pub target_near : (o : ℕ) (t : Option T) (mode : Mode) (m : Bool) (n : ℕ) (keys : List (List ℕ)) (key : Option Key) → IfAny Near t → IfAny Near (element_type looks o t mode m n keys key)
  target_near o t mode m n keys key h = by_mode_near o t mode n (key_target_by looks t m (is_again key keys) key) h (key_target_near t m (is_again key keys) key h)
