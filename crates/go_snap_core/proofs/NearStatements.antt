-- What statements and declarations ask of near types is the same, and what they declare is near.
use Rattle.std.proofs.Common.{◌≡◌, ℕ, zero, suc, Bool, true, false, List, [], ◌∷◌, map, refl}
use Rattle.std.specs.Prelude.{Option, Some, None, ⊤, if◌then◌else◌, not, is_some, ◌&&◌, ◌==◌, length, replicate, pos}
use Rattle.std.specs.List.{list_all}
use Rattle.go_path_core.specs.text_core.declared.rule.Rule.{Rule}
use Rattle.go_path_core.specs.text_core.declared.rule.Rule.TheVariants.{Y3, Y4}
use Rattle.go_tree_nodes.specs.token_core.declared.kind.Operator.{Operator}
use Rattle.go_tree_nodes.specs.token_core.declared.kind.Operator.TheVariants as operators
use Rattle.go_constant_core.specs.declared.values.Constant.{Constant}
use Rattle.go_constant_core.specs.declared.values.Constant.TheVariants as constants
use Rattle.go_term_core.specs.declared.term.Basic.{Basic}
use Rattle.go_report_core.specs.operand_core.declared.types.ValueType.{ValueType}
use Rattle.go_report_core.specs.operand_core.declared.types.ValueType.TheVariants as value_types
use Rattle.go_report_core.specs.operand_core.declared.types.Operand.{Operand}
use Rattle.go_report_core.specs.operand_core.TypeRules.{TypeRules}
use Rattle.go_report_core.specs.operand_core.Values.{form_basic}
use Rattle.go_report_core.specs.operand_core.Assign.{assignable_to}
use Rattle.go_report_core.specs.operand_core.Updates.{broken, update_with, operator_of}
use Rattle.go_report_core.specs.operand_core.Operators.{refused_binary, value}
use Rattle.go_report_core.specs.denote_core.declared.things.Argument.{Argument}
use Rattle.go_report_core.specs.denote_core.declared.things.Argument.TheVariants as arguments
use Rattle.go_report_core.specs.denote_core.declared.things.Denoted.{Denoted}
use Rattle.go_report_core.specs.denote_core.declared.things.Denoted.TheVariants as denotes
use Rattle.go_body_core.specs.stmt_core.declared.statement.targets.Target.{Target}
use Rattle.go_body_core.specs.stmt_core.declared.statement.targets.Target.TheVariants as targets
use Rattle.go_body_core.specs.stmt_core.declared.statement.constants.ConstantAnswer.{ConstantAnswer}
use Rattle.go_body_core.specs.stmt_core.StatementTargets.{target_of_value, no_single_value, target_of}
use Rattle.go_body_core.specs.stmt_core.StatementUpdates.{update_rule, increment_rule}
use Rattle.go_body_core.specs.stmt_core.StatementDeclarations.{given_type, declared_types, type_after, paired_types, short_types}
use Rattle.go_body_core.specs.stmt_core.StatementConstants.{is_constant, constants_rule, operand_constant, own_value, of_own_type, of_no_type, assigned_value, answer_of_value, of_basic_type, of_type, constant_answer}
use Rattle.go_body_core.specs.stmt_core.StatementLocality.{FitsAlike, ArgumentGivenAlike, target_wanted, EachPair, Each, TypeAlike, UnderAlike, FormAlike, ConditionAlike}
use Rattle.go_snap_core.specs.near.Near.{NearRest, IfAny, NearValue, NearOperand, NearArgument, NearDenoted}
use Rattle.go_snap_core.specs.near.Looks.{AreRulesClosed, RulesAgree}
use Rattle.go_snap_core.proofs.NearClosing.{either, default_near}
use Rattle.go_snap_core.proofs.NearAgreeing.{default_same, default_each, value_alike, basic_same, binary_same}

-- the type of a target
abbrev pub NearTarget : {T : Type 0} → (T → Type 0) → Target T → Type 0
NearTarget Near targets.Blank = ⊤
NearTarget Near targets.New = ⊤
NearTarget Near (targets.Variable t) = Near t
NearTarget Near targets.Typeless = ⊤
NearTarget Near targets.Fixed = ⊤

pub copies : {X : Type 0} (Is : X → Type 0) (n : ℕ) (x : X) → Is x → Each Is (replicate n x)
copies Is zero x h = tt
copies Is (suc n) x h = (h, copies Is n x h)

module _ {T : Type 0} (Near : T → Type 0) (rules others : TypeRules T) (law : AreRulesClosed Near rules) (agree : RulesAgree Near rules others) where
  fits_alike : (v : ValueType T) (t : T) → NearValue Near v → Near t → FitsAlike rules others v t
  fits_alike v t h k = (default_same Near rules others law agree v, agree.form t k, default_each Near rules others law agree (λ s. rules.assignable s t ≡ others.assignable s t) (λ s near. agree.assignable s t near k) v h)

  pub wanted_alike : (t : Option T) (a : Argument T) → IfAny Near t → NearArgument Near a → ArgumentGivenAlike rules others t a
  wanted_alike None a h k = tt
  wanted_alike (Some t) arguments.Refused h k = tt
  wanted_alike (Some t) arguments.Void h k = tt
  wanted_alike (Some t) (arguments.«Value» o) h k = fits_alike o.value_type t k h

  wanted_near : (x : Target T) → NearTarget Near x → IfAny Near (target_wanted x)
  wanted_near targets.Blank h = tt
  wanted_near targets.New h = tt
  wanted_near (targets.Variable t) h = h
  wanted_near targets.Typeless h = tt
  wanted_near targets.Fixed h = tt

  pub pairs_alike : (ts : List (Target T)) (given : List (Argument T)) → Each (NearTarget Near) ts → Each (NearArgument Near) given → EachPair (λ target argument. ArgumentGivenAlike rules others (target_wanted target) argument) ts given
  pairs_alike [] given h k = tt
  pairs_alike (x ∷ ts) [] h k = tt
  pairs_alike (x ∷ ts) (a ∷ given) h k = (wanted_alike (target_wanted x) a (wanted_near x h.0) k.0, pairs_alike ts given h.1 k.1)

  pub results_alike : (ts : List (Option T)) (given : List (Argument T)) → Each (IfAny Near) ts → Each (NearArgument Near) given → EachPair (ArgumentGivenAlike rules others) ts given
  results_alike [] given h k = tt
  results_alike (t ∷ ts) [] h k = tt
  results_alike (t ∷ ts) (a ∷ given) h k = (wanted_alike t a h.0 k.0, results_alike ts given h.1 k.1)

  pub each_given : (t : Option T) (given : List (Argument T)) → IfAny Near t → Each (NearArgument Near) given → Each (ArgumentGivenAlike rules others t) given
  each_given t [] h k = tt
  each_given t (a ∷ given) h k = (wanted_alike t a h k.0, each_given t given h k.1)

  pub each_type : (given : List (Argument T)) → Each (TypeAlike rules others) given
  each_type [] = tt
  each_type (arguments.Refused ∷ given) = (tt, each_type given)
  each_type (arguments.Void ∷ given) = (tt, each_type given)
  each_type (arguments.«Value» o ∷ given) = (default_same Near rules others law agree o.value_type, each_type given)

  pub under_alike : (a : Argument T) → NearArgument Near a → UnderAlike rules others a
  under_alike arguments.Refused h = tt
  under_alike arguments.Void h = tt
  under_alike (arguments.«Value» o) h = value_alike Near rules others law agree o.value_type h

  pub form_alike : (t : Option T) → IfAny Near t → FormAlike rules others t
  form_alike None h = tt
  form_alike (Some t) h = agree.form t h

  pub condition_alike : {S D : Type 0} (Rest : NearRest S D) (d : Denoted T S D) → NearDenoted Near Rest d → ConditionAlike rules others d
  condition_alike Rest (denotes.«Value» o) h = value_alike Near rules others law agree o.value_type h
  condition_alike Rest (denotes.«Type» d t) h = tt
  condition_alike Rest denotes.Refused h = tt
  condition_alike Rest denotes.Typeless h = tt
  condition_alike Rest (denotes.«Package» d) h = tt
  condition_alike Rest (denotes.Several s) h = tt
  condition_alike Rest denotes.Nothing h = tt
  condition_alike Rest (denotes.Func d s) h = tt
  condition_alike Rest (denotes.Builtin d b) h = tt

  -- updates

  with_same : (op : Operator) (r : Option Rule) (a b : Operand T) → NearOperand Near a → NearOperand Near b → update_with rules op r a b ≡ update_with others op r a b
  with_same op (Some r) a b h k = refl
  with_same op None a b h k = λ j. if a.addressable then broken (binary_same Near rules others law agree op a b h k j) else Some Y3

  pub update_same : (op : Operator) (a b : Argument T) → NearArgument Near a → NearArgument Near b → update_rule rules op a b ≡ update_rule others op a b
  update_same op (arguments.«Value» a) (arguments.«Value» b) h k = with_same (operator_of op) (refused_binary (operator_of op)) a b h k
  update_same op (arguments.«Value» a) arguments.Refused h k = refl
  update_same op (arguments.«Value» a) arguments.Void h k = refl
  update_same op arguments.Refused b h k = refl
  update_same op arguments.Void b h k = refl

  pub increment_same : (a : Argument T) → NearArgument Near a → increment_rule rules a ≡ increment_rule others a
  increment_same (arguments.«Value» a) h =
      with_same operators.Plus (refused_binary operators.Plus) a (value value_types.UntypedInt (Some (constants.Int (pos 1)))) h tt
  increment_same arguments.Refused h = refl
  increment_same arguments.Void h = refl

  -- constants

  constant_same : (a : Argument T) → NearArgument Near a → is_constant rules a ≡ is_constant others a
  constant_same arguments.Refused h = refl
  constant_same arguments.Void h = refl
  constant_same (arguments.«Value» o) h = λ j. is_some o.constant && is_some (basic_same Near rules others law agree o.value_type h j)

  all_constant : (given : List (Argument T)) → Each (NearArgument Near) given → list_all (is_constant rules) given ≡ list_all (is_constant others) given
  all_constant [] h = refl
  all_constant (a ∷ given) h = λ j. constant_same a h.0 j && all_constant given h.1 j

  pub constants_same : (lone : Bool) (n : ℕ) (given : List (Argument T)) → Each (NearArgument Near) given → constants_rule rules lone n given ≡ constants_rule others lone n given
  constants_same lone n given h = λ j. if lone && not (all_constant given h j) then None else (if n == length given then None else Some Y4)

  -- what is declared is near

  pub given_near : (a : Argument T) → NearArgument Near a → IfAny Near (given_type rules a)
  given_near arguments.Refused h = tt
  given_near arguments.Void h = tt
  given_near (arguments.«Value» o) h = default_near Near rules law o.value_type h

  all_given : (given : List (Argument T)) → Each (NearArgument Near) given → Each (IfAny Near) (map (given_type rules) given)
  all_given [] h = tt
  all_given (a ∷ given) h = (given_near a h.0, all_given given h.1)

  pub declared_near : (written : Option (Option T)) (n : ℕ) (given : List (Argument T)) → IfAny (IfAny Near) written → Each (NearArgument Near) given → Each (IfAny Near) (declared_types rules written n given)
  declared_near (Some t) n given h k = copies (IfAny Near) n t h
  declared_near None n given h k = either (Each (IfAny Near)) (n == length given) _ _ (all_given given k) (copies (IfAny Near) n None tt)

  after_near : (x : Target T) (a : Argument T) → NearTarget Near x → NearArgument Near a → IfAny Near (type_after rules x a)
  after_near targets.New a h k = given_near a k
  after_near (targets.Variable t) a h k = h
  after_near targets.Blank a h k = tt
  after_near targets.Typeless a h k = tt
  after_near targets.Fixed a h k = tt

  paired_near : (ts : List (Target T)) (given : List (Argument T)) → Each (NearTarget Near) ts → Each (NearArgument Near) given → Each (IfAny Near) (paired_types rules ts given)
  paired_near [] given h k = tt
  paired_near (x ∷ ts) [] h k = tt
  paired_near (x ∷ ts) (a ∷ given) h k = (after_near x a h.0 k.0, paired_near ts given h.1 k.1)

  refused_near : (ts : List (Target T)) → Each (NearTarget Near) ts → Each (IfAny Near) (map (λ target. type_after rules target arguments.Refused) ts)
  refused_near [] h = tt
  refused_near (x ∷ ts) h = (after_near x arguments.Refused h.0 tt, refused_near ts h.1)

  pub short_near : (ts : List (Target T)) (given : List (Argument T)) → Each (NearTarget Near) ts → Each (NearArgument Near) given → Each (IfAny Near) (short_types rules ts given)
  short_near ts given h k = either (Each (IfAny Near)) (length ts == length given) _ _ (paired_near ts given h k) (refused_near ts h)

  abbrev Held : ConstantAnswer T → Type 0
  Held a = IfAny (NearOperand Near) a.value

  own_near : (v : ValueType T) (c : Option Constant) → NearValue Near v → Held (own_value v c)
  own_near v None h = tt
  own_near v (Some k) h = h

  own_type_near : (a : Argument T) → NearArgument Near a → Held (of_own_type rules a)
  own_type_near arguments.Refused h = tt
  own_type_near arguments.Void h = tt
  own_type_near (arguments.«Value» o) h = own_near o.value_type (operand_constant rules o) h

  no_type_near : (a : Argument T) → Held (of_no_type rules a)
  no_type_near arguments.Refused = tt
  no_type_near arguments.Void = tt
  no_type_near (arguments.«Value» o) = tt

  assigned_near : (t : T) (b : Bool) (k : Constant) → Near t → Held (assigned_value t b k)
  assigned_near t true k h = h
  assigned_near t false k h = h

  value_near : (t : T) (b : Bool) (c : Option Constant) → Near t → Held (answer_of_value t b c)
  value_near t b None h = h
  value_near t b (Some k) h = assigned_near t b k h

  basic_near : (t : T) (a : Argument T) → Near t → Held (of_basic_type rules t a)
  basic_near t arguments.Refused h = h
  basic_near t arguments.Void h = h
  basic_near t (arguments.«Value» o) h = value_near t (assignable_to rules o t) (operand_constant rules o) h

  of_type_near : (t : T) (b : Option Basic) (a : Argument T) → Near t → Held (of_type rules t b a)
  of_type_near t None a h = tt
  of_type_near t (Some b) a h = basic_near t a h

  pub constant_near : (written : Option (Option T)) (a : Argument T) → IfAny (IfAny Near) written → NearArgument Near a → Held (constant_answer rules written a)
  constant_near None a h k = own_type_near a k
  constant_near (Some None) a h k = no_type_near a
  constant_near (Some (Some t)) a h k = of_type_near t (form_basic (rules.form t)) a h

  -- targets

  valued_near : (b : Bool) (v : ValueType T) → NearValue Near v → NearTarget Near (target_of_value b v)
  valued_near false v h = tt
  valued_near true (value_types.Typed t) h = h
  valued_near true value_types.UntypedInt h = tt
  valued_near true value_types.UntypedText h = tt
  valued_near true value_types.UntypedBool h = tt
  valued_near true value_types.Nil h = tt

  single_near : (b : Bool) → NearTarget Near (no_single_value b)
  single_near true = tt
  single_near false = tt

  pub target_near : {S D : Type 0} (Rest : NearRest S D) (d : Denoted T S D) (alone : Bool) → NearDenoted Near Rest d → NearTarget Near (target_of d alone)
  target_near Rest (denotes.«Value» o) alone h = valued_near o.addressable o.value_type h
  target_near Rest (denotes.Several s) alone h = single_near alone
  target_near Rest denotes.Nothing alone h = single_near alone
  target_near Rest denotes.Refused alone h = tt
  target_near Rest denotes.Typeless alone h = tt
  target_near Rest (denotes.«Package» d) alone h = tt
  target_near Rest (denotes.«Type» d t) alone h = tt
  target_near Rest (denotes.Func d s) alone h = tt
  target_near Rest (denotes.Builtin d b) alone h = tt
