-- What the rules of expressions make of near things is near.
use Rattle.std.proofs.Common.{ℕ, Bool, true, false, List, [], ◌∷◌, map}
use Rattle.std.specs.Prelude.{Option, Some, None, Result, Ok, Err, if◌then◌else◌, not, ◌||◌, ◌&&◌, length, ◌==◌}
use Rattle.std.specs.List.{list_all}
use Rattle.go_path_core.specs.text_core.Text.{is_blank}
use Rattle.go_path_core.specs.text_core.declared.rule.Rule.{Rule}
use Rattle.go_tree_nodes.specs.token_core.declared.kind.Operator.{Operator}
use Rattle.go_tree_nodes.specs.declared.usage.Usage.{Usage}
use Rattle.go_tree_nodes.specs.declared.usage.Usage.TheVariants as usages
use Rattle.go_constant_core.specs.declared.values.Constant.{Constant}
use Rattle.go_term_core.specs.declared.term.Basic.{Basic}
use Rattle.go_term_core.specs.declared.term.Basic.TheVariants as basics
use Rattle.go_report_core.specs.operand_core.declared.types.TypeForm.{TypeForm}
use Rattle.go_report_core.specs.operand_core.declared.types.TypeForm.TheVariants as forms
use Rattle.go_report_core.specs.operand_core.declared.types.ValueType.{ValueType}
use Rattle.go_report_core.specs.operand_core.declared.types.ValueType.TheVariants as types
use Rattle.go_report_core.specs.operand_core.declared.types.Operand.{Operand}
use Rattle.go_report_core.specs.operand_core.declared.operators.Group.{Group}
use Rattle.go_report_core.specs.operand_core.declared.operators.Group.TheVariants as groups
use Rattle.go_report_core.specs.operand_core.declared.prefixes.Prefix.{Prefix}
use Rattle.go_report_core.specs.operand_core.declared.prefixes.Prefix.TheVariants as prefixes
use Rattle.go_report_core.specs.operand_core.TypeRules.{TypeRules}
use Rattle.go_report_core.specs.operand_core.Values.{is_basic, is_over, basic_under, default_type, untyped}
use Rattle.go_report_core.specs.operand_core.Assign.{assignable, taken, common_typed, common_kind, common_untyped, common_nil, common}
use Rattle.go_report_core.specs.operand_core.Operators.{group, divides, takes, is_some_zero, computed, with_constants, arithmetic, ordered, equated, binary_in, binary_operand}
use Rattle.go_report_core.specs.operand_core.Prefixes.{prefix, signed, pointed, indirection, address, signed_over, unary_in, unary_operand}
use Rattle.go_report_core.specs.operand_core.Conversions.{makes_text, fits, convert, length_of}
use Rattle.go_report_core.specs.denote_core.declared.things.Stand.{Stand}
use Rattle.go_report_core.specs.denote_core.declared.things.Stand.TheVariants as stands
use Rattle.go_report_core.specs.denote_core.declared.things.Builtin.{Builtin}
use Rattle.go_report_core.specs.denote_core.declared.things.Builtin.TheVariants as builtins
use Rattle.go_report_core.specs.denote_core.declared.things.Dot.{Dot}
use Rattle.go_report_core.specs.denote_core.declared.things.Dot.TheVariants as dots
use Rattle.go_report_core.specs.denote_core.declared.things.Found.{Found}
use Rattle.go_report_core.specs.denote_core.declared.things.Found.TheVariants as founds
use Rattle.go_report_core.specs.denote_core.declared.things.Exported.{Exported}
use Rattle.go_report_core.specs.denote_core.declared.things.Exported.TheVariants as exporteds
use Rattle.go_report_core.specs.denote_core.declared.things.Selection.{Selection}
use Rattle.go_report_core.specs.denote_core.declared.things.Selection.TheVariants as selections
use Rattle.go_report_core.specs.denote_core.declared.things.Argument.{Argument}
use Rattle.go_report_core.specs.denote_core.declared.things.Argument.TheVariants as arguments
use Rattle.go_report_core.specs.denote_core.declared.things.Denoted.{Denoted}
use Rattle.go_report_core.specs.denote_core.declared.things.Denoted.TheVariants as denotes
use Rattle.go_report_core.specs.denote_core.declared.things.Answer.{Answer}
use Rattle.go_report_core.specs.denote_core.Answers.{of_value, value_of_type, package_answer, type_answer, func_answer, value_answer, found_answer, name_answer}
use Rattle.go_report_core.specs.denote_core.Selectors.{usage_place, exported_answer, dot_of, field_answer, method_answer, member_answer, value_selector, selector_answer}
use Rattle.go_report_core.specs.denote_core.Arguments.{argument_of_result, argument_of, arguments_alone, arguments_of, fits_type}
use Rattle.go_report_core.specs.denote_core.Calls.{of_results, all_fit, func_call, of_conversion, convert_argument, conversion, of_length, length_argument, is_printable, builtin_call, judged_call, of_builtin, free_call, call_answer}
use Rattle.go_report_core.specs.expr_core.Looks.{Looks, look_of_place}
use Rattle.go_snap_core.specs.near.Near.{NearRest, IfAny, IfFine, NearForm, NearValue, NearOperand, NearArgument, NearDot, NearFound, NearExported, NearSelection, NearDenoted}
use Rattle.go_snap_core.specs.near.Looks.{AreRulesClosed, AreClosed}
use Rattle.go_body_core.specs.stmt_core.StatementLocality.{Each}

pub either : {A : Type 0} (Is : A → Type 0) (b : Bool) (x y : A) → Is x → Is y → Is (if b then x else y)
either Is true x y h k = h
either Is false x y h k = k

-- operands

module _ {T : Type 0} (Near : T → Type 0) (rules : TypeRules T) (law : AreRulesClosed Near rules) where
  abbrev Fine : Result (Operand T) Rule → Type 0
  Fine r = IfFine (NearOperand Near) r

  abbrev Both : Option (ValueType T) → Type 0
  Both v = IfAny (NearValue Near) v

  untyped_near : (b : Basic) → NearValue Near (untyped {T = T} b)
  untyped_near basics.Bool = tt
  untyped_near basics.Int = tt
  untyped_near basics.Text = tt

  pub default_near : (v : ValueType T) → NearValue Near v → IfAny Near (default_type rules v)
  default_near (types.Typed t) h = h
  default_near types.UntypedInt h = law.int
  default_near types.UntypedText h = law.string
  default_near types.UntypedBool h = law.bool
  default_near types.Nil h = tt

  taken_near : (v : ValueType T) (t : T) → Near t → Both (taken rules v t)
  taken_near v t h = either Both (assignable rules v t) (Some (types.Typed t)) None h tt

  kind_near : (b c : Basic) → Both (common_kind b c)
  kind_near b c = either Both (is_basic b c) (Some (untyped b)) None (untyped_near b) tt

  typed_near : (s : T) (w : ValueType T) → Near s → NearValue Near w → Both (common_typed rules s w)
  typed_near s (types.Typed t) h k = either Both (rules.identical s t) (Some (types.Typed s)) None h tt
  typed_near s types.UntypedInt h k = taken_near types.UntypedInt s h
  typed_near s types.UntypedText h k = taken_near types.UntypedText s h
  typed_near s types.UntypedBool h k = taken_near types.UntypedBool s h
  typed_near s types.Nil h k = taken_near types.Nil s h

  kinds_near : (b : Basic) (w : ValueType T) → NearValue Near w → Both (common_untyped rules b w)
  kinds_near b (types.Typed t) k = taken_near (untyped b) t k
  kinds_near b types.UntypedInt k = kind_near b basics.Int
  kinds_near b types.UntypedText k = kind_near b basics.Text
  kinds_near b types.UntypedBool k = kind_near b basics.Bool
  kinds_near b types.Nil k = tt

  nil_near : (w : ValueType T) → NearValue Near w → Both (common_nil rules w)
  nil_near (types.Typed t) k = taken_near types.Nil t k
  nil_near types.UntypedInt k = tt
  nil_near types.UntypedText k = tt
  nil_near types.UntypedBool k = tt
  nil_near types.Nil k = tt

  pub common_near : (v w : ValueType T) → NearValue Near v → NearValue Near w → Both (common rules v w)
  common_near (types.Typed s) w h k = typed_near s w h k
  common_near types.UntypedInt w h k = kinds_near basics.Int w k
  common_near types.UntypedText w h k = kinds_near basics.Text w k
  common_near types.UntypedBool w h k = kinds_near basics.Bool w k
  common_near types.Nil w h k = nil_near w k

  computed_near : (v : ValueType T) (c : Option Constant) → NearValue Near v → Fine (computed v c)
  computed_near v None h = tt
  computed_near v (Some c) h = h

  constants_near : (v : ValueType T) (op : Operator) (x y : Option Constant) → NearValue Near v → Fine (with_constants v op x y)
  constants_near v op None y h = h
  constants_near v op (Some c) None h = h
  constants_near v op (Some c) (Some d) h = computed_near v _ h

  arithmetic_near : (op : Operator) (v : Option (ValueType T)) (x y : Option Constant) → Both v → Fine (arithmetic rules op v x y)
  arithmetic_near op None x y h = tt
  arithmetic_near op (Some v) x y h =
      either Fine (takes (group op) (basic_under rules v)) _ _ (either Fine (divides op && is_some_zero y) _ _ tt (constants_near v op x y h)) tt

  ordered_near : (op : Operator) (v : Option (ValueType T)) (x y : Option Constant) → Fine (ordered rules op v x y)
  ordered_near op None x y = tt
  ordered_near op (Some v) x y = either Fine (takes (group op) (basic_under rules v)) _ _ (constants_near types.UntypedBool op x y tt) tt

  equated_near : (op : Operator) (b : Bool) (x y : Option Constant) → Fine (equated op b x y)
  equated_near op b x y = either Fine b _ _ (constants_near types.UntypedBool op x y tt) tt

  binary_in_near : (g : Group) (op : Operator) (a b : Operand T) → NearOperand Near a → NearOperand Near b → Fine (binary_in rules g op a b)
  binary_in_near groups.Bits op a b h k = tt
  binary_in_near groups.Logic op a b h k = arithmetic_near op _ _ _ (common_near a.value_type b.value_type h k)
  binary_in_near groups.Sum op a b h k = arithmetic_near op _ _ _ (common_near a.value_type b.value_type h k)
  binary_in_near groups.Arithmetic op a b h k = arithmetic_near op _ _ _ (common_near a.value_type b.value_type h k)
  binary_in_near groups.Order op a b h k = ordered_near op _ _ _
  binary_in_near groups.Equality op a b h k = equated_near op _ _ _

  pub binary_near : (op : Operator) (a b : Operand T) → NearOperand Near a → NearOperand Near b → Fine (binary_operand rules op a b)
  binary_near op a b h k = binary_in_near (group op) op a b h k

  signed_near : (op : Operator) (v : ValueType T) (c : Option Constant) → NearValue Near v → Fine (signed op v c)
  signed_near op v None h = h
  signed_near op v (Some c) h = computed_near v _ h

  over_near : (b : Basic) (op : Operator) (o : Operand T) → NearOperand Near o → Fine (signed_over rules b op o)
  over_near b op o h = either Fine (is_over b (basic_under rules o.value_type)) _ _ (signed_near op o.value_type o.constant h) tt

  pointed_near : (f : TypeForm T) → NearForm Near f → Fine (pointed f)
  pointed_near forms.Nothing h = tt
  pointed_near (forms.Basic b) h = tt
  pointed_near (forms.Pointer t) h = h
  pointed_near forms.Struct h = tt
  pointed_near forms.Interface h = tt

  indirection_near : (v : ValueType T) → NearValue Near v → Fine (indirection rules v)
  indirection_near (types.Typed t) h = pointed_near (rules.form t) (law.form t h)
  indirection_near types.UntypedInt h = tt
  indirection_near types.UntypedText h = tt
  indirection_near types.UntypedBool h = tt
  indirection_near types.Nil h = tt

  address_near : (may : Bool) (v : ValueType T) → NearValue Near v → Fine (address rules may v)
  address_near may (types.Typed t) h = either Fine may _ _ (law.pointer_to t h) tt
  address_near may types.UntypedInt h = tt
  address_near may types.UntypedText h = tt
  address_near may types.UntypedBool h = tt
  address_near may types.Nil h = tt

  unary_in_near : (x : Prefix) (op : Operator) (literal : Bool) (o : Operand T) → NearOperand Near o → Fine (unary_in rules x op literal o)
  unary_in_near prefixes.Sign op literal o h = over_near basics.Int op o h
  unary_in_near prefixes.Negation op literal o h = over_near basics.Bool op o h
  unary_in_near prefixes.Indirection op literal o h = indirection_near o.value_type h
  unary_in_near prefixes.Address op literal o h = address_near (literal || o.addressable) o.value_type h
  unary_in_near prefixes.Bits op literal o h = tt

  pub unary_near : (op : Operator) (literal : Bool) (o : Operand T) → NearOperand Near o → Fine (unary_operand rules op literal o)
  unary_near op literal o h = unary_in_near (prefix op) op literal o h

  pub convert_near : (o : Operand T) (t : T) → Near t → Fine (convert rules o t)
  convert_near o t h = either Fine (makes_text rules o.value_type t) _ _ tt (either Fine (fits rules o.value_type t) _ _ h tt)

  pub length_near : (o : Operand T) → IfAny (NearOperand Near) (length_of rules o)
  length_near o = either (IfAny (NearOperand Near)) (is_over basics.Text (basic_under rules o.value_type)) _ _ law.int tt

-- names, selectors and calls

module _ {T S D P : Type 0} (Near : T → Type 0) (Rest : NearRest S D) (looks : Looks T S D P) (law : AreClosed Near Rest looks) where
  abbrev Denotes : Denoted T S D → Type 0
  Denotes d = NearDenoted Near Rest d

  abbrev Answers : Answer T S D P → Type 0
  Answers a = NearDenoted Near Rest a.denoted

  value_near : (o : Option (Operand T)) → IfAny (NearOperand Near) o → Denotes (of_value o)
  value_near None h = tt
  value_near (Some o) h = h

  of_type_near : (b : Bool) (t : Option T) → IfAny Near t → Denotes (value_of_type b t)
  of_type_near b None h = tt
  of_type_near b (Some t) h = h

  package_near : (p : Stand) (d : D) → Rest.decl d → Answers (package_answer p d)
  package_near stands.BeforeDot d h = h
  package_near stands.TypeDot d h = h
  package_near stands.«Type» d h = tt
  package_near stands.«Value» d h = tt
  package_near stands.Callee d h = tt

  type_near : (p : Stand) (d : D) (t : Option T) → IfAny Near t → Answers (type_answer p d t)
  type_near stands.BeforeDot d t h = tt
  type_near stands.TypeDot d t h = tt
  type_near stands.«Type» d t h = h
  type_near stands.«Value» d t h = tt
  type_near stands.Callee d t h = h

  func_near : (p : Stand) (d : D) (f : Denoted T S D) → Denotes f → Answers (func_answer p d f)
  func_near stands.BeforeDot d f h = tt
  func_near stands.TypeDot d f h = tt
  func_near stands.«Type» d f h = tt
  func_near stands.«Value» d f h = tt
  func_near stands.Callee d f h = h

  valued_near : (p : Stand) (d : D) (o : Option (Operand T)) → IfAny (NearOperand Near) o → Answers (value_answer p d o)
  valued_near stands.BeforeDot d o h = value_near o h
  valued_near stands.TypeDot d o h = tt
  valued_near stands.«Type» d o h = tt
  valued_near stands.«Value» d o h = value_near o h
  valued_near stands.Callee d o h = tt

  found_near : (p : Stand) (f : Found T S D) → NearFound Near Rest f → Answers (found_answer p f)
  found_near p founds.Missing h = tt
  found_near p founds.BadImport h = tt
  found_near p founds.Outside h = tt
  found_near p (founds.«Package» d) h = package_near p d h
  found_near p (founds.«Type» d t) h = type_near p d t h
  found_near p (founds.Func d s) h = func_near p d (denotes.Func d s) h
  found_near p (founds.Builtin d b) h = func_near p d (denotes.Builtin d b) tt
  found_near p (founds.«Value» d o) h = valued_near p d o h

  pub name_near : (o : ℕ) (p : Stand) (name : List ℕ) → Answers (name_answer (look_of_place looks o) p name)
  name_near o p name = either Answers (is_blank name) _ _ tt (found_near p (looks.find name o) (law.find name o))

  exported_near : (u : Usage) (e : Exported T S D) → NearExported Near Rest e → Answers (exported_answer u e)
  exported_near u exporteds.Absent h = tt
  exported_near u exporteds.Hidden h = tt
  exported_near u (exporteds.«Type» d t) h = type_near (usage_place u) d t h
  exported_near u (exporteds.Func d s) h = func_near (usage_place u) d (denotes.Func d s) h
  exported_near u (exporteds.«Value» d o) h = valued_near (usage_place u) d o h

  field_near : (u : Usage) (d : D) (path : P) (t : Option T) (b : Bool) → IfAny Near t → Answers (field_answer u d path t b)
  field_near usages.Callee d path t b h = tt
  field_near usages.«Type» d path t b h = of_type_near b t h
  field_near usages.«Value» d path t b h = of_type_near b t h

  method_near : (u : Usage) (d : D) (path : P) (s : S) (b : Bool) → Rest.sign s → Answers (method_answer u d path s b)
  method_near usages.Callee d path s b h = either Answers b _ _ h tt
  method_near usages.«Type» d path s b h = tt
  method_near usages.«Value» d path s b h = tt

  member_near : (u : Usage) (b : Bool) (s : Selection T S D P) → NearSelection Near Rest s → Answers (member_answer u b s)
  member_near u b (selections.Missing rule) h = tt
  member_near u b (selections.«Field» d path t by_pointer) h = field_near u d path t (by_pointer || b) h
  member_near u b (selections.Method d path s needs by_pointer) h = method_near u d path s (not needs || (by_pointer || b)) h

  behind_near : (o : ℕ) (u : Usage) (b : Bool) (t : Option T) (name : List ℕ) → IfAny Near t → Answers (value_selector (look_of_place looks o) u b t name)
  behind_near o u b None name h = tt
  behind_near o u b (Some t) name h = member_near u b (looks.select t name) (law.select t name h)

  pub selector_near : (o : ℕ) (u : Usage) (dot : Dot T D) (name : List ℕ) → NearDot Near Rest dot → Answers (selector_answer (look_of_place looks o) u dot name)
  selector_near o u (dots.«Package» d) name h = either Answers (is_blank name) _ _ tt (exported_near u (looks.exported d name) (law.exported d name h))
  selector_near o u dots.Refused name h = tt
  selector_near o u dots.Untyped name h = either Answers (is_blank name) _ _ tt tt
  selector_near o u (dots.«Value» operand) name h =
      either Answers (is_blank name) _ _ tt (behind_near o u operand.addressable (default_type looks.types operand.value_type) name (default_near Near looks.types law.types operand.value_type h))

  pub dot_near : (b : Bool) (d : Denoted T S D) → Denotes d → NearDot Near Rest (dot_of b d)
  dot_near b (denotes.«Package» d) h = h
  dot_near b (denotes.«Value» o) h = h
  dot_near b denotes.Refused h = either (NearDot Near Rest) b _ _ tt tt
  dot_near b denotes.Typeless h = tt
  dot_near b (denotes.«Type» d t) h = tt
  dot_near b (denotes.Several s) h = tt
  dot_near b denotes.Nothing h = tt
  dot_near b (denotes.Func d s) h = tt
  dot_near b (denotes.Builtin d x) h = tt

  -- arguments

  pub results_near : (ts : List (Option T)) → Each (IfAny Near) ts → Each (NearArgument Near) (map argument_of_result ts)
  results_near [] h = tt
  results_near (None ∷ ts) h = (tt, results_near ts h.1)
  results_near (Some t ∷ ts) h = (h.0, results_near ts h.1)

  pub argument_near : (d : Denoted T S D) → Denotes d → NearArgument Near (argument_of d)
  argument_near (denotes.«Value» o) h = h
  argument_near denotes.Refused h = tt
  argument_near denotes.Typeless h = tt
  argument_near (denotes.«Package» d) h = tt
  argument_near (denotes.«Type» d t) h = tt
  argument_near (denotes.Several s) h = tt
  argument_near denotes.Nothing h = tt
  argument_near (denotes.Func d s) h = tt
  argument_near (denotes.Builtin d b) h = tt

  each_argument : (ds : List (Denoted T S D)) → Each Denotes ds → Each (NearArgument Near) (map argument_of ds)
  each_argument [] h = tt
  each_argument (d ∷ ds) h = (argument_near d h.0, each_argument ds h.1)

  alone_near : (o : ℕ) (d : Denoted T S D) → Denotes d → Each (NearArgument Near) (arguments_alone (look_of_place looks o) d)
  alone_near o (denotes.Several s) h = results_near (looks.results s) (law.results s h)
  alone_near o denotes.Nothing h = (tt, tt)
  alone_near o (denotes.«Value» operand) h = (h, tt)
  alone_near o denotes.Refused h = (tt, tt)
  alone_near o denotes.Typeless h = (tt, tt)
  alone_near o (denotes.«Package» d) h = (tt, tt)
  alone_near o (denotes.«Type» d t) h = (tt, tt)
  alone_near o (denotes.Func d s) h = (tt, tt)
  alone_near o (denotes.Builtin d b) h = (tt, tt)

  pub arguments_near : (o : ℕ) (ds : List (Denoted T S D)) → Each Denotes ds → Each (NearArgument Near) (arguments_of (look_of_place looks o) ds)
  arguments_near o [] h = tt
  arguments_near o (d ∷ []) h = alone_near o d h.0
  arguments_near o (d ∷ e ∷ ds) h = each_argument (d ∷ e ∷ ds) h

  -- calls

  called_near : (s : S) (ts : List (Option T)) → Rest.sign s → Each (IfAny Near) ts → Denotes (of_results s ts)
  called_near s [] h k = tt
  called_near s (t ∷ []) h k = of_type_near false t k.0
  called_near s (t ∷ u ∷ ts) h k = h

  converted_near : (d : D) (r : Result (Operand T) Rule) → IfFine (NearOperand Near) r → Answers (of_conversion d r)
  converted_near d (Ok o) h = h
  converted_near d (Err rule) h = tt

  one_near : (o : ℕ) (d : D) (t : Option T) (a : Argument T) → IfAny Near t → Answers (convert_argument (look_of_place looks o) d t a)
  one_near o d t arguments.Refused h = of_type_near false t h
  one_near o d t arguments.Void h = tt
  one_near o d None (arguments.«Value» operand) h = tt
  one_near o d (Some t) (arguments.«Value» operand) h = converted_near d (convert looks.types operand t) (convert_near Near looks.types law.types operand t h)

  conversion_near : (o : ℕ) (d : D) (t : Option T) (given : List (Argument T)) → IfAny Near t → Answers (conversion (look_of_place looks o) d t given)
  conversion_near o d t [] h = tt
  conversion_near o d t (a ∷ []) h = one_near o d t a h
  conversion_near o d t (a ∷ b ∷ more) h = tt

  lengths_near : (d : D) (l : Option (Operand T)) → IfAny (NearOperand Near) l → Answers (of_length d l)
  lengths_near d None h = tt
  lengths_near d (Some o) h = h

  length_argument_near : (o : ℕ) (d : D) (a : Argument T) → Answers (length_argument (look_of_place looks o) d a)
  length_argument_near o d arguments.Refused = law.types.int
  length_argument_near o d arguments.Void = tt
  length_argument_near o d (arguments.«Value» operand) = lengths_near d (length_of looks.types operand) (length_near Near looks.types law.types operand)

  builtin_near : (o : ℕ) (d : D) (b : Builtin) (given : List (Argument T)) → Answers (builtin_call (look_of_place looks o) d b given)
  builtin_near o d builtins.Len [] = tt
  builtin_near o d builtins.Len (a ∷ []) = length_argument_near o d a
  builtin_near o d builtins.Len (a ∷ b ∷ more) = tt
  builtin_near o d builtins.Panic [] = tt
  builtin_near o d builtins.Panic (a ∷ []) = either Answers (fits_type looks.types looks.types.any a) _ _ tt tt
  builtin_near o d builtins.Panic (a ∷ b ∷ more) = tt
  builtin_near o d builtins.Print given = either Answers (list_all (is_printable (look_of_place looks o)) given) _ _ tt tt

  func_call_near : (o : ℕ) (d : D) (s : S) (given : List (Argument T)) → Rest.sign s → Answers (func_call (look_of_place looks o) d s given)
  func_call_near o d s given h =
      either Answers (length given == length (looks.params s)) _ _
      (either Answers (all_fit (look_of_place looks o) given (looks.params s)) _ _ (called_near s (looks.results s) h (law.results s h)) tt) tt

  judged_near : (o : ℕ) (d : Denoted T S D) (given : List (Argument T)) → Denotes d → Answers (judged_call (look_of_place looks o) d given)
  judged_near o (denotes.«Type» d t) given h = conversion_near o d t given h
  judged_near o (denotes.Func d s) given h = func_call_near o d s given h
  judged_near o (denotes.Builtin d b) given h = builtin_near o d b given
  judged_near o denotes.Refused given h = tt
  judged_near o denotes.Typeless given h = tt
  judged_near o (denotes.«Package» d) given h = tt
  judged_near o (denotes.«Value» operand) given h = tt
  judged_near o (denotes.Several s) given h = tt
  judged_near o denotes.Nothing given h = tt

  of_builtin_near : (o : ℕ) (b : Builtin) → Denotes (of_builtin (look_of_place looks o) b)
  of_builtin_near o builtins.Len = law.types.int
  of_builtin_near o builtins.Panic = tt
  of_builtin_near o builtins.Print = tt

  free_near : (o : ℕ) (d : Denoted T S D) → Denotes d → Answers (free_call (look_of_place looks o) d)
  free_near o (denotes.«Type» d t) h = of_type_near false t h
  free_near o (denotes.Func d s) h = called_near s (looks.results s) h (law.results s h)
  free_near o (denotes.Builtin d b) h = of_builtin_near o b
  free_near o denotes.Refused h = tt
  free_near o denotes.Typeless h = tt
  free_near o (denotes.«Package» d) h = tt
  free_near o (denotes.«Value» operand) h = tt
  free_near o (denotes.Several s) h = tt
  free_near o denotes.Nothing h = tt

  pub call_near : (o : ℕ) (d : Denoted T S D) (free : Bool) (given : List (Argument T)) → Denotes d → Answers (call_answer (look_of_place looks o) d free given)
  call_near o d true given h = free_near o d h
  call_near o d false given h = judged_near o d given h
