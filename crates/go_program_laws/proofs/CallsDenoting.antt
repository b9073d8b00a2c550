-- Expressions and specifications make constants of types over what their values are.
use Rattle.std.proofs.Common.{◌≡◌, ℕ, Bool, true, false, List, [], ◌∷◌, length, map, replicate, Option, Some, None, Ok, Err, refl, ◌==◌, if◌then◌else◌}
use Rattle.std.specs.Prelude.{Result, zero, suc}
use Rattle.std.specs.List.{AllByRecursion, list_all}
use Rattle.go_constant_core.specs.text_core.Text.{is_blank}
use Rattle.go_constant_core.specs.text_core.declared.rule.Rule.{Rule}
use Rattle.go_constant_core.specs.text_core.declared.rule.Rule.TheVariants.{C2, C3, N8, S8}
use Rattle.go_constant_core.specs.text_core.declared.span.Span.{Span}
use Rattle.go_tree_nodes.specs.token_core.declared.kind.Operator.{Operator}
use Rattle.go_tree_nodes.specs.declared.decls.ValueKind.TheVariants as kinds
use Rattle.go_tree_nodes.specs.declared.usage.Usage.{Usage}
use Rattle.go_tree_nodes.specs.declared.usage.Usage.TheVariants as usages
use Rattle.go_tree_nodes.specs.Trees.{Separated, One, Then, ExprTree, ItemTrees, Integer, Text, Named, Paren, Unary, Binary, Select, Call, Literal, StructLiteral, NoItems, Item, ValueSpecTree, Alone, Step, Assign, Update, Define}
use Rattle.go_names_core.specs.local_core.Outline.{idents}
use Rattle.go_names_core.specs.local_core.Steps.{Piece, Header, Spec, Act, Condition, Given}
use Rattle.go_term_core.specs.declared.term.Basic.{Basic}
use Rattle.go_term_core.specs.declared.term.Basic.TheVariants as basics
use Rattle.go_constant_core.specs.declared.values.Constant.{Constant}
use Rattle.go_report_core.specs.operand_core.declared.types.Operand.{Operand}
use Rattle.go_report_core.specs.operand_core.declared.types.ValueType.{ValueType}
use Rattle.go_report_core.specs.operand_core.Assign.{assignable_to}
use Rattle.go_report_core.specs.operand_core.Conversions.{kept, length_of}
use Rattle.go_report_core.specs.operand_core.Prefixes.{refused_unary}
use Rattle.go_report_core.specs.operand_core.Values.{basic_under, default_type, form_basic}
use Rattle.go_report_core.specs.denote_core.declared.things.Argument.{Argument}
use Rattle.go_report_core.specs.denote_core.declared.things.Argument.TheVariants as arguments
use Rattle.go_report_core.specs.denote_core.declared.things.Builtin.{Builtin}
use Rattle.go_report_core.specs.denote_core.declared.things.Builtin.TheVariants as builtins
use Rattle.go_report_core.specs.denote_core.declared.things.Denoted.{Denoted}
use Rattle.go_report_core.specs.denote_core.declared.things.Denoted.TheVariants as denotes
use Rattle.go_report_core.specs.denote_core.declared.things.Dot.{Dot}
use Rattle.go_report_core.specs.denote_core.declared.things.Dot.TheVariants as dots
use Rattle.go_report_core.specs.denote_core.declared.things.Exported.{Exported}
use Rattle.go_report_core.specs.denote_core.declared.things.Exported.TheVariants as exporteds
use Rattle.go_report_core.specs.denote_core.declared.things.Found.{Found}
use Rattle.go_report_core.specs.denote_core.declared.things.Found.TheVariants as founds
use Rattle.go_report_core.specs.denote_core.declared.things.Selection.{Selection}
use Rattle.go_report_core.specs.denote_core.declared.things.Selection.TheVariants as selections
use Rattle.go_report_core.specs.denote_core.declared.things.Stand.{Stand}
use Rattle.go_report_core.specs.denote_core.declared.things.Stand.TheVariants as stands
use Rattle.go_report_core.specs.denote_core.Answers.{declared, found_answer, refused, value_answer, value_of_type}
use Rattle.go_report_core.specs.denote_core.Arguments.{argument_of, argument_of_result, arguments_alone, arguments_of, fits_type, is_free}
use Rattle.go_report_core.specs.denote_core.Calls.{all_fit, builtin_call, call_answer, conversion, convert_argument, free_call, func_call, is_printable, judged_call, length_argument, of_conversion, of_length, of_results}
use Rattle.go_report_core.specs.denote_core.Selectors.{dot_of, exported_answer, field_answer, member_answer, method_answer, selector_answer, usage_place, value_selector}
use Rattle.go_report_core.specs.expr_core.Denoting.{denoted, denoted_items, named_type, written_type}
use Rattle.go_report_core.specs.expr_core.Lists.{denoted_exprs}
use Rattle.go_report_core.specs.expr_core.Looks.{Looks, look_of_place}
use Rattle.go_report_core.specs.expr_core.Operators.{binary_operands, is_star, of_operand, operand_of, passed, pointer_type, unary_of, unary_type}
use Rattle.go_report_core.specs.expr_core.declared.things.Judged.{Judged}
use Rattle.go_report_core.specs.expr_core.Places.{inside, is_literal, is_lone_call, is_name, left_place, under_place, whole}
use Rattle.go_report_core.specs.denote_core.CompositeLiterals.{literal_denotes}
use Rattle.go_body_core.specs.stmt_core.PieceHeaders.{header_types}
use Rattle.go_body_core.specs.stmt_core.PiecePieces.{piece_values}
use Rattle.go_body_core.specs.stmt_core.PieceSpecifications.{constant_value, constant_values, names_values, values_given, variable_types}
use Rattle.go_body_core.specs.stmt_core.PieceStatements.{short_name_types}
use Rattle.go_body_core.specs.stmt_core.PieceTypes.{some_written_type}
use Rattle.go_body_core.specs.stmt_core.PieceValues.{list_start, variable}
use Rattle.go_body_core.specs.stmt_core.StatementConstants.{answer_of_value, constant_answer, of_basic_type, of_own_type, of_type, operand_constant, own_value}
use Rattle.go_program_laws.specs.calls.Constants.{AreKept, ConstantsKeepTypes, IsConstantOver, IsDenotedOver, IsExportedOver, IsFoundOver, IsOperandOver, IsValueOver, NamesAreOver}
use Rattle.go_program_laws.proofs.CallsOver.{IsResultOver, assigned_same, binary_operand_over, convert_over, length_of_over, natural_over, same_over, unary_operand_over}

module _ {T S D P : Type 0} (looks : Looks T S D P) (kept_types : AreKept looks.types) where
  abbrev Over : Denoted T S D → Type 0
  Over d = IsDenotedOver looks.types d

  abbrev ArgumentOver : Argument T → Type 0
  ArgumentOver (arguments.«Value» o) = IsOperandOver looks.types o
  ArgumentOver arguments.Refused = Unit {0}
  ArgumentOver arguments.Void = Unit {0}

  abbrev ArgumentsOver : List (Argument T) → Type 0
  ArgumentsOver [] = Unit {0}
  ArgumentsOver (a ∷ gs) = ArgumentOver a × ArgumentsOver gs

  abbrev AllOver : List (Denoted T S D) → Type 0
  AllOver [] = Unit {0}
  AllOver (d ∷ ds) = Over d × AllOver ds

  -- values that are not constant

  typed_over : (b : Bool) (t : Option T) → Over (value_of_type b t)
  typed_over b None = tt
  typed_over b (Some t) = tt

  results_over : (s : S) (ts : List (Option T)) → Over (of_results s ts)
  results_over s [] = tt
  results_over s (t ∷ []) = typed_over false t
  results_over s (t ∷ u ∷ more) = tt

  literal_over : (t : Option T) → Over (literal_denotes t)
  literal_over None = tt
  literal_over (Some t) = tt

  -- names

  value_over : (place : Stand) (d : D) (o : Option (Operand T)) → IsValueOver looks.types o → Over (value_answer {P = P} place d o).denoted
  value_over stands.«Value» d None h = tt
  value_over stands.«Value» d (Some o) h = h
  value_over stands.BeforeDot d None h = tt
  value_over stands.BeforeDot d (Some o) h = h
  value_over stands.«Type» d o h = tt
  value_over stands.TypeDot d o h = tt
  value_over stands.Callee d o h = tt

  package_over : (place : Stand) (d : D) → Over (found_answer {T = T} {S = S} {D = D} {P = P} place (founds.«Package» d)).denoted
  package_over stands.«Value» d = tt
  package_over stands.BeforeDot d = tt
  package_over stands.«Type» d = tt
  package_over stands.TypeDot d = tt
  package_over stands.Callee d = tt

  type_over : (place : Stand) (d : D) (t : Option T) → Over (found_answer {T = T} {S = S} {D = D} {P = P} place (founds.«Type» d t)).denoted
  type_over stands.«Value» d t = tt
  type_over stands.BeforeDot d t = tt
  type_over stands.«Type» d t = tt
  type_over stands.TypeDot d t = tt
  type_over stands.Callee d t = tt

  func_over : (place : Stand) (d : D) (s : S) → Over (found_answer {T = T} {S = S} {D = D} {P = P} place (founds.Func d s)).denoted
  func_over stands.«Value» d s = tt
  func_over stands.BeforeDot d s = tt
  func_over stands.«Type» d s = tt
  func_over stands.TypeDot d s = tt
  func_over stands.Callee d s = tt

  builtin_over : (place : Stand) (d : D) (b : Builtin) → Over (found_answer {T = T} {S = S} {D = D} {P = P} place (founds.Builtin d b)).denoted
  builtin_over stands.«Value» d b = tt
  builtin_over stands.BeforeDot d b = tt
  builtin_over stands.«Type» d b = tt
  builtin_over stands.TypeDot d b = tt
  builtin_over stands.Callee d b = tt

  found_over : (place : Stand) (f : Found T S D) → IsFoundOver looks.types f → Over (found_answer {P = P} place f).denoted
  found_over place founds.Missing h = tt
  found_over place founds.BadImport h = tt
  found_over place founds.Outside h = tt
  found_over place (founds.«Package» d) h = package_over place d
  found_over place (founds.«Type» d t) h = type_over place d t
  found_over place (founds.Func d s) h = func_over place d s
  found_over place (founds.Builtin d b) h = builtin_over place d b
  found_over place (founds.«Value» d o) h = value_over place d o h

  name_over : (b : Bool) (place : Stand) (f : Found T S D) → IsFoundOver looks.types f → Over (if b then refused {T = T} {S = S} {D = D} {P = P} N8 else found_answer {P = P} place f).denoted
  name_over true place f h = tt
  name_over false place f h = found_over place f h

  -- selectors

  exported_over : (u : Usage) (x : Exported T S D) → IsExportedOver looks.types x → Over (exported_answer {P = P} u x).denoted
  exported_over u exporteds.Absent h = tt
  exported_over u exporteds.Hidden h = tt
  exported_over u (exporteds.«Type» d t) h = type_over (usage_place u) d t
  exported_over u (exporteds.Func d s) h = func_over (usage_place u) d s
  exported_over u (exporteds.«Value» d o) h = value_over (usage_place u) d o h

  field_over : (u : Usage) (d : D) (path : P) (t : Option T) (b : Bool) → Over (field_answer {S = S} u d path t b).denoted
  field_over usages.Callee d path t b = tt
  field_over usages.«Type» d path t b = typed_over b t
  field_over usages.«Value» d path t b = typed_over b t

  method_over : (u : Usage) (d : D) (path : P) (s : S) (b : Bool) → Over (method_answer {T = T} u d path s b).denoted
  method_over usages.Callee d path s true = tt
  method_over usages.Callee d path s false = tt
  method_over usages.«Type» d path s b = tt
  method_over usages.«Value» d path s b = tt

  member_over : (u : Usage) (b : Bool) (m : Selection T S D P) → Over (member_answer u b m).denoted
  member_over u b (selections.Missing rule) = tt
  member_over u b (selections.«Field» d path t by_pointer) = field_over u d path t _
  member_over u b (selections.Method d path s needs_pointer by_pointer) = method_over u d path s _

  selected_over : (n : ℕ) (u : Usage) (b : Bool) (t : Option T) (name : List ℕ) → Over (value_selector (look_of_place looks n) u b t name).denoted
  selected_over n u b None name = tt
  selected_over n u b (Some t) name = member_over u b (looks.select t name)

  module _ (names : NamesAreOver T S D P looks) where
    dot_over : (n : ℕ) (u : Usage) (dot : Dot T D) (name : List ℕ) → Over (selector_answer (look_of_place looks n) u dot name).denoted
    dot_over n u (dots.«Package» d) name = by (is_blank name)
      where
        by : (b : Bool) → Over (if b then refused {T = T} {S = S} {D = D} {P = P} S8 else exported_answer u (looks.exported d name)).denoted
        by true = tt
        by false = exported_over u (looks.exported d name) (names.exported d name)
    dot_over n u dots.Refused name = tt
    dot_over n u dots.Untyped name = by (is_blank name)
      where
        by : (b : Bool) → Over (if b then refused {T = T} {S = S} {D = D} {P = P} S8 else selector_answer (look_of_place looks n) u dots.Refused name).denoted
        by true = tt
        by false = tt
    dot_over n u (dots.«Value» o) name = by (is_blank name)
      where
        by : (b : Bool) → Over (if b then refused {T = T} {S = S} {D = D} {P = P} S8 else value_selector (look_of_place looks n) u o.addressable (default_type looks.types o.value_type) name).denoted
        by true = tt
        by false = selected_over n u o.addressable (default_type looks.types o.value_type) name

    -- operators

    judged_over : (r : Result (Operand T) Rule) → IsResultOver looks.types kept_types r → Over (of_operand {S = S} {D = D} r).denoted
    judged_over (Ok o) h = h
    judged_over (Err rule) h = tt

    abbrev pointer_judged : D → Option T → Judged T S D
    pointer_judged d t = record { denoted = denotes.«Type» d (pointer_type looks.types t); fault = None }

    star_over : (op : Operator) (d : D) (t : Option T) → Over (unary_type {S = S} looks.types op d t).denoted
    star_over op d t = by (is_star op)
      where
        by : (b : Bool) → Over (if b then pointer_judged d t else passed (refused_unary op)).denoted
        by true = tt
        by false = tt

    unary_over : (op : Operator) (b : Bool) (d : Denoted T S D) → Over d → Over (unary_of looks.types op b d).denoted
    unary_over op b (denotes.«Value» o) h = judged_over _ (unary_operand_over looks.types kept_types op b o h)
    unary_over op b (denotes.«Type» d t) h = star_over op d t
    unary_over op b denotes.Refused h = tt
    unary_over op b denotes.Typeless h = tt
    unary_over op b (denotes.«Package» d) h = tt
    unary_over op b (denotes.Several s) h = tt
    unary_over op b denotes.Nothing h = tt
    unary_over op b (denotes.Func d s) h = tt
    unary_over op b (denotes.Builtin d x) h = tt

    operand_over : (d : Denoted T S D) → Over d → IsValueOver looks.types (operand_of d)
    operand_over (denotes.«Value» o) h = h
    operand_over (denotes.«Type» d t) h = tt
    operand_over denotes.Refused h = tt
    operand_over denotes.Typeless h = tt
    operand_over (denotes.«Package» d) h = tt
    operand_over (denotes.Several s) h = tt
    operand_over denotes.Nothing h = tt
    operand_over (denotes.Func d s) h = tt
    operand_over (denotes.Builtin d x) h = tt

    operands_over : (op : Operator) (a b : Option (Operand T)) → IsValueOver looks.types a → Over (binary_operands {S = S} {D = D} looks.types op a b).denoted
    operands_over op (Some a) (Some b) h = judged_over _ (binary_operand_over looks.types kept_types op a b h)
    operands_over op (Some a) None h = tt
    operands_over op None b h = tt

    -- arguments

    argument_over : (d : Denoted T S D) → Over d → ArgumentOver (argument_of d)
    argument_over (denotes.«Value» o) h = h
    argument_over (denotes.«Type» d t) h = tt
    argument_over denotes.Refused h = tt
    argument_over denotes.Typeless h = tt
    argument_over (denotes.«Package» d) h = tt
    argument_over (denotes.Several s) h = tt
    argument_over denotes.Nothing h = tt
    argument_over (denotes.Func d s) h = tt
    argument_over (denotes.Builtin d x) h = tt

    result_over : (t : Option T) → ArgumentOver (argument_of_result t)
    result_over None = tt
    result_over (Some t) = tt

    several_over : (ts : List (Option T)) → ArgumentsOver (map argument_of_result ts)
    several_over [] = tt
    several_over (t ∷ ts) = (result_over t, several_over ts)

    alone_over : (n : ℕ) (d : Denoted T S D) → Over d → ArgumentsOver (arguments_alone (look_of_place looks n) d)
    alone_over n (denotes.Several s) h = several_over (looks.results s)
    alone_over n (denotes.«Value» o) h = (h, tt)
    alone_over n denotes.Nothing h = (tt, tt)
    alone_over n denotes.Refused h = (tt, tt)
    alone_over n denotes.Typeless h = (tt, tt)
    alone_over n (denotes.«Package» d) h = (tt, tt)
    alone_over n (denotes.«Type» d t) h = (tt, tt)
    alone_over n (denotes.Func d s) h = (tt, tt)
    alone_over n (denotes.Builtin d b) h = (tt, tt)

    each_over : (ds : List (Denoted T S D)) → AllOver ds → ArgumentsOver (map argument_of ds)
    each_over [] h = tt
    each_over (d ∷ ds) h = (argument_over d h.0, each_over ds h.1)

    arguments_over : (n : ℕ) (ds : List (Denoted T S D)) → AllOver ds → ArgumentsOver (arguments_of (look_of_place looks n) ds)
    arguments_over n [] h = tt
    arguments_over n (d ∷ []) h = alone_over n d h.0
    arguments_over n (d ∷ e ∷ more) h = each_over (d ∷ e ∷ more) h

    -- calls

    by_test : (b : Bool) (d e : Denoted T S D) → Over d → Over e → Over (if b then d else e)
    by_test true d e h k = h
    by_test false d e h k = k

    func_call_over : (n : ℕ) (d : D) (s : S) (given : List (Argument T)) → Over (func_call (look_of_place looks n) d s given).denoted
    func_call_over n d s given = by (length given == length (looks.params s)) (all_fit (look_of_place looks n) given (looks.params s))
      where
        by : (a b : Bool) → Over (if a then (if b then declared {P = P} d (of_results s (looks.results s)) else refused C3) else refused C2).denoted
        by true true = results_over s (looks.results s)
        by true false = tt
        by false b = tt

    converted_over : (d : D) (r : Result (Operand T) Rule) → IsResultOver looks.types kept_types r → Over (of_conversion {S = S} {P = P} d r).denoted
    converted_over d (Ok o) h = h
    converted_over d (Err rule) h = tt

    convert_argument_over : (n : ℕ) (d : D) (t : Option T) (a : Argument T) → ArgumentOver a → Over (convert_argument (look_of_place looks n) d t a).denoted
    convert_argument_over n d t arguments.Refused h = typed_over false t
    convert_argument_over n d t arguments.Void h = tt
    convert_argument_over n d None (arguments.«Value» o) h = tt
    convert_argument_over n d (Some t) (arguments.«Value» o) h = converted_over d _ (convert_over looks.types kept_types o t h)

    conversion_over : (n : ℕ) (d : D) (t : Option T) (given : List (Argument T)) → ArgumentsOver given → Over (conversion (look_of_place looks n) d t given).denoted
    conversion_over n d t [] h = tt
    conversion_over n d t (a ∷ []) h = convert_argument_over n d t a h.0
    conversion_over n d t (a ∷ b ∷ more) h = tt

    of_length_over : (d : D) (o : Option (Operand T)) → IsValueOver looks.types o → Over (of_length {S = S} {P = P} d o).denoted
    of_length_over d None h = tt
    of_length_over d (Some o) h = h

    length_argument_over : (n : ℕ) (d : D) (a : Argument T) → Over (length_argument (look_of_place looks n) d a).denoted
    length_argument_over n d arguments.Refused = tt
    length_argument_over n d arguments.Void = tt
    length_argument_over n d (arguments.«Value» o) = of_length_over d (length_of looks.types o) (length_of_over looks.types kept_types o)

    builtin_call_over : (n : ℕ) (d : D) (b : Builtin) (given : List (Argument T)) → Over (builtin_call (look_of_place looks n) d b given).denoted
    builtin_call_over n d builtins.Len [] = tt
    builtin_call_over n d builtins.Len (a ∷ []) = length_argument_over n d a
    builtin_call_over n d builtins.Len (a ∷ b ∷ more) = tt
    builtin_call_over n d builtins.Panic [] = tt
    builtin_call_over n d builtins.Panic (a ∷ []) = by (fits_type looks.types looks.types.any a)
      where
        by : (b : Bool) → Over (if b then declared {T = T} {S = S} {P = P} d denotes.Nothing else refused C3).denoted
        by true = tt
        by false = tt
    builtin_call_over n d builtins.Panic (a ∷ b ∷ more) = tt
    builtin_call_over n d builtins.Print given = by (list_all (is_printable (look_of_place looks n)) given)
      where
        by : (b : Bool) → Over (if b then declared {T = T} {S = S} {P = P} d denotes.Nothing else refused C3).denoted
        by true = tt
        by false = tt

    judged_call_over : (n : ℕ) (callee : Denoted T S D) (given : List (Argument T)) → ArgumentsOver given → Over (judged_call (look_of_place looks n) callee given).denoted
    judged_call_over n (denotes.«Type» d t) given h = conversion_over n d t given h
    judged_call_over n (denotes.Func d s) given h = func_call_over n d s given
    judged_call_over n (denotes.Builtin d b) given h = builtin_call_over n d b given
    judged_call_over n denotes.Refused given h = tt
    judged_call_over n denotes.Typeless given h = tt
    judged_call_over n (denotes.«Package» p) given h = tt
    judged_call_over n (denotes.«Value» o) given h = tt
    judged_call_over n (denotes.Several s) given h = tt
    judged_call_over n denotes.Nothing given h = tt

    free_builtin_over : (n : ℕ) (d : D) (b : Builtin) → Over (free_call (look_of_place looks n) (denotes.Builtin d b)).denoted
    free_builtin_over n d builtins.Len = tt
    free_builtin_over n d builtins.Panic = tt
    free_builtin_over n d builtins.Print = tt

    free_call_over : (n : ℕ) (callee : Denoted T S D) → Over (free_call (look_of_place looks n) callee).denoted
    free_call_over n (denotes.«Type» d t) = typed_over false t
    free_call_over n (denotes.Func d s) = results_over s (looks.results s)
    free_call_over n (denotes.Builtin d b) = free_builtin_over n d b
    free_call_over n denotes.Refused = tt
    free_call_over n denotes.Typeless = tt
    free_call_over n (denotes.«Package» p) = tt
    free_call_over n (denotes.«Value» o) = tt
    free_call_over n (denotes.Several s) = tt
    free_call_over n denotes.Nothing = tt

    call_over : (n : ℕ) (callee : Denoted T S D) (free : Bool) (given : List (Argument T)) → ArgumentsOver given → Over (call_answer (look_of_place looks n) callee free given).denoted
    call_over n callee true given h = free_call_over n callee
    call_over n callee false given h = judged_call_over n callee given h

    -- expressions

    mutual
      pub expression_over : (p : Stand) (e : ExprTree) → Over (denoted looks p e)
      expression_over p (Integer n span) = natural_over n (Some basics.Int) refl
      expression_over p (Text t) = refl
      expression_over p (Named x) = name_over (is_blank x.name) p (looks.find x.name x.span.start) (names.names x.name x.span.start)
      expression_over p (Paren first e last) = expression_over (inside p) e
      expression_over p (Unary op span e) = unary_over op (is_literal e) (denoted looks (under_place op p) e) (expression_over (under_place op p) e)
      expression_over p (Binary a op span b) = operands_over op (operand_of (denoted looks stands.«Value» a)) (operand_of (denoted looks stands.«Value» b)) (operand_over (denoted looks stands.«Value» a) (expression_over stands.«Value» a))
      expression_over p (Select e dot x) = dot_over x.span.start (whole p) (dot_of (is_name e) (denoted looks (left_place p e) e)) x.name
      expression_over p (Call e first items last) =
          call_over first.start (denoted looks stands.Callee e) (is_free (is_lone_call items) (denoted_items looks items)) (arguments_of (look_of_place looks first.start) (denoted_items looks items)) (arguments_over first.start (denoted_items looks items) (items_over items))
      expression_over p (Literal n first items last) = literal_over (named_type looks n)
      expression_over p (StructLiteral t first items last) = literal_over (written_type looks t)

      items_over : (items : ItemTrees) → AllOver (denoted_items looks items)
      items_over NoItems = tt
      items_over (Item key e comma rest) = (expression_over stands.«Value» e, items_over rest)

    -- specifications

    exprs_over : (es : Separated ExprTree) → AllOver (denoted_exprs looks es)
    exprs_over (One e) = (expression_over stands.«Value» e, tt)
    exprs_over (Then e comma more) = (expression_over stands.«Value» e, exprs_over more)

    pub given_over : (es : Option (Span × Separated ExprTree)) → ArgumentsOver (values_given looks es)
    given_over None = tt
    given_over (Some v) = arguments_over (list_start v.1) (denoted_exprs looks v.1) (exprs_over v.1)

    own_over : (v : ValueType T) (k : Option Constant) → IsConstantOver k (basic_under looks.types v) → IsValueOver looks.types (own_value v k).value
    own_over v None h = tt
    own_over v (Some k) h = h

    kept_constant : (o : Operand T) (b : Option Basic) → IsOperandOver looks.types o → IsConstantOver (kept b o.constant) (basic_under looks.types o.value_type)
    kept_constant o None h = tt
    kept_constant o (Some b) h = h

    own_type_over : (a : Argument T) → ArgumentOver a → IsValueOver looks.types (of_own_type looks.types a).value
    own_type_over arguments.Refused h = tt
    own_type_over arguments.Void h = tt
    own_type_over (arguments.«Value» o) h = own_over o.value_type (operand_constant looks.types o) (kept_constant o (basic_under looks.types o.value_type) h)

    no_type_over : (a : Argument T) → IsValueOver looks.types (constant_answer looks.types (Some None) a).value
    no_type_over arguments.Refused = tt
    no_type_over arguments.Void = tt
    no_type_over (arguments.«Value» o) = tt

    assigned_over : (t : T) (c : Basic) (o : Operand T) (b : Bool) (k : Option Constant) → form_basic (looks.types.form t) ≡ Some c → assignable_to looks.types o t ≡ b → IsConstantOver k (basic_under looks.types o.value_type) → IsValueOver looks.types (answer_of_value t b k).value
    assigned_over t c o b None is e h = tt
    assigned_over t c o true (Some k) is e h = same_over (Some k) (basic_under looks.types o.value_type) (form_basic (looks.types.form t)) (λ x y hx hy. assigned_same looks.types kept_types o.value_type t x y hx hy e) c is h
    assigned_over t c o false (Some k) is e h = tt

    basic_type_over : (t : T) (c : Basic) (a : Argument T) → form_basic (looks.types.form t) ≡ Some c → ArgumentOver a → IsValueOver looks.types (of_basic_type looks.types t a).value
    basic_type_over t c arguments.Refused is h = tt
    basic_type_over t c arguments.Void is h = tt
    basic_type_over t c (arguments.«Value» o) is h = assigned_over t c o (assignable_to looks.types o t) (operand_constant looks.types o) is refl (kept_constant o (basic_under looks.types o.value_type) h)

    of_type_over : (t : T) (b : Option Basic) (a : Argument T) → form_basic (looks.types.form t) ≡ b → ArgumentOver a → IsValueOver looks.types (of_type looks.types t b a).value
    of_type_over t None a is h = tt
    of_type_over t (Some c) a is h = basic_type_over t c a is h

    constant_over : (written : Option (Option T)) (a : Argument T) → ArgumentOver a → IsValueOver looks.types (constant_value looks.types written a)
    constant_over None a h = own_type_over a h
    constant_over (Some None) a h = no_type_over a
    constant_over (Some (Some t)) a h = of_type_over t (form_basic (looks.types.form t)) a refl h

    constants_over : (written : Option (Option T)) (gs : List (Argument T)) → ArgumentsOver gs → AllByRecursion (IsValueOver looks.types) (map (constant_value looks.types written) gs)
    constants_over written [] h = tt
    constants_over written (a ∷ gs) h = (constant_over written a h.0, constants_over written gs h.1)

    repeated_over : (n : ℕ) (o : Option (Operand T)) → IsValueOver looks.types o → AllByRecursion (IsValueOver looks.types) (replicate n o)
    repeated_over zero o h = tt
    repeated_over (suc n) o h = (h, repeated_over n o h)

    pub all_constants_over : (written : Option (Option T)) (n : ℕ) (gs : List (Argument T)) → ArgumentsOver gs → AllByRecursion (IsValueOver looks.types) (constant_values looks.types written n gs)
    all_constants_over written n gs h = by (n == length gs)
      where
        by : (b : Bool) → AllByRecursion (IsValueOver looks.types) (if b then map (constant_value looks.types written) gs else replicate n (constant_value looks.types written arguments.Refused))
        by true = constants_over written gs h
        by false = repeated_over n (constant_value looks.types written arguments.Refused) (constant_over written arguments.Refused tt)

    variable_over : (t : Option T) → IsValueOver looks.types (variable t)
    variable_over None = tt
    variable_over (Some t) = tt

    pub variables_over : (ts : List (Option T)) → AllByRecursion (IsValueOver looks.types) (map variable ts)
    variables_over [] = tt
    variables_over (t ∷ ts) = (variable_over t, variables_over ts)

    -- what constants of a specification stand for
    pub specification_over : (v : ValueSpecTree) → AllByRecursion (IsValueOver looks.types) (names_values looks kinds.Const v.names (some_written_type looks v.type_expr) v.values)
    specification_over v = all_constants_over (some_written_type looks v.type_expr) (length (idents v.names)) (values_given looks v.values) (given_over v.values)

    -- pieces

    pub piece_over : (firsts : List Bool) (p : Piece) → AllByRecursion (IsValueOver looks.types) (piece_values looks firsts p)
    piece_over firsts (Header r s) = variables_over (header_types looks r s)
    piece_over firsts (Spec kinds.Const v) = specification_over v
    piece_over firsts (Spec kinds.Var v) = variables_over (variable_types looks v.names (some_written_type looks v.type_expr) v.values)
    piece_over firsts (Act (Alone e)) = tt
    piece_over firsts (Act (Step e op span)) = tt
    piece_over firsts (Act (Assign ts span es)) = tt
    piece_over firsts (Act (Update e op span v)) = tt
    piece_over firsts (Act (Define xs span es)) = variables_over (short_name_types looks firsts xs es)
    piece_over firsts (Condition e) = tt
    piece_over firsts (Given place es) = tt

pub constants_keep_types : (T S D P : Type 0) → ConstantsKeepTypes T S D P
constants_keep_types T S D P = record {
  expressions = λ looks kept_types names p e. expression_over looks kept_types names p e;
  pieces = λ looks kept_types names firsts p. piece_over looks kept_types names firsts p;
}
