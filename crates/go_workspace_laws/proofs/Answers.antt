-- What names, selectors, keys and calls have is declared in some packages alone, where what they are looked up by is.
use Rattle.std.proofs.Common.{ℕ, Bool, true, false, List, [], ◌∷◌, refl}
use Rattle.std.specs.Prelude.{Option, Some, None, Result, Ok, Err, ⊤, ◌||◌, ◌==◌, not, length}
use Rattle.std.specs.Str.{bytes_eq}
use Rattle.std.specs.List.{list_all}
use Rattle.go_path_core.specs.text_core.Text.{is_blank}
use Rattle.go_path_core.specs.text_core.declared.rule.Rule.{Rule}
use Rattle.go_tree_nodes.specs.token_core.declared.kind.Operator.{Operator}
use Rattle.go_tree_nodes.specs.declared.names.Ident.{Ident}
use Rattle.go_tree_nodes.specs.declared.types.TypeName.{TypeName}
use Rattle.go_tree_nodes.specs.declared.types.TypeName.TheVariants as type_names
use Rattle.go_tree_nodes.specs.declared.usage.Usage.{Usage}
use Rattle.go_tree_nodes.specs.declared.usage.Usage.TheVariants as usages
use Rattle.go_tree_nodes.specs.Trees.{ExprTree, Integer, Text, Named, Paren, Unary, Binary, Select, Call, Literal, StructLiteral}
use Rattle.go_term_core.specs.Terms.{Term, Sign}
use Rattle.go_report_core.specs.operand_core.declared.types.Operand.{Operand}
use Rattle.go_report_core.specs.operand_core.TypeRules.{TypeRules}
use Rattle.go_report_core.specs.operand_core.Values.{default_type}
use Rattle.go_report_core.specs.operand_core.Operators.{binary_operand}
use Rattle.go_report_core.specs.operand_core.Prefixes.{unary_operand}
use Rattle.go_report_core.specs.operand_core.Conversions.{convert, length_of}
use Rattle.go_report_core.specs.denote_core.declared.things.Stand.{Stand}
use Rattle.go_report_core.specs.denote_core.declared.things.Stand.TheVariants as stands
use Rattle.go_report_core.specs.denote_core.declared.things.Builtin.{Builtin}
use Rattle.go_report_core.specs.denote_core.declared.things.Builtin.TheVariants as builtins
use Rattle.go_report_core.specs.denote_core.declared.things.Found.{Found}
use Rattle.go_report_core.specs.denote_core.declared.things.Found.TheVariants as founds
use Rattle.go_report_core.specs.denote_core.declared.things.Exported.{Exported}
use Rattle.go_report_core.specs.denote_core.declared.things.Exported.TheVariants as exporteds
use Rattle.go_report_core.specs.denote_core.declared.things.Selection.{Selection}
use Rattle.go_report_core.specs.denote_core.declared.things.Selection.TheVariants as selections
use Rattle.go_report_core.specs.denote_core.declared.things.Outcome.{Outcome}
use Rattle.go_report_core.specs.denote_core.declared.things.Denoted.{Denoted}
use Rattle.go_report_core.specs.denote_core.declared.things.Denoted.TheVariants as denotes
use Rattle.go_report_core.specs.denote_core.declared.things.Dot.{Dot}
use Rattle.go_report_core.specs.denote_core.declared.things.Dot.TheVariants as dots
use Rattle.go_report_core.specs.denote_core.declared.things.Argument.{Argument}
use Rattle.go_report_core.specs.denote_core.declared.things.Argument.TheVariants as arguments
use Rattle.go_report_core.specs.denote_core.declared.things.Answer.{Answer}
use Rattle.go_report_core.specs.denote_core.Answers.{of_value, value_of_type, package_answer, type_answer, func_answer, value_answer, found_answer}
use Rattle.go_report_core.specs.denote_core.Selectors.{usage_place, exported_answer, dot_of, field_answer, method_answer, member_answer, value_selector, selector_answer}
use Rattle.go_report_core.specs.denote_core.Arguments.{arguments_of, fits_type, is_free}
use Rattle.go_report_core.specs.denote_core.Calls.{of_results, all_fit, func_call, of_conversion, convert_argument, conversion, of_length, length_argument, is_printable, builtin_call, judged_call, of_builtin, free_call, call_answer}
use Rattle.go_report_core.specs.denote_core.declared.composite.things.KeyAnswer.{KeyAnswer}
use Rattle.go_report_core.specs.denote_core.declared.composite.things.LiteralField.{LiteralField}
use Rattle.go_report_core.specs.denote_core.declared.composite.things.NamedField.{NamedField}
use Rattle.go_report_core.specs.denote_core.declared.composite.things.NamedField.TheVariants as nameds
use Rattle.go_report_core.specs.denote_core.CompositeLook.{FieldOf}
use Rattle.go_report_core.specs.denote_core.CompositeFields.{shown_field, named_field}
use Rattle.go_report_core.specs.denote_core.CompositeKeys.{found_key, key_answer}
use Rattle.go_report_core.specs.denote_core.CompositeLiterals.{is_struct, literal_denotes}
use Rattle.go_report_core.specs.expr_core.declared.things.Judged.{Judged}
use Rattle.go_report_core.specs.expr_core.Looks.{Looks, look_of_place, literals_at}
use Rattle.go_report_core.specs.expr_core.Places.{inside, under_place, left_place, whole, is_name, is_literal, is_lone_call}
use Rattle.go_report_core.specs.expr_core.Operators.{of_operand, is_star, unary_of, operand_of, binary_operands}
use Rattle.go_report_core.specs.expr_core.Denoting.{ident_answer, type_name_answer, denoted, denoted_items, named_type, select_answer, written_type}
use Rattle.govisd_resolve.specs.handle_core.Declarations.{Declaration}
use Rattle.go_body_core.specs.env_core.Looks.{TheLooks}
use Rattle.go_snap_core.specs.near.Near.{NearRest, IfAny, NearDot}
use Rattle.go_snap_core.specs.near.Looks.{AreClosed, LooksAgree}
use Rattle.go_snap_core.proofs.NearClosing.{either, default_near, dot_near}
use Rattle.go_snap_core.proofs.NearExpressions.{denoted_near, ident_near}
use Rattle.go_workspace_laws.specs.Reached.{HasDeclaredIn, IsDeclaredIn}
use Rattle.go_body_core.specs.stmt_core.StatementLocality.{Each}

-- look-ups agree with themselves
pub alike_itself : {T S D P : Type 0} (Near : T → Type 0) (Rest : NearRest S D) (looks : Looks T S D P) → LooksAgree Near Rest looks looks
alike_itself Near Rest looks = record {
  find = λ name offset. refl;
  exported = λ d name h. refl;
  select = λ t name h. refl;
  params = λ s h. refl;
  results = λ s h. refl;
  types = record {
    form = λ t h. refl;
    pointer_to = λ t h. refl;
    int = refl;
    string = refl;
    bool = refl;
    any = refl;
    identical = λ s t h k. refl;
    assignable = λ s t h k. refl;
    convertible = λ s t h k. refl;
  };
  fields = λ t h. refl;
  type_of = λ named t. refl;
  faults_of = λ named t. refl;
}

module _ (Inside : List ℕ → Type 0) where
  abbrev pub IsDeclIn : Declaration → Type 0
  IsDeclIn d = IsDeclaredIn Inside d

  abbrev TheAnswer : Type 0
  TheAnswer = Answer Term Sign Declaration (List ℕ)

  abbrev pub IsFoundKept : Found Term Sign Declaration → Type 0
  IsFoundKept founds.Missing = ⊤
  IsFoundKept founds.BadImport = ⊤
  IsFoundKept founds.Outside = ⊤
  IsFoundKept (founds.«Package» d) = IsDeclIn d
  IsFoundKept (founds.«Type» d t) = IsDeclIn d
  IsFoundKept (founds.Func d s) = IsDeclIn d
  IsFoundKept (founds.Builtin d b) = IsDeclIn d
  IsFoundKept (founds.«Value» d o) = IsDeclIn d

  abbrev pub IsExportedKept : Exported Term Sign Declaration → Type 0
  IsExportedKept exporteds.Absent = ⊤
  IsExportedKept exporteds.Hidden = ⊤
  IsExportedKept (exporteds.«Type» d t) = IsDeclIn d
  IsExportedKept (exporteds.Func d s) = IsDeclIn d
  IsExportedKept (exporteds.«Value» d o) = IsDeclIn d

  abbrev pub IsSelectionKept : Selection Term Sign Declaration (List ℕ) → Type 0
  IsSelectionKept (selections.Missing rule) = ⊤
  IsSelectionKept (selections.«Field» d path t by_pointer) = IsDeclIn d
  IsSelectionKept (selections.Method d path s needs_pointer by_pointer) = IsDeclIn d

  abbrev pub IsFieldKept : FieldOf Term Declaration → Type 0
  IsFieldKept f = IsDeclIn f.known.decl

  abbrev pub IsOutcomeIn : Outcome Declaration (List ℕ) → Type 0
  IsOutcomeIn o = HasDeclaredIn Inside o

  abbrev pub IsDenotedKept : Denoted Term Sign Declaration → Type 0
  IsDenotedKept denotes.Refused = ⊤
  IsDenotedKept denotes.Typeless = ⊤
  IsDenotedKept (denotes.«Package» d) = IsDeclIn d
  IsDenotedKept (denotes.«Type» d t) = IsDeclIn d
  IsDenotedKept (denotes.«Value» o) = ⊤
  IsDenotedKept (denotes.Several s) = ⊤
  IsDenotedKept denotes.Nothing = ⊤
  IsDenotedKept (denotes.Func d s) = IsDeclIn d
  IsDenotedKept (denotes.Builtin d b) = IsDeclIn d

  abbrev pub IsAnswerIn : TheAnswer → Type 0
  IsAnswerIn a = IsOutcomeIn a.outcome × IsDenotedKept a.denoted

  -- names

  of_value_in : (o : Option (Operand Term)) → IsDenotedKept (of_value o)
  of_value_in None = tt
  of_value_in (Some o) = tt

  package_in : (p : Stand) (d : Declaration) → IsDeclIn d → IsAnswerIn (package_answer p d)
  package_in stands.BeforeDot d h = (h, h)
  package_in stands.TypeDot d h = (h, h)
  package_in stands.«Type» d h = (tt, tt)
  package_in stands.«Value» d h = (tt, tt)
  package_in stands.Callee d h = (tt, tt)

  type_in : (p : Stand) (d : Declaration) (t : Option Term) → IsDeclIn d → IsAnswerIn (type_answer p d t)
  type_in stands.«Type» d t h = (h, h)
  type_in stands.Callee d t h = (h, h)
  type_in stands.TypeDot d t h = (tt, tt)
  type_in stands.«Value» d t h = (tt, tt)
  type_in stands.BeforeDot d t h = (tt, tt)

  func_in : (p : Stand) (d : Declaration) (f : Denoted Term Sign Declaration) → IsDeclIn d → IsDenotedKept f → IsAnswerIn (func_answer p d f)
  func_in stands.«Type» d f h k = (tt, tt)
  func_in stands.TypeDot d f h k = (tt, tt)
  func_in stands.Callee d f h k = (h, k)
  func_in stands.«Value» d f h k = (tt, tt)
  func_in stands.BeforeDot d f h k = (tt, tt)

  value_in : (p : Stand) (d : Declaration) (o : Option (Operand Term)) → IsDeclIn d → IsAnswerIn (value_answer p d o)
  value_in stands.«Type» d o h = (tt, tt)
  value_in stands.TypeDot d o h = (tt, tt)
  value_in stands.Callee d o h = (tt, tt)
  value_in stands.«Value» d o h = (h, of_value_in o)
  value_in stands.BeforeDot d o h = (h, of_value_in o)

  found_in : (p : Stand) (f : Found Term Sign Declaration) → IsFoundKept f → IsAnswerIn (found_answer p f)
  found_in p founds.Missing h = (tt, tt)
  found_in p founds.BadImport h = (tt, tt)
  found_in p founds.Outside h = (tt, tt)
  found_in p (founds.«Package» d) h = package_in p d h
  found_in p (founds.«Type» d t) h = type_in p d t h
  found_in p (founds.Func d s) h = func_in p d (denotes.Func d s) h h
  found_in p (founds.Builtin d b) h = func_in p d (denotes.Builtin d b) h h
  found_in p (founds.«Value» d o) h = value_in p d o h

  -- members

  exported_in : (u : Usage) (e : Exported Term Sign Declaration) → IsExportedKept e → IsAnswerIn (exported_answer u e)
  exported_in u exporteds.Absent h = (tt, tt)
  exported_in u exporteds.Hidden h = (tt, tt)
  exported_in u (exporteds.«Type» d t) h = type_in (usage_place u) d t h
  exported_in u (exporteds.Func d s) h = func_in (usage_place u) d (denotes.Func d s) h h
  exported_in u (exporteds.«Value» d o) h = value_in (usage_place u) d o h

  typed_value : (b : Bool) (t : Option Term) → IsDenotedKept (value_of_type b t)
  typed_value b None = tt
  typed_value b (Some t) = tt

  field_in : (u : Usage) (d : Declaration) (path : List ℕ) (t : Option Term) (b : Bool) → IsDeclIn d → IsAnswerIn (field_answer u d path t b)
  field_in usages.Callee d path t b h = (tt, tt)
  field_in usages.«Type» d path t b h = (h, typed_value b t)
  field_in usages.«Value» d path t b h = (h, typed_value b t)

  method_in : (u : Usage) (d : Declaration) (path : List ℕ) (s : Sign) (b : Bool) → IsDeclIn d → IsAnswerIn (method_answer u d path s b)
  method_in usages.Callee d path s b h = either IsAnswerIn b _ _ (h, h) (tt, tt)
  method_in usages.«Type» d path s b h = (tt, tt)
  method_in usages.«Value» d path s b h = (tt, tt)

  member_in : (u : Usage) (b : Bool) (s : Selection Term Sign Declaration (List ℕ)) → IsSelectionKept s → IsAnswerIn (member_answer u b s)
  member_in u b (selections.Missing rule) h = (tt, tt)
  member_in u b (selections.«Field» d path t by_pointer) h = field_in u d path t (by_pointer || b) h
  member_in u b (selections.Method d path s needs_pointer by_pointer) h = method_in u d path s (not needs_pointer || (by_pointer || b)) h

  -- operators

  operand_in : (r : Result (Operand Term) Rule) → IsDenotedKept (of_operand r).denoted
  operand_in (Ok o) = tt
  operand_in (Err rule) = tt

  operands_in : (rules : TypeRules Term) (op : Operator) (a b : Option (Operand Term)) → IsDenotedKept (binary_operands rules op a b).denoted
  operands_in rules op (Some a) (Some b) = operand_in (binary_operand rules op a b)
  operands_in rules op (Some a) None = tt
  operands_in rules op None b = tt

  unary_in : (rules : TypeRules Term) (op : Operator) (literal : Bool) (d : Denoted Term Sign Declaration) → IsDenotedKept d → IsDenotedKept (unary_of rules op literal d).denoted
  unary_in rules op literal (denotes.«Value» o) h = operand_in (unary_operand rules op literal o)
  unary_in rules op literal (denotes.«Type» d t) h = either (λ (j : Judged Term Sign Declaration). IsDenotedKept j.denoted) (is_star op) _ _ h tt
  unary_in rules op literal denotes.Refused h = tt
  unary_in rules op literal denotes.Typeless h = tt
  unary_in rules op literal (denotes.«Package» d) h = tt
  unary_in rules op literal (denotes.Several s) h = tt
  unary_in rules op literal denotes.Nothing h = tt
  unary_in rules op literal (denotes.Func d s) h = tt
  unary_in rules op literal (denotes.Builtin d b) h = tt

  literal_in : (t : Option Term) → IsDenotedKept (literal_denotes t)
  literal_in None = tt
  literal_in (Some t) = tt

  -- calls

  results_kept : (s : Sign) (ts : List (Option Term)) → IsDenotedKept (of_results s ts)
  results_kept s [] = tt
  results_kept s (t ∷ []) = typed_value _ t
  results_kept s (t ∷ (u ∷ more)) = tt

  converted_in : (d : Declaration) (r : Result (Operand Term) Rule) → IsDeclIn d → IsAnswerIn (of_conversion d r)
  converted_in d (Ok o) h = (h, tt)
  converted_in d (Err rule) h = (tt, tt)

  of_length_in : (d : Declaration) (o : Option (Operand Term)) → IsDeclIn d → IsAnswerIn (of_length d o)
  of_length_in d None h = (tt, tt)
  of_length_in d (Some o) h = (h, tt)

  -- fields that keys name

  abbrev IsNamedKept : NamedField Term Declaration → Type 0
  IsNamedKept nameds.Missing = ⊤
  IsNamedKept nameds.Hidden = ⊤
  IsNamedKept (nameds.Visible f) = IsDeclIn f.decl

  shown_in : (b : Bool) (f : LiteralField Term Declaration) → IsDeclIn f.decl → IsNamedKept (shown_field b f)
  shown_in true f h = h
  shown_in false f h = tt

  named_in : (fs : List (FieldOf Term Declaration)) (name : List ℕ) → Each IsFieldKept fs → IsNamedKept (named_field fs name)
  named_in [] name h = tt
  named_in (f ∷ fs) name h = either IsNamedKept (bytes_eq f.name name) _ _ (shown_in f.known.is_visible f.known h.0) (named_in fs name h.1)

  abbrev IsKeyIn : KeyAnswer Term Declaration (List ℕ) → Type 0
  IsKeyIn a = IsOutcomeIn a.outcome

  module _ (Near : Term → Type 0) (Rest : NearRest Sign Declaration) (looks : TheLooks) where
    -- what is looked up is declared in these packages
    pub record AreKept : Type 0 where
      pub find : (name : List ℕ) (offset : ℕ) → IsFoundKept (looks.find name offset)
      pub exported : (d : Declaration) (name : List ℕ) → Rest.decl d → IsExportedKept (looks.exported d name)
      pub select : (t : Term) (name : List ℕ) → Near t → IsSelectionKept (looks.select t name)
      pub fields : (t : Term) → Near t → Each IsFieldKept (looks.literals.fields t)

    module _ (law : AreClosed Near Rest looks) (kept : AreKept) where
      pub ident_in : (p : Stand) (x : Ident) → IsAnswerIn (ident_answer looks p x)
      ident_in p x = either IsAnswerIn (is_blank x.name) _ _ (tt, tt) (found_in p (looks.find x.name x.span.start) (kept.find x.name x.span.start))

      value_selector_in : (o : ℕ) (u : Usage) (b : Bool) (t : Option Term) (name : List ℕ) → IfAny Near t → IsAnswerIn (value_selector (look_of_place looks o) u b t name)
      value_selector_in o u b None name h = (tt, tt)
      value_selector_in o u b (Some t) name h = member_in u b (looks.select t name) (kept.select t name h)

      pub selector_in : (o : ℕ) (u : Usage) (dot : Dot Term Declaration) (name : List ℕ) → NearDot Near Rest dot → IsAnswerIn (selector_answer (look_of_place looks o) u dot name)
      selector_in o u (dots.«Package» d) name h = either IsAnswerIn (is_blank name) _ _ (tt, tt) (exported_in u (looks.exported d name) (kept.exported d name h))
      selector_in o u dots.Refused name h = (tt, tt)
      selector_in o u dots.Untyped name h = either IsAnswerIn (is_blank name) _ _ (tt, tt) (tt, tt)
      selector_in o u (dots.«Value» operand) name h =
          either IsAnswerIn (is_blank name) _ _ (tt, tt)
          (value_selector_in o u operand.addressable (default_type looks.types operand.value_type) name (default_near Near looks.types law.types operand.value_type h))

      pub type_name_in : (n : TypeName) → IsAnswerIn (type_name_answer looks n)
      type_name_in (type_names.Plain x) = ident_in stands.«Type» x
      type_name_in (type_names.Qualified q dot x) =
          selector_in x.span.start usages.«Type» (dot_of true (ident_answer looks stands.TypeDot q).denoted) x.name
          (dot_near Near Rest looks law true (ident_answer looks stands.TypeDot q).denoted (ident_near Near Rest looks looks law (alike_itself Near Rest looks) stands.TypeDot q))

      pub select_in : (p : Stand) (e : ExprTree) (x : Ident) → IsAnswerIn (select_answer looks p e x)
      select_in p e x =
          selector_in x.span.start (whole p) (dot_of (is_name e) (denoted looks (left_place p e) e)) x.name
          (dot_near Near Rest looks law (is_name e) (denoted looks (left_place p e) e) (denoted_near Near Rest looks looks law (alike_itself Near Rest looks) (left_place p e) e))

      func_call_in : (o : ℕ) (d : Declaration) (s : Sign) (given : List (Argument Term)) → IsDeclIn d → IsAnswerIn (func_call (look_of_place looks o) d s given)
      func_call_in o d s given h =
          either IsAnswerIn (length given == length (looks.params s)) _ _
          (either IsAnswerIn (all_fit (look_of_place looks o) given (looks.params s)) _ _ (h, results_kept s (looks.results s)) (tt, tt)) (tt, tt)

      convert_in : (o : ℕ) (d : Declaration) (t : Option Term) (a : Argument Term) → IsDeclIn d → IsAnswerIn (convert_argument (look_of_place looks o) d t a)
      convert_in o d t arguments.Refused h = (h, typed_value _ t)
      convert_in o d t arguments.Void h = (tt, tt)
      convert_in o d None (arguments.«Value» operand) h = (tt, tt)
      convert_in o d (Some t) (arguments.«Value» operand) h = converted_in d (convert looks.types operand t) h

      conversion_in : (o : ℕ) (d : Declaration) (t : Option Term) (given : List (Argument Term)) → IsDeclIn d → IsAnswerIn (conversion (look_of_place looks o) d t given)
      conversion_in o d t [] h = (tt, tt)
      conversion_in o d t (a ∷ []) h = convert_in o d t a h
      conversion_in o d t (a ∷ (b ∷ more)) h = (tt, tt)

      length_in : (o : ℕ) (d : Declaration) (a : Argument Term) → IsDeclIn d → IsAnswerIn (length_argument (look_of_place looks o) d a)
      length_in o d arguments.Refused h = (h, tt)
      length_in o d arguments.Void h = (tt, tt)
      length_in o d (arguments.«Value» operand) h = of_length_in d (length_of looks.types operand) h

      builtin_in : (o : ℕ) (d : Declaration) (b : Builtin) (given : List (Argument Term)) → IsDeclIn d → IsAnswerIn (builtin_call (look_of_place looks o) d b given)
      builtin_in o d builtins.Len [] h = (tt, tt)
      builtin_in o d builtins.Len (a ∷ []) h = length_in o d a h
      builtin_in o d builtins.Len (a ∷ (b ∷ more)) h = (tt, tt)
      builtin_in o d builtins.Panic [] h = (tt, tt)
      builtin_in o d builtins.Panic (a ∷ []) h = either IsAnswerIn (fits_type looks.types looks.types.any a) _ _ (h, tt) (tt, tt)
      builtin_in o d builtins.Panic (a ∷ (b ∷ more)) h = (tt, tt)
      builtin_in o d builtins.Print given h = either IsAnswerIn (list_all (is_printable (look_of_place looks o)) given) _ _ (h, tt) (tt, tt)

      judged_in : (o : ℕ) (d : Denoted Term Sign Declaration) (given : List (Argument Term)) → IsDenotedKept d → IsAnswerIn (judged_call (look_of_place looks o) d given)
      judged_in o (denotes.«Type» d t) given h = conversion_in o d t given h
      judged_in o (denotes.Func d s) given h = func_call_in o d s given h
      judged_in o (denotes.Builtin d b) given h = builtin_in o d b given h
      judged_in o denotes.Refused given h = (tt, tt)
      judged_in o denotes.Typeless given h = (tt, tt)
      judged_in o (denotes.«Package» d) given h = (tt, tt)
      judged_in o (denotes.«Value» operand) given h = (tt, tt)
      judged_in o (denotes.Several s) given h = (tt, tt)
      judged_in o denotes.Nothing given h = (tt, tt)

      of_builtin_in : (o : ℕ) (b : Builtin) → IsDenotedKept (of_builtin (look_of_place looks o) b)
      of_builtin_in o builtins.Len = tt
      of_builtin_in o builtins.Panic = tt
      of_builtin_in o builtins.Print = tt

      free_in : (o : ℕ) (d : Denoted Term Sign Declaration) → IsDenotedKept d → IsAnswerIn (free_call (look_of_place looks o) d)
      free_in o (denotes.«Type» d t) h = (h, typed_value _ t)
      free_in o (denotes.Func d s) h = (h, results_kept s (looks.results s))
      free_in o (denotes.Builtin d b) h = (h, of_builtin_in o b)
      free_in o denotes.Refused h = (tt, tt)
      free_in o denotes.Typeless h = (tt, tt)
      free_in o (denotes.«Package» d) h = (tt, tt)
      free_in o (denotes.«Value» operand) h = (tt, tt)
      free_in o (denotes.Several s) h = (tt, tt)
      free_in o denotes.Nothing h = (tt, tt)

      pub call_in : (o : ℕ) (d : Denoted Term Sign Declaration) (free : Bool) (given : List (Argument Term)) → IsDenotedKept d → IsAnswerIn (call_answer (look_of_place looks o) d free given)
      call_in o d free given h = either IsAnswerIn free _ _ (free_in o d h) (judged_in o d given h)

      -- what an expression denotes

      pub denoted_in : (p : Stand) (e : ExprTree) → IsDenotedKept (denoted looks p e)
      denoted_in p (Integer n span) = tt
      denoted_in p (Text t) = tt
      denoted_in p (Named x) = (ident_in p x).1
      denoted_in p (Paren first e last) = denoted_in (inside p) e
      denoted_in p (Unary op span e) = unary_in looks.types op (is_literal e) (denoted looks (under_place op p) e) (denoted_in (under_place op p) e)
      denoted_in p (Binary a op span b) = operands_in looks.types op (operand_of (denoted looks stands.«Value» a)) (operand_of (denoted looks stands.«Value» b))
      denoted_in p (Select e dot x) = (select_in p e x).1
      denoted_in p (Call e first items last) =
          (call_in first.start (denoted looks stands.Callee e) (is_free (is_lone_call items) (denoted_items looks items)) (arguments_of (look_of_place looks first.start) (denoted_items looks items)) (denoted_in stands.Callee e)).1
      denoted_in p (Literal n first items last) = literal_in (named_type looks n)
      denoted_in p (StructLiteral t first items last) = literal_in (written_type looks t)

      -- keys

      found_key_in : (o : ℕ) (t : Term) (again : Bool) (name : List ℕ) (f : NamedField Term Declaration) → IsNamedKept f → IsKeyIn (found_key (literals_at looks o) t again name f)
      found_key_in o t again name nameds.Hidden h = tt
      found_key_in o t again name nameds.Missing h = tt
      found_key_in o t again name (nameds.Visible f) h = either IsKeyIn again _ _ tt h

      pub key_in : (o : ℕ) (t : Option Term) (mixed again : Bool) (name : List ℕ) → IfAny Near t → IsKeyIn (key_answer (literals_at looks o) t mixed again name)
      key_in o None mixed again name h = tt
      key_in o (Some t) mixed again name h =
          either IsKeyIn (is_struct (looks.types.form t)) _ _
          (either IsKeyIn mixed _ _ tt
          (either IsKeyIn (is_blank name) _ _ tt (found_key_in o t again name (named_field (looks.literals.fields t) name) (named_in (looks.literals.fields t) name (kept.fields t h)))))
          tt
