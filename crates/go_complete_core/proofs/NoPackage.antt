-- What stands left of a dot: only a name alone is a package.
use Rattle.std.proofs.Common.{◌≡◌, ℕ, Bool, true, false, ◌&&◌, not, ◌||◌, List, [], ◌∷◌, length, Option, Some, None, refl, sym, ap, subst, ◌∙◌}
use Rattle.std.specs.Prelude.{Result, Ok, Err, ◌==◌, if◌then◌else◌}
use Rattle.std.specs.List.{list_all}
use Rattle.go_tree_nodes.specs.text_core.Text.{is_blank}
use Rattle.go_tree_nodes.specs.text_core.declared.rule.Rule.{Rule}
use Rattle.go_tree_nodes.specs.token_core.declared.kind.Operator.{Operator}
use Rattle.go_tree_nodes.specs.declared.usage.Usage.{Usage}
use Rattle.go_tree_nodes.specs.declared.usage.Usage.TheVariants as usages
use Rattle.go_tree_nodes.specs.Trees.{ExprTree, Integer, Text, Named, Paren, Unary, Binary, Select, Call, Literal, StructLiteral}
use Rattle.go_cursor_core.specs.operand_core.declared.types.Operand.{Operand}
use Rattle.go_cursor_core.specs.operand_core.TypeRules.{TypeRules}
use Rattle.go_cursor_core.specs.operand_core.Conversions.{convert, length_of}
use Rattle.go_cursor_core.specs.operand_core.Operators.{binary_operand}
use Rattle.go_cursor_core.specs.operand_core.Prefixes.{unary_operand, refused_unary}
use Rattle.go_cursor_core.specs.operand_core.Values.{default_type}
use Rattle.go_cursor_core.specs.denote_core.declared.things.Stand.{Stand}
use Rattle.go_cursor_core.specs.denote_core.declared.things.Stand.TheVariants as stands
use Rattle.go_cursor_core.specs.denote_core.declared.things.Denoted.{Denoted}
use Rattle.go_cursor_core.specs.denote_core.declared.things.Denoted.TheVariants as denotes
use Rattle.go_cursor_core.specs.denote_core.declared.things.Answer.{Answer}
use Rattle.go_cursor_core.specs.denote_core.declared.things.Argument.{Argument}
use Rattle.go_cursor_core.specs.denote_core.declared.things.Argument.TheVariants as arguments
use Rattle.go_cursor_core.specs.denote_core.declared.things.Builtin.{Builtin}
use Rattle.go_cursor_core.specs.denote_core.declared.things.Builtin.TheVariants as builtins
use Rattle.go_cursor_core.specs.denote_core.declared.things.Dot.{Dot}
use Rattle.go_cursor_core.specs.denote_core.declared.things.Dot.TheVariants as dots
use Rattle.go_cursor_core.specs.denote_core.declared.things.Exported.{Exported}
use Rattle.go_cursor_core.specs.denote_core.declared.things.Exported.TheVariants as exporteds
use Rattle.go_cursor_core.specs.denote_core.declared.things.Found.{Found}
use Rattle.go_cursor_core.specs.denote_core.declared.things.Found.TheVariants as founds
use Rattle.go_cursor_core.specs.denote_core.declared.things.Selection.{Selection}
use Rattle.go_cursor_core.specs.denote_core.declared.things.Selection.TheVariants as selections
use Rattle.go_cursor_core.specs.denote_core.Look.{Look}
use Rattle.go_cursor_core.specs.denote_core.Answers.{of_value, value_of_type, package_answer, type_answer, func_answer, value_answer, found_answer, name_answer}
use Rattle.go_cursor_core.specs.denote_core.Selectors.{usage_place, exported_answer, dot_of, field_answer, method_answer, member_answer, value_selector, selector_answer}
use Rattle.go_cursor_core.specs.denote_core.Arguments.{fits_type, arguments_of, is_free}
use Rattle.go_cursor_core.specs.denote_core.Calls.{of_results, all_fit, func_call, of_conversion, convert_argument, conversion, of_length, length_argument, length_call, panic_call, is_printable, print_call, builtin_call, judged_call, of_builtin, free_call, call_answer}
use Rattle.go_cursor_core.specs.denote_core.CompositeLiterals.{literal_denotes}
use Rattle.go_stmt_core.specs.expr_core.declared.things.Judged.{Judged}
use Rattle.go_stmt_core.specs.expr_core.Looks.{Looks, look_of_place}
use Rattle.go_stmt_core.specs.expr_core.Places.{inside, under_place, left_place, whole, is_name, is_literal, is_lone_call}
use Rattle.go_stmt_core.specs.expr_core.Operators.{of_operand, passed, pointer_type, is_star, unary_type, unary_of, operand_of, binary_operands, binary_of}
use Rattle.go_stmt_core.specs.expr_core.Denoting.{named_type, written_type, denoted, denoted_items}
use Rattle.go_stmt_core.specs.expr_core.Uses.{Context, SelectorBehind}
use Rattle.go_complete_core.specs.place.Completions.{is_of_types}

-- a place left of a dot
abbrev is_dot : Stand → Bool
is_dot stands.«Type» = false
is_dot stands.TypeDot = true
is_dot stands.«Value» = false
is_dot stands.Callee = false
is_dot stands.BeforeDot = true

module _ (T S D P : Type 0) where
  abbrev is_package : Denoted T S D → Bool
  is_package denotes.Refused = false
  is_package denotes.Typeless = false
  is_package (denotes.«Package» d) = true
  is_package (denotes.«Type» d t) = false
  is_package (denotes.«Value» o) = false
  is_package (denotes.Several s) = false
  is_package denotes.Nothing = false
  is_package (denotes.Func d s) = false
  is_package (denotes.Builtin d b) = false

  abbrev No : Denoted T S D → Type 0
  No d = is_package d ≡ false

  abbrev NoAnswer : Answer T S D P → Type 0
  NoAnswer a = No a.denoted

  either : (b : Bool) (x y : Answer T S D P) → NoAnswer x → NoAnswer y → NoAnswer (if b then x else y)
  either true x y h k = h
  either false x y h k = k

  typed_no : (b : Bool) (t : Option T) → No (value_of_type b t)
  typed_no b None = refl
  typed_no b (Some t) = refl

  value_no : (o : Option (Operand T)) → No (of_value o)
  value_no None = refl
  value_no (Some o) = refl

  results_no : (s : S) (ts : List (Option T)) → No (of_results s ts)
  results_no s [] = refl
  results_no s (t ∷ []) = typed_no false t
  results_no s (t ∷ u ∷ more) = refl

  -- names

  type_a : (p : Stand) (d : D) (t : Option T) → NoAnswer (type_answer p d t)
  type_a stands.«Type» d t = refl
  type_a stands.Callee d t = refl
  type_a stands.TypeDot d t = refl
  type_a stands.«Value» d t = refl
  type_a stands.BeforeDot d t = refl

  func_a : (p : Stand) (d : D) (f : Denoted T S D) → No f → NoAnswer (func_answer p d f)
  func_a stands.«Type» d f h = refl
  func_a stands.TypeDot d f h = refl
  func_a stands.Callee d f h = h
  func_a stands.«Value» d f h = refl
  func_a stands.BeforeDot d f h = refl

  value_a : (p : Stand) (d : D) (o : Option (Operand T)) → NoAnswer (value_answer p d o)
  value_a stands.«Type» d o = refl
  value_a stands.TypeDot d o = refl
  value_a stands.Callee d o = refl
  value_a stands.«Value» d o = value_no o
  value_a stands.BeforeDot d o = value_no o

  package_a : (p : Stand) (d : D) → is_dot p ≡ false → NoAnswer (package_answer p d)
  package_a stands.«Type» d h = refl
  package_a stands.TypeDot d h = absurd (cc)
  package_a stands.«Value» d h = refl
  package_a stands.Callee d h = refl
  package_a stands.BeforeDot d h = absurd (cc)

  found_a : (p : Stand) (f : Found T S D) → is_dot p ≡ false → NoAnswer (found_answer p f)
  found_a p founds.Missing h = refl
  found_a p founds.BadImport h = refl
  found_a p founds.Outside h = refl
  found_a p (founds.«Package» d) h = package_a p d h
  found_a p (founds.«Type» d t) h = type_a p d t
  found_a p (founds.Func d s) h = func_a p d (denotes.Func d s) refl
  found_a p (founds.Builtin d b) h = func_a p d (denotes.Builtin d b) refl
  found_a p (founds.«Value» d o) h = value_a p d o

  name_a : (look : Look T S D P) (p : Stand) (name : List ℕ) → is_dot p ≡ false → NoAnswer (name_answer look p name)
  name_a look p name h = either (is_blank name) _ _ refl (found_a p (look.names.find name) h)

  -- selectors

  exported_a : (u : Usage) (e : Exported T S D) → NoAnswer (exported_answer u e)
  exported_a u exporteds.Absent = refl
  exported_a u exporteds.Hidden = refl
  exported_a u (exporteds.«Type» d t) = type_a (usage_place u) d t
  exported_a u (exporteds.Func d s) = func_a (usage_place u) d (denotes.Func d s) refl
  exported_a u (exporteds.«Value» d o) = value_a (usage_place u) d o

  field_a : (u : Usage) (d : D) (path : P) (t : Option T) (b : Bool) → NoAnswer (field_answer u d path t b)
  field_a usages.Callee d path t b = refl
  field_a usages.«Type» d path t b = typed_no b t
  field_a usages.«Value» d path t b = typed_no b t

  method_a : (u : Usage) (d : D) (path : P) (s : S) (b : Bool) → NoAnswer (method_answer u d path s b)
  method_a usages.Callee d path s b = either b _ _ refl refl
  method_a usages.«Type» d path s b = refl
  method_a usages.«Value» d path s b = refl

  member_a : (u : Usage) (b : Bool) (m : Selection T S D P) → NoAnswer (member_answer u b m)
  member_a u b (selections.Missing rule) = refl
  member_a u b (selections.«Field» d path t by_pointer) = field_a u d path t (by_pointer || b)
  member_a u b (selections.Method d path s needs by_pointer) = method_a u d path s (not needs || (by_pointer || b))

  value_selector_a : (look : Look T S D P) (u : Usage) (b : Bool) (t : Option T) (name : List ℕ) → NoAnswer (value_selector look u b t name)
  value_selector_a look u b None name = refl
  value_selector_a look u b (Some t) name = member_a u b (look.names.select t name)

  selector_a : (look : Look T S D P) (u : Usage) (dot : Dot T D) (name : List ℕ) → NoAnswer (selector_answer look u dot name)
  selector_a look u (dots.«Package» d) name = either (is_blank name) _ _ refl (exported_a u (look.names.exported d name))
  selector_a look u dots.Refused name = refl
  selector_a look u dots.Untyped name = either (is_blank name) _ _ refl refl
  selector_a look u (dots.«Value» o) name = either (is_blank name) _ _ refl (value_selector_a look u o.addressable (default_type look.types o.value_type) name)

  -- calls

  func_call_a : (look : Look T S D P) (d : D) (s : S) (given : List (Argument T)) → NoAnswer (func_call look d s given)
  func_call_a look d s given = either (length given == length (look.names.params s)) _ _ (either (all_fit look given (look.names.params s)) _ _ (results_no s (look.names.results s)) refl) refl

  of_conversion_a : (d : D) (r : Result (Operand T) Rule) → NoAnswer (of_conversion d r)
  of_conversion_a d (Ok o) = refl
  of_conversion_a d (Err rule) = refl

  convert_a : (look : Look T S D P) (d : D) (t : Option T) (a : Argument T) → NoAnswer (convert_argument look d t a)
  convert_a look d t arguments.Refused = typed_no false t
  convert_a look d t arguments.Void = refl
  convert_a look d None (arguments.«Value» o) = refl
  convert_a look d (Some t) (arguments.«Value» o) = of_conversion_a d (convert look.types o t)

  conversion_a : (look : Look T S D P) (d : D) (t : Option T) (given : List (Argument T)) → NoAnswer (conversion look d t given)
  conversion_a look d t [] = refl
  conversion_a look d t (a ∷ []) = convert_a look d t a
  conversion_a look d t (a ∷ b ∷ more) = refl

  of_length_a : (d : D) (o : Option (Operand T)) → NoAnswer (of_length d o)
  of_length_a d None = refl
  of_length_a d (Some o) = refl

  length_a : (look : Look T S D P) (d : D) (a : Argument T) → NoAnswer (length_argument look d a)
  length_a look d arguments.Refused = refl
  length_a look d arguments.Void = refl
  length_a look d (arguments.«Value» o) = of_length_a d (length_of look.types o)

  builtin_a : (look : Look T S D P) (d : D) (b : Builtin) (given : List (Argument T)) → NoAnswer (builtin_call look d b given)
  builtin_a look d builtins.Len [] = refl
  builtin_a look d builtins.Len (a ∷ []) = length_a look d a
  builtin_a look d builtins.Len (a ∷ b ∷ more) = refl
  builtin_a look d builtins.Panic [] = refl
  builtin_a look d builtins.Panic (a ∷ []) = either (fits_type look.types look.types.any a) _ _ refl refl
  builtin_a look d builtins.Panic (a ∷ b ∷ more) = refl
  builtin_a look d builtins.Print given = either (list_all (is_printable look) given) _ _ refl refl

  judged_a : (look : Look T S D P) (f : Denoted T S D) (given : List (Argument T)) → NoAnswer (judged_call look f given)
  judged_a look (denotes.«Type» d t) given = conversion_a look d t given
  judged_a look (denotes.Func d s) given = func_call_a look d s given
  judged_a look (denotes.Builtin d b) given = builtin_a look d b given
  judged_a look denotes.Refused given = refl
  judged_a look denotes.Typeless given = refl
  judged_a look (denotes.«Package» p) given = refl
  judged_a look (denotes.«Value» o) given = refl
  judged_a look (denotes.Several s) given = refl
  judged_a look denotes.Nothing given = refl

  of_builtin_no : (look : Look T S D P) (b : Builtin) → No (of_builtin look b)
  of_builtin_no look builtins.Len = refl
  of_builtin_no look builtins.Panic = refl
  of_builtin_no look builtins.Print = refl

  free_a : (look : Look T S D P) (f : Denoted T S D) → NoAnswer (free_call look f)
  free_a look (denotes.«Type» d t) = typed_no false t
  free_a look (denotes.Func d s) = results_no s (look.names.results s)
  free_a look (denotes.Builtin d b) = of_builtin_no look b
  free_a look denotes.Refused = refl
  free_a look denotes.Typeless = refl
  free_a look (denotes.«Package» p) = refl
  free_a look (denotes.«Value» o) = refl
  free_a look (denotes.Several s) = refl
  free_a look denotes.Nothing = refl

  call_a : (look : Look T S D P) (f : Denoted T S D) (free : Bool) (given : List (Argument T)) → NoAnswer (call_answer look f free given)
  call_a look f free given = either free _ _ (free_a look f) (judged_a look f given)

  -- expressions

  operand_no : (r : Result (Operand T) Rule) → No (of_operand {S = S} {D = D} r).denoted
  operand_no (Ok o) = refl
  operand_no (Err rule) = refl

  either_judged : (b : Bool) (x y : Judged T S D) → No x.denoted → No y.denoted → No (if b then x else y).denoted
  either_judged true x y h k = h
  either_judged false x y h k = k

  unary_type_no : (rules : TypeRules T) (op : Operator) (d : D) (t : Option T) → No (unary_type {S = S} rules op d t).denoted
  unary_type_no rules op d t = either_judged (is_star op) (record { denoted = denotes.«Type» d (pointer_type rules t); fault = None }) (passed (refused_unary op)) refl refl

  unary_no : (rules : TypeRules T) (op : Operator) (literal : Bool) (d : Denoted T S D) → No (unary_of rules op literal d).denoted
  unary_no rules op literal (denotes.«Value» o) = operand_no (unary_operand rules op literal o)
  unary_no rules op literal (denotes.«Type» d t) = unary_type_no rules op d t
  unary_no rules op literal denotes.Refused = refl
  unary_no rules op literal denotes.Typeless = refl
  unary_no rules op literal (denotes.«Package» d) = refl
  unary_no rules op literal (denotes.Several s) = refl
  unary_no rules op literal denotes.Nothing = refl
  unary_no rules op literal (denotes.Func d s) = refl
  unary_no rules op literal (denotes.Builtin d b) = refl

  binary_no : (rules : TypeRules T) (op : Operator) (a b : Option (Operand T)) → No (binary_operands {S = S} {D = D} rules op a b).denoted
  binary_no rules op (Some a) (Some b) = operand_no (binary_operand rules op a b)
  binary_no rules op (Some a) None = refl
  binary_no rules op None b = refl

  literal_no : (t : Option T) → No (literal_denotes t)
  literal_no None = refl
  literal_no (Some t) = refl

  inside_no : (p : Stand) → is_dot (inside p) ≡ false
  inside_no stands.«Type» = refl
  inside_no stands.TypeDot = refl
  inside_no stands.«Value» = refl
  inside_no stands.Callee = refl
  inside_no stands.BeforeDot = refl

  and_no : (a b : Bool) → b ≡ false → (a && b) ≡ false
  and_no true b h = h
  and_no false b h = refl

  pub no_package : (looks : Looks T S D P) (p : Stand) (e : ExprTree) → (is_name e && is_dot p) ≡ false → No (denoted looks p e)
  no_package looks p (Integer n span) h = refl
  no_package looks p (Text t) h = refl
  no_package looks p (Named x) h = name_a (look_of_place looks x.span.start) p x.name h
  no_package looks p (Paren first e last) h = no_package looks (inside p) e (and_no (is_name e) (is_dot (inside p)) (inside_no p))
  no_package looks p (Unary op span e) h = unary_no looks.types op (is_literal e) (denoted looks (under_place op p) e)
  no_package looks p (Binary a op span b) h = binary_no looks.types op (operand_of (denoted looks stands.«Value» a)) (operand_of (denoted looks stands.«Value» b))
  no_package looks p (Select e dot x) h = selector_a (look_of_place looks x.span.start) (whole p) (dot_of (is_name e) (denoted looks (left_place p e) e)) x.name
  no_package looks p (Call e first items last) h =
      call_a (look_of_place looks first.start) (denoted looks stands.Callee e) (is_free (is_lone_call items) (denoted_items looks items)) (arguments_of (look_of_place looks first.start) (denoted_items looks items))
  no_package looks p (Literal n first items last) h = literal_no (named_type looks n)
  no_package looks p (StructLiteral t first items last) h = literal_no (written_type looks t)

  dot_typed : (u : Usage) (d : Denoted T S D) → No d → is_of_types (SelectorBehind u (dot_of false d)) ≡ true
  dot_typed u denotes.Refused h = refl
  dot_typed u denotes.Typeless h = refl
  dot_typed u (denotes.«Package» d) h = absurd (cc)
  dot_typed u (denotes.«Type» d t) h = refl
  dot_typed u (denotes.«Value» o) h = refl
  dot_typed u (denotes.Several s) h = refl
  dot_typed u denotes.Nothing h = refl
  dot_typed u (denotes.Func d s) h = refl
  dot_typed u (denotes.Builtin d b) h = refl

  -- behind what is no name
  pub operand_typed : (looks : Looks T S D P) (u : Usage) (p : Stand) (e : ExprTree) → is_name e ≡ false → is_of_types (SelectorBehind u (dot_of (is_name e) (denoted looks p e))) ≡ true
  operand_typed looks u p e h =
      subst (λ b. is_of_types (SelectorBehind u (dot_of b (denoted looks p e))) ≡ true) (sym h) (dot_typed u (denoted looks p e) (no_package looks p e (by (is_name e) h)))
    where
      by : (b : Bool) → b ≡ false → (b && is_dot p) ≡ false
      by false k = refl
      by true k = absurd (cc)
