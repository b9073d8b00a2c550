-- Pieces of functions that break no rule are over what they must be.
use Rattle.std.proofs.Common.{◌≡◌, ℕ, Bool, true, false, ◌&&◌, List, [], ◌∷◌, ◌++◌, length, map, ◌==◌, pos, Option, Some, None, is_some, Result, Ok, Err, refl, sym, ap, ◌∙◌, subst, arith, if◌then◌else◌}
use Rattle.std.proofs.lemmas.Bool.{eqb-true}
use Rattle.std.proofs.lemmas.List.Elements.{Contains-append_left, Contains-append_right}
use Rattle.go_constant_core.specs.text_core.Text.{is_blank}
use Rattle.go_constant_core.specs.text_core.declared.rule.Rule.{Rule}
use Rattle.go_constant_core.specs.text_core.declared.rule.Rule.TheVariants.{Y3, Y4}
use Rattle.go_constant_core.specs.text_core.declared.span.Span.{Span}
use Rattle.go_tree_nodes.specs.token_core.declared.kind.Operator.{Operator}
use Rattle.go_tree_nodes.specs.token_core.declared.kind.Operator.TheVariants as operators
use Rattle.go_tree_nodes.specs.declared.names.Ident.{Ident}
use Rattle.go_tree_nodes.specs.Trees.{TypeTree, One, ExprTree, Assign, Define, Step, Update}
use Rattle.go_names_core.specs.local_core.Steps.{Act, Given}
use Rattle.go_names_core.specs.local_core.WalksEnds.{is_blank_target}
use Rattle.go_constant_core.specs.declared.values.Constant.TheVariants as constants
use Rattle.go_term_core.specs.declared.term.Basic.TheVariants as basics
use Rattle.go_object_core.specs.declared.instructions.letters.Word.{Word}
use Rattle.go_object_core.specs.declared.instructions.letters.Word.TheVariants as words
use Rattle.go_code_core.specs.declared.fragments.names.Gives.TheVariants as gives
use Rattle.go_code_core.specs.declared.fragments.names.Meaning.{Meaning}
use Rattle.go_code_core.specs.fragments.Fragment.{expr_gives}
use Rattle.go_code_core.specs.fragments.Names as code_names
use Rattle.go_code_core.specs.fragments.Names.{frame_of}
use Rattle.go_code_core.specs.fragments.Operators.{update_operator}
use Rattle.go_report_core.specs.operand_core.declared.types.ValueType.{ValueType}
use Rattle.go_report_core.specs.operand_core.declared.types.ValueType.TheVariants as types
use Rattle.go_report_core.specs.operand_core.declared.types.Operand.{Operand}
use Rattle.go_report_core.specs.operand_core.TypeRules.{TypeRules}
use Rattle.go_report_core.specs.operand_core.Values.{is_over, basic_under, default_type}
use Rattle.go_report_core.specs.operand_core.Assign.{assignable}
use Rattle.go_report_core.specs.operand_core.Conversions.{is_condition}
use Rattle.go_report_core.specs.operand_core.Operators.{binary_operand, value}
use Rattle.go_report_core.specs.operand_core.Updates.{broken, update, increment}
use Rattle.go_report_core.specs.denote_core.declared.things.Argument.{Argument}
use Rattle.go_report_core.specs.denote_core.declared.things.Argument.TheVariants as arguments
use Rattle.go_report_core.specs.denote_core.declared.things.Denoted.{Denoted}
use Rattle.go_report_core.specs.denote_core.declared.things.Denoted.TheVariants as denotes
use Rattle.go_report_core.specs.denote_core.declared.things.Outcome.{Outcome}
use Rattle.go_report_core.specs.denote_core.declared.things.Stand.TheVariants as stands
use Rattle.go_report_core.specs.denote_core.Arguments.{argument_of, arguments_alone, is_refused}
use Rattle.go_report_core.specs.expr_core.Operators.{of_operand}
use Rattle.go_report_core.specs.expr_core.Looks.{Looks, look_of_place}
use Rattle.go_report_core.specs.expr_core.Places.{start, is_call}
use Rattle.go_report_core.specs.expr_core.Denoting.{denoted, written_type}
use Rattle.go_report_core.specs.expr_core.Uses.{uses}
use Rattle.go_report_core.specs.expr_core.Faults.{faults, fault_at}
use Rattle.go_report_core.specs.expr_core.declared.things.Use.{Use}
use Rattle.go_body_core.specs.stmt_core.declared.statement.targets.Target.TheVariants as targets
use Rattle.go_body_core.specs.stmt_core.StatementAssignments.{unless, all_pairs, assignment_rule}
use Rattle.go_body_core.specs.stmt_core.StatementDeclarations.{declared_types, short_types, variables_rule}
use Rattle.go_body_core.specs.stmt_core.StatementReturns.{returned, return_rule}
use Rattle.go_body_core.specs.stmt_core.StatementStatements.{condition_rule}
use Rattle.go_body_core.specs.stmt_core.StatementTargets.{target_of, target_of_value}
use Rattle.go_body_core.specs.stmt_core.StatementUpdates.{update_rule, increment_rule}
use Rattle.go_report_core.specs.expr_core.TypeUses.{type_uses}
use Rattle.go_body_core.specs.stmt_core.PieceTypes.{type_faults}
use Rattle.go_body_core.specs.stmt_core.PieceValues.{variable}
use Rattle.go_body_core.specs.stmt_core.PiecePieces.{piece_uses, piece_faults, piece_values}
use Rattle.go_workspace_laws.specs.folding.Reading.{IsOver, IsOneOver, basic_of}
use Rattle.go_workspace_laws.specs.folding.Laws.{AreMeant}
use Rattle.go_workspace_laws.specs.folding.Typed.{IsTyped}
use Rattle.go_workspace_laws.proofs.FoldingFolding.{expressions_typed}
use Rattle.go_workspace_laws.proofs.FoldingInside.{no_fault, none_left, none_right}
use Rattle.go_workspace_laws.proofs.ConstantLists.{contained}
use Rattle.go_meaning_laws.specs.fitting_sources.Fitting.{BothGive, BinaryFits}
use Rattle.go_program_laws.specs.checked_sources.Statements.{AreAlike, ArePredeclared, ConditionsAreOverBool, AssignmentsAreOverOne, UpdatesAreOverInt, ReturnsAreOverResults, StandsOver, one_variable, DeclarationsAreOverOne}
use Rattle.go_program_laws.proofs.CheckedSourcesWords.{is_bool, no_word, assigned_over, parts_first}
use Rattle.go_program_laws.proofs.CheckedSourcesOperators.{binary_takes}

-- rules

if_none : (b : Bool) (r : Rule) → (if b then None else Some r) ≡ None → b ≡ true
if_none true r h = refl
if_none false r h = absurd (cc h)

unless_none : (b : Bool) → unless (b && true) ≡ None → b ≡ true
unless_none true h = refl
unless_none false h = absurd (cc h)

-- lists

meant_left : {D P : Type 0} (code : code_names.CodeLooks) (mean : Outcome D P → Meaning) (us vs : List (Use D P)) → AreMeant code mean (us ++ vs) → AreMeant code mean us
meant_left code mean us vs h u c = h u (Contains-append_left us vs u c)

meant_right : {D P : Type 0} (code : code_names.CodeLooks) (mean : Outcome D P → Meaning) (us vs : List (Use D P)) → AreMeant code mean (us ++ vs) → AreMeant code mean vs
meant_right code mean us vs h u c = h u (Contains-append_right us vs u c)

chosen : {A : Type 0} (b : Bool) (x y : A) → b ≡ false → (if b then x else y) ≡ y
chosen b x y e = ap (λ c. if c then x else y) e

module _ {T : Type 0} (S D : Type 0) where
  sound_of : (r : Result (Operand T) Rule) → broken r ≡ None → (of_operand {T = T} {S = S} {D = D} r).fault ≡ None
  sound_of (Ok o) h = refl
  sound_of (Err r) h = absurd (cc h)

-- a variable with a written type and no value
stands_alone : {T S D P : Type 0} (looks : Looks T S D P) (o : Option T) (w : Word) → IsOver looks.types w o → StandsOver looks.types (variable o ∷ []) w
stands_alone looks None w over = absurd over
stands_alone looks (Some t) w over = record { operand = record { value_type = types.Typed t; constant = None; addressable = true }; alone = refl; over = over }

module _ {T S D P : Type 0} (looks : Looks T S D P) (code : code_names.CodeLooks) (mean : Outcome D P → Meaning) (slots : List (Option ℕ)) (alike : AreAlike T S D P looks mean) where
  abbrev Gave : ExprTree → Word → Type 0
  Gave e w = expr_gives (frame_of code slots) e ≡ gives.One w

  abbrev Over : ValueType T → Word → Type 0
  Over v w = basic_under looks.types v ≡ Some (basic_of w)

  abbrev value_denoted : Operand T → Denoted T S D
  value_denoted o = denotes.«Value» o

  typed : (e : ExprTree) (w : Word) → AreMeant code mean (uses looks stands.«Value» e) → faults looks stands.«Value» e ≡ [] → Gave e w → IsTyped T S D P looks code stands.«Value» e w
  typed e w meant sound one =
      expressions_typed T S D P looks code mean slots stands.«Value» e alike.read alike.typed alike.keep meant sound stands.«Value» e (contained _ (stands.«Value», e) (parts_first stands.«Value» e)) w one

  fits : (o : Operand T) (t : T) (u c : Word) → Over o.value_type u → IsOver looks.types c (Some t) → assignable looks.types o.value_type t ≡ true → u ≡ c
  fits o t u c hv ht h = assigned_over looks.types alike.keep o.value_type t u c hv ht h

  -- conditions

  pub condition : (e : ExprTree) (w : Word) → AreMeant code mean (uses looks stands.«Value» e) → faults looks stands.«Value» e ++ fault_at (start e) (condition_rule looks.types (denoted looks stands.«Value» e)) ≡ [] → Gave e w → w ≡ words.Bool
  condition e w meant sound one =
      let t = typed e w meant (none_left _ _ sound) one in
      let rule : condition_rule looks.types (denoted looks stands.«Value» e) ≡ None = no_fault (start e) _ (none_right _ _ sound) in
      let here : condition_rule looks.types (value_denoted t.operand) ≡ None = subst (λ d. condition_rule looks.types d ≡ None) t.denotes rule in
      is_bool w (subst (λ o. is_over basics.Bool o ≡ true) t.over (if_none (is_condition looks.types t.operand) _ here))

  -- assignments

  takes_value : (b addressable : Bool) (left : ValueType T) (o : Operand T) (v w : Word) → Over left v → Over o.value_type w
      → assignment_rule looks.types (target_of_value addressable left ∷ []) (b && false) (arguments.«Value» o ∷ []) ≡ None → w ≡ v
  takes_value b false left o v w hl ho h = absurd (cc h)
  takes_value true true (types.Typed t) o v w hl ho h = fits o t w v ho hl (unless_none (assignable looks.types o.value_type t) h)
  takes_value false true (types.Typed t) o v w hl ho h = fits o t w v ho hl (unless_none (assignable looks.types o.value_type t) h)
  takes_value b true types.UntypedInt o v w hl ho h = absurd (cc h)
  takes_value b true types.UntypedText o v w hl ho h = absurd (cc h)
  takes_value b true types.UntypedBool o v w hl ho h = absurd (cc h)
  takes_value b true types.Nil o v w hl ho h = absurd (cc h)

  pub assigned : (t e : ExprTree) (span : Span) (results : List (Option T)) (has_names : Bool) (firsts : List Bool) → AreMeant code mean (piece_uses looks (Act (Assign (One t) span (One e)))) → piece_faults looks results has_names firsts (Act (Assign (One t) span (One e))) ≡ []
      → is_blank_target t ≡ false → (v w : Word) → Gave t v → Gave e w → w ≡ v
  assigned t e span results has_names firsts meant sound named v w one_t one_e =
      let left = uses looks stands.«Value» t in
      let right = uses looks stands.«Value» e in
      let meant_t : AreMeant code mean left = subst (λ us. AreMeant code mean us) (chosen (is_blank_target t) [] left named) (meant_left code mean (if is_blank_target t then [] else left) right meant) in
      let meant_e : AreMeant code mean right = meant_right code mean (if is_blank_target t then [] else left) right meant in
      let faults_t = subst (λ fs. fs ≡ []) (chosen (is_blank_target t) [] (faults looks stands.«Value» t ++ []) named) (none_left _ _ sound) in
      let rest = none_right _ _ sound in
      let ty_t = typed t v meant_t (none_left _ _ faults_t) one_t in
      let ty_e = typed e w meant_e (none_left _ _ (none_left _ _ rest)) one_e in
      let rule = no_fault (start t) _ (none_right _ _ rest) in
      let rule_1 : assignment_rule looks.types (target_of (denoted looks stands.«Value» t) true ∷ []) (is_call e && is_refused (denoted looks stands.«Value» e)) (arguments_alone (look_of_place looks (start e)) (denoted looks stands.«Value» e)) ≡ None =
      subst (λ x. assignment_rule looks.types (x ∷ []) (is_call e && is_refused (denoted looks stands.«Value» e)) (arguments_alone (look_of_place looks (start e)) (denoted looks stands.«Value» e)) ≡ None) (chosen (is_blank_target t) targets.Blank (target_of (denoted looks stands.«Value» t) true) named) rule in
      let rule_2 = subst (λ d. assignment_rule looks.types (target_of d true ∷ []) (is_call e && is_refused (denoted looks stands.«Value» e)) (arguments_alone (look_of_place looks (start e)) (denoted looks stands.«Value» e)) ≡ None) ty_t.denotes rule_1 in
      let rule_3 = subst (λ d. assignment_rule looks.types (target_of (value_denoted ty_t.operand) true ∷ []) (is_call e && is_refused d) (arguments_alone (look_of_place looks (start e)) d) ≡ None) ty_e.denotes rule_2 in
      takes_value (is_call e) ty_t.operand.addressable ty_t.operand.value_type ty_e.operand v w ty_t.over ty_e.over rule_3

  -- `++`, `--` and assignment operations

  int_of : (v : Word) → gives.One v ≡ gives.One words.Int → v ≡ words.Int
  int_of v e = cc e

  abbrev one_constant : Operand T
  one_constant = value types.UntypedInt (Some (constants.Int (pos 1)))

  addressed : (b : Bool) (r : Result (Operand T) Rule) (rule : Rule) → (if b then broken r else Some rule) ≡ None → broken r ≡ None
  addressed true r rule h = h
  addressed false r rule h = absurd (cc h)

  stepped : (o : Operand T) (v : Word) → Over o.value_type v → increment looks.types o ≡ None → v ≡ words.Int
  stepped o v over h =
      int_of v (binary_takes looks.types alike.keep alike.identity S D o one_constant v words.Int over refl operators.Plus (sound_of S D (binary_operand looks.types operators.Plus o one_constant) (addressed o.addressable _ _ h))).0

  pub step : (t : ExprTree) (op : Operator) (span : Span) (results : List (Option T)) (has_names : Bool) (firsts : List Bool) → AreMeant code mean (piece_uses looks (Act (Step t op span))) → piece_faults looks results has_names firsts (Act (Step t op span)) ≡ []
      → (v : Word) → Gave t v → v ≡ words.Int
  step t op span results has_names firsts meant sound v one =
      let ty = typed t v meant (none_left _ _ (none_left _ _ sound)) one in
      let rule : increment_rule looks.types (argument_of (denoted looks stands.«Value» t)) ≡ None = no_fault (start t) _ (none_right _ _ sound) in
      stepped ty.operand v ty.over (subst (λ d. increment_rule looks.types (argument_of d) ≡ None) ty.denotes rule)

  both_int : (v w : Word) → BothGive words.Int (gives.One v) (gives.One w) → (v ≡ words.Int) × (w ≡ words.Int)
  both_int v w h = (int_of v h.0, int_of w h.1)

  taken : (op : Operator) (a b : Operand T) (v w : Word) → Over a.value_type v → Over b.value_type w → (if a.addressable then broken (binary_operand looks.types op a b) else Some Y3) ≡ None → BinaryFits op (gives.One v) (gives.One w)
  taken op a b v w ha hb h = binary_takes looks.types alike.keep alike.identity S D a b v w ha hb op (sound_of S D (binary_operand looks.types op a b) (addressed a.addressable (binary_operand looks.types op a b) Y3 h))

  updated : (op : Operator) (a b : Operand T) (v w : Word) → Over a.value_type v → Over b.value_type w → is_some (update_operator op) ≡ true → update looks.types op a b ≡ None → (v ≡ words.Int) × (w ≡ words.Int)
  updated operators.PlusAssign a b v w ha hb some h = both_int v w (taken operators.Plus a b v w ha hb h)
  updated operators.MinusAssign a b v w ha hb some h = both_int v w (taken operators.Minus a b v w ha hb h)
  updated operators.StarAssign a b v w ha hb some h = both_int v w (taken operators.Star a b v w ha hb h)
  updated operators.SlashAssign a b v w ha hb some h = both_int v w (taken operators.Slash a b v w ha hb h)
  updated operators.PercentAssign a b v w ha hb some h = both_int v w (taken operators.Percent a b v w ha hb h)
  updated _ a b v w ha hb some h = absurd (cc some)

  pub update_pieces : (t : ExprTree) (op : Operator) (span : Span) (e : ExprTree) (results : List (Option T)) (has_names : Bool) (firsts : List Bool) → AreMeant code mean (piece_uses looks (Act (Update t op span e))) → piece_faults looks results has_names firsts (Act (Update t op span e)) ≡ []
      → is_some (update_operator op) ≡ true → (v w : Word) → Gave t v → Gave e w → (v ≡ words.Int) × (w ≡ words.Int)
  update_pieces t op span e results has_names firsts meant sound some v w one_t one_e =
      let left = uses looks stands.«Value» t in
      let right = uses looks stands.«Value» e in
      let rest = none_right _ _ sound in
      let ty_t = typed t v (meant_left code mean left right meant) (none_left _ _ (none_left _ _ sound)) one_t in
      let ty_e = typed e w (meant_right code mean left right meant) (none_left _ _ (none_left _ _ rest)) one_e in
      let rule : update_rule looks.types op (argument_of (denoted looks stands.«Value» t)) (argument_of (denoted looks stands.«Value» e)) ≡ None = no_fault (start t) _ (none_right _ _ rest) in
      let rule_1 = subst (λ d. update_rule looks.types op (argument_of d) (argument_of (denoted looks stands.«Value» e)) ≡ None) ty_t.denotes rule in
      let rule_2 = subst (λ d. update_rule looks.types op (arguments.«Value» ty_t.operand) (argument_of d) ≡ None) ty_e.denotes rule_1 in
      updated op ty_t.operand ty_e.operand v w ty_t.over ty_e.over some rule_2

  -- returns

  past : (b n : Bool) (x : Option Rule) → (if b && false then None else (if n && false then None else x)) ≡ None → x ≡ None
  past true true x h = h
  past true false x h = h
  past false true x h = h
  past false false x h = h

  abbrev given_rule : List (Option T) → Operand T → Option Rule
  given_rule results o = if length results == 1 then unless (all_pairs (returned looks.types) results (arguments.«Value» o ∷ [])) else Some Y4

  given_over : (results : List (Option T)) (o : Operand T) (v w : Word) → Over o.value_type w → IsOneOver looks.types v results → given_rule results o ≡ None → w ≡ v
  given_over [] o v w ho one h = absurd one
  given_over (None ∷ []) o v w ho one h = absurd one
  given_over (Some t ∷ []) o v w ho one h = fits o t w v ho one (unless_none (assignable looks.types o.value_type t) h)
  given_over (t ∷ (u ∷ more)) o v w ho one h = absurd one

  given_none : (results : List (Option T)) (o : Operand T) → given_rule results o ≡ None → results ≡ [] → ⊥
  given_none [] o h e = cc h
  given_none (r ∷ results) o h e = cc e

  -- what is returned is a value, and the rule of its result is not broken
  record IsGivenBack (results : List (Option T)) (w : Word) : Type 0 where
    operand : Operand T
    over : Over operand.value_type w
    rule : given_rule results operand ≡ None

  given_back : (results : List (Option T)) (has_names : Bool) (firsts : List Bool) (place : Span) (e : ExprTree) → AreMeant code mean (piece_uses looks (Given place (Some (One e)))) → piece_faults looks results has_names firsts (Given place (Some (One e))) ≡ []
      → (w : Word) → Gave e w → IsGivenBack results w
  given_back results has_names firsts place e meant sound w one =
      let ty = typed e w meant (none_left _ _ (none_left _ _ sound)) one in
      let rule = no_fault place.start _ (none_right _ _ sound) in
      let here = subst (λ d. return_rule looks.types results has_names (is_call e && is_refused d) (arguments_alone (look_of_place looks (start e)) d) ≡ None) ty.denotes rule in
      record { operand = ty.operand; over = ty.over; rule = past (is_call e) has_names (given_rule results ty.operand) here }

  pub returned_value : (results : List (Option T)) (has_names : Bool) (firsts : List Bool) (place : Span) (e : ExprTree) → AreMeant code mean (piece_uses looks (Given place (Some (One e)))) → piece_faults looks results has_names firsts (Given place (Some (One e))) ≡ []
      → (w : Word) → Gave e w → (v : Word) → IsOneOver looks.types v results → w ≡ v
  returned_value results has_names firsts place e meant sound w one v over =
      let r = given_back results has_names firsts place e meant sound w one in
      given_over results r.operand v w r.over over r.rule

  pub returned_some : (results : List (Option T)) (has_names : Bool) (firsts : List Bool) (place : Span) (e : ExprTree) → AreMeant code mean (piece_uses looks (Given place (Some (One e)))) → piece_faults looks results has_names firsts (Given place (Some (One e))) ≡ []
      → (w : Word) → Gave e w → results ≡ [] → ⊥
  returned_some results has_names firsts place e meant sound w one =
      let r = given_back results has_names firsts place e meant sound w one in
      given_none results r.operand r.rule

  -- declarations

  -- a value that is over a word gives a variable a type that is over it
  record IsGivenType (v : ValueType T) (w : Word) : Type 0 where
    type_of : T
    is : default_type looks.types v ≡ Some type_of
    over : IsOver looks.types w (Some type_of)

  defaulted : ArePredeclared looks.types → (v : ValueType T) (w : Word) → Over v w → IsGivenType v w
  defaulted p (types.Typed t) w over = record { type_of = t; is = refl; over = over }
  defaulted p types.UntypedInt w over = record { type_of = looks.types.int; is = refl; over = p.int ∙ over }
  defaulted p types.UntypedBool w over = record { type_of = looks.types.bool; is = refl; over = p.bool ∙ over }
  defaulted p types.UntypedText w over = no_word w over
  defaulted p types.Nil w over = absurd (cc over)

  stands_over : (o : Option T) (w : Word) → IsOver looks.types w o → StandsOver looks.types (variable o ∷ []) w
  stands_over o w over = stands_alone looks o w over

  stands_by : (values : List (Option (Operand T))) (v : ValueType T) (w : Word) → ArePredeclared looks.types → Over v w → values ≡ variable (default_type looks.types v) ∷ [] → StandsOver looks.types values w
  stands_by values v w p over is =
      let t = defaulted p v w over in
      subst (λ vs. StandsOver looks.types vs w) (sym is) (stands_over (default_type looks.types v) w (subst (λ o. IsOver looks.types w o) (sym t.is) t.over))

  pub short_declared : ArePredeclared looks.types → (results : List (Option T)) (has_names : Bool) (firsts : List Bool) (x : Ident) (span : Span) (e : ExprTree) → AreMeant code mean (piece_uses looks (Act (Define (One x) span (One e))))
      → piece_faults looks results has_names (true ∷ firsts) (Act (Define (One x) span (One e))) ≡ [] → is_blank x.name ≡ false → (w : Word) → Gave e w
      → StandsOver looks.types (piece_values looks (true ∷ firsts) (Act (Define (One x) span (One e)))) w
  short_declared p results has_names firsts x span e meant sound named w one =
      let ty = typed e w meant (none_left _ _ (none_left _ _ sound)) one in
      let args : Denoted T S D → List (Argument T) = λ d. arguments_alone (look_of_place looks (start e)) d in
      stands_by (piece_values looks (true ∷ firsts) (Act (Define (One x) span (One e)))) ty.operand.value_type w p ty.over
      (ap (λ target. map variable (short_types looks.types (target ∷ []) (args (denoted looks stands.«Value» e)))) (chosen (is_blank x.name) targets.Blank targets.New named)
      ∙ ap (λ d. map variable (short_types looks.types (targets.New ∷ []) (args d))) ty.denotes)

  pub untyped_declared : ArePredeclared looks.types → (results : List (Option T)) (has_names : Bool) (firsts : List Bool) (x : Ident) (span : Span) (e : ExprTree) → AreMeant code mean (piece_uses looks (one_variable x None (Some (span, One e))))
      → piece_faults looks results has_names firsts (one_variable x None (Some (span, One e))) ≡ [] → (w : Word) → Gave e w
      → StandsOver looks.types (piece_values looks firsts (one_variable x None (Some (span, One e)))) w
  untyped_declared p results has_names firsts x span e meant sound w one =
      let ty = typed e w meant (none_left _ _ (none_left _ _ sound)) one in
      stands_by (piece_values looks firsts (one_variable x None (Some (span, One e)))) ty.operand.value_type w p ty.over
      (ap (λ d. map variable (declared_types looks.types None 1 (arguments_alone (look_of_place looks (start e)) d))) ty.denotes)

  variable_takes : (b : Bool) (t : Option T) (o : Operand T) (u w : Word) → Over o.value_type w → IsOver looks.types u t → variables_rule looks.types (Some t) 1 (b && false) (arguments.«Value» o ∷ []) ≡ None → w ≡ u
  variable_takes b None o u w ho ht h = absurd ht
  variable_takes true (Some t) o u w ho ht h = fits o t w u ho ht (unless_none (assignable looks.types o.value_type t) h)
  variable_takes false (Some t) o u w ho ht h = fits o t w u ho ht (unless_none (assignable looks.types o.value_type t) h)

  pub typed_declared : (results : List (Option T)) (has_names : Bool) (firsts : List Bool) (x : Ident) (t : TypeTree) (span : Span) (e : ExprTree) → AreMeant code mean (piece_uses looks (one_variable x (Some t) (Some (span, One e))))
      → piece_faults looks results has_names firsts (one_variable x (Some t) (Some (span, One e))) ≡ [] → (w : Word) → Gave e w → (u : Word) → IsOver looks.types u (written_type looks t)
      → (w ≡ u) × StandsOver looks.types (piece_values looks firsts (one_variable x (Some t) (Some (span, One e)))) u
  typed_declared results has_names firsts x t span e meant sound w one u over =
      let rest = none_right (type_faults looks t) _ sound in
      let ty = typed e w (meant_right code mean (type_uses looks t) (uses looks stands.«Value» e) meant) (none_left _ _ (none_left _ _ rest)) one in
      let rule = no_fault x.span.start _ (none_right _ _ rest) in
      let here = subst (λ d. variables_rule looks.types (Some (written_type looks t)) 1 (is_call e && is_refused d) (arguments_alone (look_of_place looks (start e)) d) ≡ None) ty.denotes rule in
      (variable_takes (is_call e) (written_type looks t) ty.operand u w ty.over over here, stands_over (written_type looks t) u over)

-- the laws

pub conditions_over_bool : (T S D P : Type 0) → ConditionsAreOverBool T S D P
conditions_over_bool T S D P looks code mean slots results has_names firsts e clear w one = condition looks code mean slots clear.alike e w clear.meant clear.sound one

pub assignments_over_one : (T S D P : Type 0) → AssignmentsAreOverOne T S D P
assignments_over_one T S D P looks code mean slots results has_names firsts t e span clear named v w one_t one_e =
    assigned looks code mean slots clear.alike t e span results has_names firsts clear.meant clear.sound named v w one_t one_e

pub updates_over_int : (T S D P : Type 0) → UpdatesAreOverInt T S D P
updates_over_int T S D P = record {
  step = λ looks code mean slots results has_names firsts t op span clear v one. step looks code mean slots clear.alike t op span results has_names firsts clear.meant clear.sound v one;
  update = λ looks code mean slots results has_names firsts t op span e clear some v w one_t one_e.
      update_pieces looks code mean slots clear.alike t op span e results has_names firsts clear.meant clear.sound some v w one_t one_e;
}

counted : (b : Bool) (x : Option Rule) → (if b then x else Some Y4) ≡ None → b ≡ true
counted true x h = refl
counted false x h = absurd (cc h)

none_returned : {T : Type 0} (rules : TypeRules T) (results : List (Option T)) → return_rule rules results false false [] ≡ None → results ≡ []
none_returned rules [] h = refl
none_returned rules (r ∷ results) h = (let e : length (r ∷ results) ≡ 0 = eqb-true (length (r ∷ results)) 0 (counted (length (r ∷ results) == 0) _ h) in absurd (omega (arith, e)))

pub returns_over_results : (T S D P : Type 0) → ReturnsAreOverResults T S D P
returns_over_results T S D P = record {
  value = λ looks code mean slots results has_names firsts place e clear w one v over.
      returned_value looks code mean slots clear.alike results has_names firsts place e clear.meant clear.sound w one v over;
  some = λ looks code mean slots results has_names firsts place e clear w one none.
      returned_some looks code mean slots clear.alike results has_names firsts place e clear.meant clear.sound w one none;
  none = λ looks code mean results firsts place clear. none_returned looks.types results (no_fault place.start _ clear.sound);
}

pub declarations_over_one : (T S D P : Type 0) → DeclarationsAreOverOne T S D P
declarations_over_one T S D P = record {
  short = λ looks code mean slots results has_names firsts x span e p clear named w one.
      short_declared looks code mean slots clear.alike p results has_names firsts x span e clear.meant clear.sound named w one;
  untyped = λ looks code mean slots results has_names firsts x span e p clear w one.
      untyped_declared looks code mean slots clear.alike p results has_names firsts x span e clear.meant clear.sound w one;
  typed = λ looks code mean slots results has_names firsts x t span e clear w one u over.
      typed_declared looks code mean slots clear.alike results has_names firsts x t span e clear.meant clear.sound w one u over;
  without_value = λ looks firsts x t u over. stands_alone looks (written_type looks t) u over;
}
