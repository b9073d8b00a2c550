-- A piece of a function is the same to look-ups that have the same of near things, and its names stand for near values.
use Rattle.std.proofs.Common.{◌≡◌, ℕ, Bool, true, false, List, [], ◌∷◌, ◌++◌, map, refl, ap, ◌∙◌}
use Rattle.std.specs.Prelude.{Option, Some, None, if◌then◌else◌, not, is_some, ◌&&◌, ◌==◌, length, replicate}
use Rattle.std.specs.List.{list_all}
use Rattle.go_path_core.specs.text_core.Text.{is_blank}
use Rattle.go_path_core.specs.text_core.declared.span.Span.{Span}
use Rattle.go_tree_nodes.specs.declared.names.Ident.{Ident}
use Rattle.go_tree_nodes.specs.declared.files.Receiver.{Receiver}
use Rattle.go_tree_nodes.specs.declared.decls.ValueKind.{ValueKind}
use Rattle.go_tree_nodes.specs.declared.decls.ValueKind.TheVariants as kinds
use Rattle.go_tree_nodes.specs.Trees.{Separated, One, Then, TypeTree, ExprTree, Integer, Text, Named, Paren, Unary, Binary, Select, Call, Literal, StructLiteral, SignatureTree, ResultTree, ParamTrees, Signed, NoResult, OneResult, Results, NoParams, Param, SimpleTree, Alone, Step, Assign, Update, Define, ValueSpecTree}
use Rattle.go_names_core.specs.scope_stack.Blocks.{is_listed, list_name}
use Rattle.go_names_core.specs.local_core.WalksEnds.{is_blank_target}
use Rattle.go_names_core.specs.local_core.Outline.{idents}
use Rattle.go_names_core.specs.local_core.Steps.{Piece, Header, Spec, Act, Condition, Given}
use Rattle.go_report_core.specs.operand_core.TypeRules.{TypeRules}
use Rattle.go_report_core.specs.denote_core.declared.things.Stand.TheVariants as stands
use Rattle.go_report_core.specs.denote_core.declared.things.Denoted.{Denoted}
use Rattle.go_report_core.specs.denote_core.declared.things.Argument.{Argument}
use Rattle.go_report_core.specs.denote_core.declared.things.Argument.TheVariants as arguments
use Rattle.go_report_core.specs.denote_core.Arguments.{argument_of, arguments_of, is_free}
use Rattle.go_body_core.specs.stmt_core.declared.statement.targets.Target.{Target}
use Rattle.go_body_core.specs.stmt_core.declared.statement.targets.Target.TheVariants as targets
use Rattle.go_body_core.specs.stmt_core.StatementTargets.{target_of}
use Rattle.go_body_core.specs.stmt_core.StatementAssignments.{assignment_rule}
use Rattle.go_body_core.specs.stmt_core.StatementDeclarations.{declared_types, variables_rule, is_initial, initial_argument, initials_rule, initial_types, short_types}
use Rattle.go_body_core.specs.stmt_core.StatementReturns.{return_rule}
use Rattle.go_body_core.specs.stmt_core.StatementStatements.{statement_rule, condition_rule}
use Rattle.go_body_core.specs.stmt_core.StatementUpdates.{update_rule, increment_rule}
use Rattle.go_body_core.specs.stmt_core.StatementConstants.{constants_rule, constant_answer}
use Rattle.go_body_core.specs.stmt_core.StatementLocality.{type_if_written, StatementsAreLocal}
use Rattle.go_body_core.specs.stmt_core.StatementAlike.{local}
use Rattle.go_report_core.specs.expr_core.Looks.{Looks, look_of_place}
use Rattle.go_report_core.specs.expr_core.Places.{start}
use Rattle.go_report_core.specs.expr_core.Lists.{is_list, denoted_exprs, exprs_faults}
use Rattle.go_report_core.specs.expr_core.Denoting as denoting
use Rattle.go_report_core.specs.expr_core.Denoting.{denoted, ident_answer}
use Rattle.go_report_core.specs.expr_core.Uses.{uses}
use Rattle.go_report_core.specs.expr_core.Faults.{fault_at, listed_rule, faults, member_faults, operand_faults}
use Rattle.go_body_core.specs.stmt_core.PieceValues.{variable, is_call_alone, list_start, behind, given, is_unknown, list_uses, list_faults}
use Rattle.go_body_core.specs.stmt_core.PieceTypes.{type_faults, some_written_type, some_type_uses, some_type_faults}
use Rattle.go_body_core.specs.stmt_core.PieceTargets.{target, target_uses, target_faults, targets_uses, targets_faults, old_target, short_target, flag_of, flags_behind, short_targets}
use Rattle.go_body_core.specs.stmt_core.PieceTargets as lefts
use Rattle.go_body_core.specs.stmt_core.PieceSpecifications.{names_start, values_uses, values_faults, values_given, spec_faults, variables_faults, variable_types, constant_fault, each_constant_faults, constants_faults, constant_value, constant_values, own_faults, names_values, initials_faults, own_outer_faults, outer_faults, outer_values}
use Rattle.go_body_core.specs.stmt_core.PieceHeaders.{receiver_uses, receiver_type, some_starred, named_receiver, receiver_types, of_entry, entry_types, types_of_result, types_of_signature, params_faults, result_faults, signature_faults, header_types, returned_types}
use Rattle.go_body_core.specs.stmt_core.PieceStatements.{callee_of, operand_argument, simple_uses, simple_faults, short_name_types}
use Rattle.go_body_core.specs.stmt_core.PiecePieces.{piece_uses, piece_faults, piece_values, simple_values}
use Rattle.go_snap_core.specs.near.Near.{NearRest, IfAny, NearOperand, NearArgument, NearDenoted}
use Rattle.go_snap_core.specs.near.Looks.{AreClosed, LooksAgree}
use Rattle.go_snap_core.specs.near.Pieces.{IsPieceNearby, IsOuterNearby}
use Rattle.go_snap_core.proofs.NearClosing.{either, argument_near, arguments_near}
use Rattle.go_snap_core.proofs.NearAgreeing.{arguments_same}
use Rattle.go_snap_core.proofs.NearExpressions.{ident_near, ident_same, named_near, named_same, written_near, written_same, denoted_near, denoted_same, name_uses, type_used, signature_used, used_same, operand_with, written_faults, faults_same}
use Rattle.go_snap_core.proofs.NearStatements.{NearTarget, copies, pairs_alike, results_alike, each_given, each_type, wanted_alike, under_alike, form_alike, condition_alike, update_same, increment_same, constants_same, declared_near, short_near, constant_near, target_near}
use Rattle.go_body_core.specs.stmt_core.StatementLocality.{Each}

pub each_both : {X : Type 0} (Is : X → Type 0) (xs ys : List X) → Each Is xs → Each Is ys → Each Is (xs ++ ys)
each_both Is [] ys h k = k
each_both Is (x ∷ xs) ys h k = (h.0, each_both Is xs ys h.1 k)

module _ {T S D P : Type 0} (Near : T → Type 0) (Rest : NearRest S D) (looks others : Looks T S D P) (law : AreClosed Near Rest looks) (agree : LooksAgree Near Rest looks others) where
  abbrev rules : TypeRules T
  rules = looks.types

  abbrev other_rules : TypeRules T
  other_rules = others.types

  alike : StatementsAreLocal T S D
  alike = local

  abbrev Denotes : Denoted T S D → Type 0
  Denotes d = NearDenoted Near Rest d

  value_near : (e : ExprTree) → Denotes (denoted looks stands.«Value» e)
  value_near e = denoted_near Near Rest looks others law agree stands.«Value» e

  value_same : (e : ExprTree) → denoted looks stands.«Value» e ≡ denoted others stands.«Value» e
  value_same e = denoted_same Near Rest looks others law agree stands.«Value» e

  value_used : (e : ExprTree) → uses looks stands.«Value» e ≡ uses others stands.«Value» e
  value_used e = used_same Near Rest looks others law agree stands.«Value» e

  value_faults : (e : ExprTree) → faults looks stands.«Value» e ≡ faults others stands.«Value» e
  value_faults e = faults_same Near Rest looks others law agree stands.«Value» e

  operand_breaks : (e : ExprTree) → operand_faults looks stands.«Value» e ≡ operand_faults others stands.«Value» e
  operand_breaks e = operand_with Near Rest looks others law agree stands.«Value» e (value_faults e)

  member_breaks : (b : Bool) (e : ExprTree) → member_faults looks b e ≡ member_faults others b e
  member_breaks b e = λ j. value_faults e j ++ fault_at (start e) (listed_rule b (value_same e j))

  -- lists of expressions

  exprs_near : (es : Separated ExprTree) → Each Denotes (denoted_exprs looks es)
  exprs_near (One e) = (value_near e, tt)
  exprs_near (Then e comma more) = (value_near e, exprs_near more)

  exprs_same : (es : Separated ExprTree) → denoted_exprs looks es ≡ denoted_exprs others es
  exprs_same (One e) = λ j. value_same e j ∷ []
  exprs_same (Then e comma more) = λ j. value_same e j ∷ exprs_same more j

  list_used : (es : Separated ExprTree) → list_uses looks es ≡ list_uses others es
  list_used (One e) = value_used e
  list_used (Then e comma more) = λ j. value_used e j ++ list_used more j

  exprs_break : (b : Bool) (es : Separated ExprTree) → exprs_faults looks b es ≡ exprs_faults others b es
  exprs_break b (One e) = member_breaks b e
  exprs_break b (Then e comma more) = λ j. member_breaks b e j ++ exprs_break b more j

  list_breaks : (es : Separated ExprTree) → list_faults looks es ≡ list_faults others es
  list_breaks es = exprs_break (is_list es) es

  given_near : (es : Separated ExprTree) → Each (NearArgument Near) (given looks es)
  given_near es = arguments_near Near Rest looks law (list_start es) (denoted_exprs looks es) (exprs_near es)

  given_same : (es : Separated ExprTree) → given looks es ≡ given others es
  given_same es =
      arguments_same Near Rest looks others law agree (list_start es) (denoted_exprs looks es) (exprs_near es) ∙ ap (arguments_of (look_of_place others (list_start es))) (exprs_same es)

  unknown_same : (es : Separated ExprTree) → is_unknown looks es ≡ is_unknown others es
  unknown_same es = ap (is_free (is_call_alone es)) (exprs_same es)

  -- types

  type_near : (t : TypeTree) → IfAny Near (denoting.written_type looks t)
  type_near t = written_near Near Rest looks others law agree t

  type_same : (t : TypeTree) → denoting.written_type looks t ≡ denoting.written_type others t
  type_same t = written_same Near Rest looks others law agree t

  type_breaks : (t : TypeTree) → type_faults looks t ≡ type_faults others t
  type_breaks t = written_faults Near Rest looks others law agree t

  some_near : (t : Option TypeTree) → IfAny (IfAny Near) (some_written_type looks t)
  some_near None = tt
  some_near (Some t) = type_near t

  some_same : (t : Option TypeTree) → some_written_type looks t ≡ some_written_type others t
  some_same None = refl
  some_same (Some t) = λ j. Some (type_same t j)

  some_used : (t : Option TypeTree) → some_type_uses looks t ≡ some_type_uses others t
  some_used None = refl
  some_used (Some t) = type_used Near Rest looks others law agree t

  some_breaks : (t : Option TypeTree) → some_type_faults looks t ≡ some_type_faults others t
  some_breaks None = refl
  some_breaks (Some t) = type_breaks t

  -- headers

  starred_near : (star : Option Span) (t : Option T) → IfAny Near t → IfAny Near (some_starred rules star t)
  starred_near None t h = h
  starred_near (Some star) None h = tt
  starred_near (Some star) (Some t) h = law.types.pointer_to t h

  starred_same : (star : Option Span) (t : Option T) → IfAny Near t → some_starred rules star t ≡ some_starred other_rules star t
  starred_same None t h = refl
  starred_same (Some star) None h = refl
  starred_same (Some star) (Some t) h = λ j. Some (agree.types.pointer_to t h j)

  receiver_near : (r : Receiver) → IfAny Near (receiver_type looks r)
  receiver_near r = starred_near r.star (denoting.named_type looks r.base) (named_near Near Rest looks others law agree r.base)

  receiver_same : (r : Receiver) → receiver_type looks r ≡ receiver_type others r
  receiver_same r =
      starred_same r.star (denoting.named_type looks r.base) (named_near Near Rest looks others law agree r.base) ∙ ap (some_starred other_rules r.star) (named_same Near Rest looks others law agree r.base)

  name_near : (x : Option Ident) (t : Option T) → IfAny Near t → Each (IfAny Near) (named_receiver x t)
  name_near None t h = tt
  name_near (Some x) t h = (h, tt)

  receivers_near : (r : Option Receiver) → Each (IfAny Near) (receiver_types looks r)
  receivers_near None = tt
  receivers_near (Some r) = name_near r.name (receiver_type looks r) (receiver_near r)

  receivers_same : (r : Option Receiver) → receiver_types looks r ≡ receiver_types others r
  receivers_same None = refl
  receivers_same (Some r) = λ j. named_receiver r.name (receiver_same r j)

  receivers_used : (r : Option Receiver) → receiver_uses looks r ≡ receiver_uses others r
  receivers_used None = refl
  receivers_used (Some r) = name_uses Near Rest looks others law agree r.base

  entry_near : (all : Bool) (xs : Option (Separated Ident)) (t : Option T) → IfAny Near t → Each (IfAny Near) (of_entry all xs t)
  entry_near all None t h = either (Each (IfAny Near)) all _ _ (h, tt) tt
  entry_near all (Some xs) t h = copies (IfAny Near) (length (idents xs)) t h

  entries_near : (all : Bool) (ps : ParamTrees) → Each (IfAny Near) (entry_types looks all ps)
  entries_near all NoParams = tt
  entries_near all (Param xs t comma rest) = each_both (IfAny Near) (of_entry all xs (denoting.written_type looks t)) (entry_types looks all rest) (entry_near all xs (denoting.written_type looks t) (type_near t)) (entries_near all rest)

  entries_same : (all : Bool) (ps : ParamTrees) → entry_types looks all ps ≡ entry_types others all ps
  entries_same all NoParams = refl
  entries_same all (Param xs t comma rest) = λ j. of_entry all xs (type_same t j) ++ entries_same all rest j

  results_near : (all : Bool) (r : ResultTree) → Each (IfAny Near) (types_of_result looks all r)
  results_near all NoResult = tt
  results_near all (OneResult t) = entry_near all None (denoting.written_type looks t) (type_near t)
  results_near all (Results first params last) = entries_near all params

  results_same : (all : Bool) (r : ResultTree) → types_of_result looks all r ≡ types_of_result others all r
  results_same all NoResult = refl
  results_same all (OneResult t) = λ j. of_entry all None (type_same t j)
  results_same all (Results first params last) = entries_same all params

  signature_near : (s : SignatureTree) → Each (IfAny Near) (types_of_signature looks s)
  signature_near (Signed first params last result) = each_both (IfAny Near) (entry_types looks false params) (types_of_result looks false result) (entries_near false params) (results_near false result)

  signature_same : (s : SignatureTree) → types_of_signature looks s ≡ types_of_signature others s
  signature_same (Signed first params last result) = λ j. entries_same false params j ++ results_same false result j

  pub returned_near : (s : SignatureTree) → Each (IfAny Near) (returned_types looks s)
  returned_near (Signed first _ last result) = results_near true result

  pub returned_same : (s : SignatureTree) → returned_types looks s ≡ returned_types others s
  returned_same (Signed first _ last result) = results_same true result

  params_break : (ps : ParamTrees) → params_faults looks ps ≡ params_faults others ps
  params_break NoParams = refl
  params_break (Param xs t comma rest) = λ j. type_breaks t j ++ params_break rest j

  result_breaks : (r : ResultTree) → result_faults looks r ≡ result_faults others r
  result_breaks NoResult = refl
  result_breaks (OneResult t) = type_breaks t
  result_breaks (Results first params last) = params_break params

  signature_breaks : (s : SignatureTree) → signature_faults looks s ≡ signature_faults others s
  signature_breaks (Signed first params last result) = λ j. params_break params j ++ result_breaks result j

  variables_near : (ts : List (Option T)) → Each (IfAny Near) ts → Each (IfAny (NearOperand Near)) (map variable ts)
  variables_near [] h = tt
  variables_near (None ∷ ts) h = (tt, variables_near ts h.1)
  variables_near (Some t ∷ ts) h = (h.0, variables_near ts h.1)

  -- specifications

  values_used : (es : Option (Span × Separated ExprTree)) → values_uses looks es ≡ values_uses others es
  values_used None = refl
  values_used (Some es) = list_used es.1

  values_break : (es : Option (Span × Separated ExprTree)) → values_faults looks es ≡ values_faults others es
  values_break None = refl
  values_break (Some es) = list_breaks es.1

  values_near : (es : Option (Span × Separated ExprTree)) → Each (NearArgument Near) (values_given looks es)
  values_near None = tt
  values_near (Some es) = given_near es.1

  values_same : (es : Option (Span × Separated ExprTree)) → values_given looks es ≡ values_given others es
  values_same None = refl
  values_same (Some es) = given_same es.1

  flat_near : (w : Option (Option T)) → IfAny (IfAny Near) w → IfAny Near (type_if_written w)
  flat_near None h = tt
  flat_near (Some t) h = h

  variables_break : (xs : Separated Ident) (t : Option TypeTree) (es : Option (Span × Separated ExprTree)) → variables_faults looks xs (some_written_type looks t) es ≡ variables_faults others xs (some_written_type others t) es
  variables_break xs t None = refl
  variables_break xs t (Some es) =
      ap (fault_at (names_start xs))
      (alike.variables rules other_rules (some_written_type looks t) (length (idents xs)) (is_unknown looks es.1) (given looks es.1)
      (each_given Near rules other_rules law.types agree.types (type_if_written (some_written_type looks t)) (given looks es.1) (flat_near (some_written_type looks t) (some_near t)) (given_near es.1))
      ∙ (λ j. variables_rule other_rules (some_same t j) (length (idents xs)) (unknown_same es.1 j) (given_same es.1 j)))

  variable_same : (xs : Separated Ident) (t : Option TypeTree) (es : Option (Span × Separated ExprTree)) → variable_types looks xs (some_written_type looks t) es ≡ variable_types others xs (some_written_type others t) es
  variable_same xs t es =
      alike.types rules other_rules (some_written_type looks t) (length (idents xs)) (values_given looks es) (each_type Near rules other_rules law.types agree.types (values_given looks es))
      ∙ (λ j. declared_types other_rules (some_same t j) (length (idents xs)) (values_same es j))

  -- outside functions what is no constant is refused

  initial_near : (a : Argument T) → NearArgument Near a → NearArgument Near (initial_argument a)
  initial_near arguments.Refused h = tt
  initial_near arguments.Void h = tt
  initial_near (arguments.«Value» o) h = either (NearArgument Near) (is_some o.constant) (arguments.«Value» o) arguments.Refused h tt

  initials_near : (given : List (Argument T)) → Each (NearArgument Near) given → Each (NearArgument Near) (map initial_argument given)
  initials_near [] h = tt
  initials_near (a ∷ given) h = (initial_near a h.0, initials_near given h.1)

  initials_break : (xs : Separated Ident) (t : Option TypeTree) (es : Option (Span × Separated ExprTree)) → initials_faults looks xs (some_written_type looks t) es ≡ initials_faults others xs (some_written_type others t) es
  initials_break xs t None = refl
  initials_break xs t (Some es) =
      let initial : List (Argument T) = map initial_argument (given looks es.1) in
      ap (fault_at (names_start xs))
      (alike.variables rules other_rules (some_written_type looks t) (length (idents xs)) (is_call_alone es.1 && not (list_all is_initial (given looks es.1))) initial
      (each_given Near rules other_rules law.types agree.types (type_if_written (some_written_type looks t)) initial (flat_near (some_written_type looks t) (some_near t)) (initials_near (given looks es.1) (given_near es.1)))
      ∙ (λ j. initials_rule other_rules (some_same t j) (length (idents xs)) (is_call_alone es.1) (given_same es.1 j)))

  initial_same : (n : ℕ) (t : Option TypeTree) (es : Option (Span × Separated ExprTree)) → initial_types rules (some_written_type looks t) n (values_given looks es) ≡ initial_types other_rules (some_written_type others t) n (values_given others es)
  initial_same n t es =
      let initial : List (Argument T) = map initial_argument (values_given looks es) in
      alike.types rules other_rules (some_written_type looks t) n initial (each_type Near rules other_rules law.types agree.types initial)
      ∙ (λ j. initial_types other_rules (some_same t j) n (values_same es j))

  answer_same : (t : Option TypeTree) (a : Argument T) → NearArgument Near a → constant_answer rules (some_written_type looks t) a ≡ constant_answer other_rules (some_written_type others t) a
  answer_same t a h =
      alike.constants rules other_rules (some_written_type looks t) a
      (form_alike Near rules other_rules law.types agree.types (type_if_written (some_written_type looks t)) (flat_near (some_written_type looks t) (some_near t)))
      (under_alike Near rules other_rules law.types agree.types a h)
      (wanted_alike Near rules other_rules law.types agree.types (type_if_written (some_written_type looks t)) a (flat_near (some_written_type looks t) (some_near t)) h)
      ∙ (λ j. constant_answer other_rules (some_same t j) a)

  each_breaks : (t : Option TypeTree) (first : ℕ) (es : Separated ExprTree) (given : List (Argument T)) → Each (NearArgument Near) given
      → each_constant_faults rules (some_written_type looks t) first es given ≡ each_constant_faults other_rules (some_written_type others t) first es given
  each_breaks t first es [] h = refl
  each_breaks t first es (a ∷ given) h = λ j. constant_fault first (list_start es) (answer_same t a h.0 j).rule ++ each_breaks t first (behind es) given h.1 j

  constants_break : (xs : Separated Ident) (t : Option TypeTree) (es : Option (Span × Separated ExprTree)) → constants_faults looks xs (some_written_type looks t) es ≡ constants_faults others xs (some_written_type others t) es
  constants_break xs t None = refl
  constants_break xs t (Some es) =
      let count = constants_same Near rules other_rules law.types agree.types (is_call_alone es.1) (length (idents xs)) (given looks es.1) (given_near es.1) ∙ ap (constants_rule other_rules (is_call_alone es.1) (length (idents xs))) (given_same es.1) in
      let each = each_breaks t (names_start xs) es.1 (given looks es.1) (given_near es.1) ∙ ap (each_constant_faults other_rules (some_written_type others t) (names_start xs) es.1) (given_same es.1) in
      λ j. fault_at (names_start xs) (count j) ++ each j

  each_value : (t : Option TypeTree) (given : List (Argument T)) → Each (NearArgument Near) given → map (constant_value rules (some_written_type looks t)) given ≡ map (constant_value other_rules (some_written_type others t)) given
  each_value t [] h = refl
  each_value t (a ∷ given) h = λ j. (answer_same t a h.0 j).value ∷ each_value t given h.1 j

  constant_values_same : (t : Option TypeTree) (n : ℕ) (given : List (Argument T)) → Each (NearArgument Near) given → constant_values rules (some_written_type looks t) n given ≡ constant_values other_rules (some_written_type others t) n given
  constant_values_same t n given h = λ j. if n == length given then each_value t given h j else replicate n ((answer_same t arguments.Refused tt j).value)

  each_value_near : (t : Option TypeTree) (given : List (Argument T)) → Each (NearArgument Near) given → Each (IfAny (NearOperand Near)) (map (constant_value rules (some_written_type looks t)) given)
  each_value_near t [] h = tt
  each_value_near t (a ∷ given) h = (constant_near Near rules other_rules law.types agree.types (some_written_type looks t) a (some_near t) h.0, each_value_near t given h.1)

  constant_values_near : (t : Option TypeTree) (n : ℕ) (given : List (Argument T)) → Each (NearArgument Near) given → Each (IfAny (NearOperand Near)) (constant_values rules (some_written_type looks t) n given)
  constant_values_near t n given h =
      either (Each (IfAny (NearOperand Near))) (n == length given) _ _ (each_value_near t given h)
      (copies (IfAny (NearOperand Near)) n (constant_value rules (some_written_type looks t) arguments.Refused) (constant_near Near rules other_rules law.types agree.types (some_written_type looks t) arguments.Refused (some_near t) tt))

  own_breaks : (k : ValueKind) (xs : Separated Ident) (t : Option TypeTree) (es : Option (Span × Separated ExprTree)) → own_faults looks k xs (some_written_type looks t) es ≡ own_faults others k xs (some_written_type others t) es
  own_breaks kinds.Const xs t es = constants_break xs t es
  own_breaks kinds.Var xs t es = variables_break xs t es

  spec_breaks : (k : ValueKind) (v : ValueSpecTree) → spec_faults looks k v ≡ spec_faults others k v
  spec_breaks k v = λ j. some_breaks v.type_expr j ++ (values_break v.values j ++ own_breaks k v.names v.type_expr v.values j)

  names_same : (k : ValueKind) (xs : Separated Ident) (t : Option TypeTree) (es : Option (Span × Separated ExprTree)) → names_values looks k xs (some_written_type looks t) es ≡ names_values others k xs (some_written_type others t) es
  names_same kinds.Const xs t es =
      constant_values_same t (length (idents xs)) (values_given looks es) (values_near es) ∙ ap (constant_values other_rules (some_written_type others t) (length (idents xs))) (values_same es)
  names_same kinds.Var xs t es = ap (map variable) (variable_same xs t es)

  names_near : (k : ValueKind) (xs : Separated Ident) (t : Option TypeTree) (es : Option (Span × Separated ExprTree)) → Each (IfAny (NearOperand Near)) (names_values looks k xs (some_written_type looks t) es)
  names_near kinds.Const xs t es = constant_values_near t (length (idents xs)) (values_given looks es) (values_near es)
  names_near kinds.Var xs t es =
      variables_near (variable_types looks xs (some_written_type looks t) es) (declared_near Near rules other_rules law.types agree.types (some_written_type looks t) (length (idents xs)) (values_given looks es) (some_near t) (values_near es))

  -- specifications outside functions

  outer_own : (k : ValueKind) (xs : Separated Ident) (t : Option TypeTree) (es : Option (Span × Separated ExprTree)) → own_outer_faults looks k xs (some_written_type looks t) es ≡ own_outer_faults others k xs (some_written_type others t) es
  outer_own kinds.Const xs t es = constants_break xs t es
  outer_own kinds.Var xs t es = initials_break xs t es

  outer_breaks : (k : ValueKind) (v : ValueSpecTree) → outer_faults looks k v ≡ outer_faults others k v
  outer_breaks k v = λ j. some_breaks v.type_expr j ++ (values_break v.values j ++ outer_own k v.names v.type_expr v.values j)

  outer_same : (k : ValueKind) (v : ValueSpecTree) → outer_values looks k v ≡ outer_values others k v
  outer_same kinds.Const v = names_same kinds.Const v.names v.type_expr v.values
  outer_same kinds.Var v = ap (map variable) (initial_same (length (idents v.names)) v.type_expr v.values)

  outer_near : (k : ValueKind) (v : ValueSpecTree) → Each (IfAny (NearOperand Near)) (outer_values looks k v)
  outer_near kinds.Const v = names_near kinds.Const v.names v.type_expr v.values
  outer_near kinds.Var v =
      let n = length (idents v.names) in
      let initial : List (Argument T) = map initial_argument (values_given looks v.values) in
      variables_near (initial_types rules (some_written_type looks v.type_expr) n (values_given looks v.values))
      (declared_near Near rules other_rules law.types agree.types (some_written_type looks v.type_expr) n initial (some_near v.type_expr) (initials_near (values_given looks v.values) (values_near v.values)))

  pub outer_nearby : (k : ValueKind) (v : ValueSpecTree) → IsOuterNearby Near looks others k v
  outer_nearby k v = record { near = outer_near k v; values = outer_same k v; faults = outer_breaks k v }

  -- targets

  left_near : (several : Bool) (e : ExprTree) → NearTarget Near (target looks several e)
  left_near several e = either (NearTarget Near) (is_blank_target e) _ _ tt (target_near Near rules other_rules law.types agree.types Rest (denoted looks stands.«Value» e) (not several) (value_near e))

  left_same : (several : Bool) (e : ExprTree) → target looks several e ≡ target others several e
  left_same several e = λ j. if is_blank_target e then targets.Blank else target_of (value_same e j) (not several)

  lefts_near : (several : Bool) (ts : Separated ExprTree) → Each (NearTarget Near) (lefts.targets looks several ts)
  lefts_near several (One e) = (left_near several e, tt)
  lefts_near several (Then e comma more) = (left_near several e, lefts_near several more)

  lefts_same : (several : Bool) (ts : Separated ExprTree) → lefts.targets looks several ts ≡ lefts.targets others several ts
  lefts_same several (One e) = λ j. left_same several e j ∷ []
  lefts_same several (Then e comma more) = λ j. left_same several e j ∷ lefts_same several more j

  left_used : (e : ExprTree) → target_uses looks e ≡ target_uses others e
  left_used e = λ j. if is_blank_target e then [] else value_used e j

  lefts_used : (ts : Separated ExprTree) → targets_uses looks ts ≡ targets_uses others ts
  lefts_used (One e) = left_used e
  lefts_used (Then e comma more) = λ j. left_used e j ++ lefts_used more j

  left_breaks : (several : Bool) (e : ExprTree) → target_faults looks several e ≡ target_faults others several e
  left_breaks several e = λ j. if is_blank_target e then [] else member_breaks several e j

  lefts_break : (several : Bool) (ts : Separated ExprTree) → targets_faults looks several ts ≡ targets_faults others several ts
  lefts_break several (One e) = left_breaks several e
  lefts_break several (Then e comma more) = λ j. left_breaks several e j ++ lefts_break several more j

  old_near : (x : Ident) → NearTarget Near (old_target looks x)
  old_near x = target_near Near rules other_rules law.types agree.types Rest (ident_answer looks stands.«Value» x).denoted true (ident_near Near Rest looks others law agree stands.«Value» x)

  old_same : (x : Ident) → old_target looks x ≡ old_target others x
  old_same x = λ j. target_of (ident_same Near Rest looks others law agree stands.«Value» x j).denoted true

  new_near : (first : Bool) (before : List (List ℕ)) (x : Ident) → NearTarget Near (short_target looks first before x)
  new_near first before x = either (NearTarget Near) (is_blank x.name) _ _ tt (either (NearTarget Near) first _ _ tt (either (NearTarget Near) (is_listed before x.name) _ _ tt (old_near x)))

  new_same : (first : Bool) (before : List (List ℕ)) (x : Ident) → short_target looks first before x ≡ short_target others first before x
  new_same first before x = λ j. if is_blank x.name then targets.Blank else (if first then targets.New else (if is_listed before x.name then targets.New else old_same x j))

  news_near : (firsts : List Bool) (before : List (List ℕ)) (xs : List Ident) → Each (NearTarget Near) (short_targets looks firsts before xs)
  news_near firsts before [] = tt
  news_near firsts before (x ∷ xs) = (new_near (flag_of firsts) before x, news_near (flags_behind firsts) (list_name before x.name) xs)

  news_same : (firsts : List Bool) (before : List (List ℕ)) (xs : List Ident) → short_targets looks firsts before xs ≡ short_targets others firsts before xs
  news_same firsts before [] = refl
  news_same firsts before (x ∷ xs) = λ j. new_same (flag_of firsts) before x j ∷ news_same (flags_behind firsts) (list_name before x.name) xs j

  -- statements

  callee_same : (e : ExprTree) → callee_of looks e ≡ callee_of others e
  callee_same (Call e first items last) = λ j. Some (denoted_same Near Rest looks others law agree stands.Callee e j)
  callee_same (Paren first e last) = callee_same e
  callee_same (Integer n span) = refl
  callee_same (Text t) = refl
  callee_same (Named x) = refl
  callee_same (Unary op span e) = refl
  callee_same (Binary a op span b) = refl
  callee_same (Select e dot x) = refl
  callee_same (Literal n first items last) = refl
  callee_same (StructLiteral t first items last) = refl

  operand_near : (e : ExprTree) → NearArgument Near (operand_argument looks e)
  operand_near e = argument_near Near Rest looks law (denoted looks stands.«Value» e) (value_near e)

  operand_same : (e : ExprTree) → operand_argument looks e ≡ operand_argument others e
  operand_same e = ap argument_of (value_same e)

  assigned_same : (ts : List (Target T)) (us : List (Target T)) (es : Separated ExprTree) → ts ≡ us → Each (NearTarget Near) ts
      → assignment_rule rules ts (is_unknown looks es) (given looks es) ≡ assignment_rule other_rules us (is_unknown others es) (given others es)
  assigned_same ts us es same h =
      alike.assignments rules other_rules ts (is_unknown looks es) (given looks es) (pairs_alike Near rules other_rules law.types agree.types ts (given looks es) h (given_near es))
      ∙ (λ j. assignment_rule other_rules (same j) (unknown_same es j) (given_same es j))

  simple_used : (s : SimpleTree) → simple_uses looks s ≡ simple_uses others s
  simple_used (Alone e) = value_used e
  simple_used (Step e op span) = value_used e
  simple_used (Assign ts span es) = λ j. lefts_used ts j ++ list_used es j
  simple_used (Update e op span v) = λ j. value_used e j ++ value_used v j
  simple_used (Define xs span es) = list_used es

  simple_breaks : (firsts : List Bool) (s : SimpleTree) → simple_faults looks firsts s ≡ simple_faults others firsts s
  simple_breaks firsts (Alone e) = λ j. value_faults e j ++ fault_at (start e) (statement_rule (callee_same e j) (value_same e j))
  simple_breaks firsts (Step e op span) =
      let rule = increment_same Near rules other_rules law.types agree.types (operand_argument looks e) (operand_near e) ∙ ap (increment_rule other_rules) (operand_same e) in
      λ j. operand_breaks e j ++ fault_at (start e) (rule j)
  simple_breaks firsts (Assign ts span es) =
      λ j. lefts_break (is_list ts) ts j ++ (list_breaks es j ++ fault_at (list_start ts) (assigned_same (lefts.targets looks (is_list ts) ts) (lefts.targets others (is_list ts) ts) es (lefts_same (is_list ts) ts) (lefts_near (is_list ts) ts) j))
  simple_breaks firsts (Update e op span v) =
      let rule = update_same Near rules other_rules law.types agree.types op (operand_argument looks e) (operand_argument looks v) (operand_near e) (operand_near v) ∙ (λ j. update_rule other_rules op (operand_same e j) (operand_same v j)) in
      λ j. operand_breaks e j ++ (operand_breaks v j ++ fault_at (start e) (rule j))
  simple_breaks firsts (Define xs span es) =
      λ j. list_breaks es j ++ fault_at (names_start xs) (assigned_same (short_targets looks firsts [] (idents xs)) (short_targets others firsts [] (idents xs)) es (news_same firsts [] (idents xs)) (news_near firsts [] (idents xs)) j)

  short_same : (firsts : List Bool) (xs : Separated Ident) (es : Separated ExprTree) → short_name_types looks firsts xs es ≡ short_name_types others firsts xs es
  short_same firsts xs es =
      alike.short rules other_rules (short_targets looks firsts [] (idents xs)) (given looks es) (each_type Near rules other_rules law.types agree.types (given looks es))
      ∙ (λ j. short_types other_rules (news_same firsts [] (idents xs) j) (given_same es j))

  simple_same : (firsts : List Bool) (s : SimpleTree) → simple_values looks firsts s ≡ simple_values others firsts s
  simple_same firsts (Alone e) = refl
  simple_same firsts (Step e op span) = refl
  simple_same firsts (Assign ts span es) = refl
  simple_same firsts (Update e op span v) = refl
  simple_same firsts (Define xs span es) = ap (map variable) (short_same firsts xs es)

  simple_near : (firsts : List Bool) (s : SimpleTree) → Each (IfAny (NearOperand Near)) (simple_values looks firsts s)
  simple_near firsts (Alone e) = tt
  simple_near firsts (Step e op span) = tt
  simple_near firsts (Assign ts span es) = tt
  simple_near firsts (Update e op span v) = tt
  simple_near firsts (Define xs span es) =
      variables_near (short_name_types looks firsts xs es) (short_near Near rules other_rules law.types agree.types (short_targets looks firsts [] (idents xs)) (given looks es) (news_near firsts [] (idents xs)) (given_near es))

  -- pieces

  piece_used : (p : Piece) → piece_uses looks p ≡ piece_uses others p
  piece_used (Header r s) = λ j. receivers_used r j ++ signature_used Near Rest looks others law agree s j
  piece_used (Spec kind v) = λ j. some_used v.type_expr j ++ values_used v.values j
  piece_used (Act s) = simple_used s
  piece_used (Condition e) = value_used e
  piece_used (Given place None) = refl
  piece_used (Given place (Some es)) = list_used es

  condition_same : (e : ExprTree) → condition_rule rules (denoted looks stands.«Value» e) ≡ condition_rule other_rules (denoted others stands.«Value» e)
  condition_same e =
      alike.conditions rules other_rules (denoted looks stands.«Value» e) (condition_alike Near rules other_rules law.types agree.types Rest (denoted looks stands.«Value» e) (value_near e))
      ∙ ap (condition_rule other_rules) (value_same e)

  piece_breaks : (results : List (Option T)) (has_names : Bool) (firsts : List Bool) (p : Piece) → Each (IfAny Near) results → piece_faults looks results has_names firsts p ≡ piece_faults others results has_names firsts p
  piece_breaks results has_names firsts (Header r s) h = signature_breaks s
  piece_breaks results has_names firsts (Spec kind v) h = spec_breaks kind v
  piece_breaks results has_names firsts (Act s) h = simple_breaks firsts s
  piece_breaks results has_names firsts (Condition e) h = λ j. value_faults e j ++ fault_at (start e) (condition_same e j)
  piece_breaks results has_names firsts (Given place None) h =
      ap (fault_at place.start) (alike.returns rules other_rules results has_names false [] (results_alike Near rules other_rules law.types agree.types results [] h tt))
  piece_breaks results has_names firsts (Given place (Some es)) h =
      let rule = alike.returns rules other_rules results has_names (is_unknown looks es) (given looks es) (results_alike Near rules other_rules law.types agree.types results (given looks es) h (given_near es))
      ∙ (λ j. return_rule other_rules results has_names (unknown_same es j) (given_same es j)) in
      λ j. list_breaks es j ++ fault_at place.start (rule j)

  piece_same : (firsts : List Bool) (p : Piece) → piece_values looks firsts p ≡ piece_values others firsts p
  piece_same firsts (Header r s) = λ j. map variable (receivers_same r j ++ signature_same s j)
  piece_same firsts (Spec kind v) = names_same kind v.names v.type_expr v.values
  piece_same firsts (Act s) = simple_same firsts s
  piece_same firsts (Condition e) = refl
  piece_same firsts (Given place es) = refl

  piece_near : (firsts : List Bool) (p : Piece) → Each (IfAny (NearOperand Near)) (piece_values looks firsts p)
  piece_near firsts (Header r s) = variables_near (header_types looks r s) (each_both (IfAny Near) (receiver_types looks r) (types_of_signature looks s) (receivers_near r) (signature_near s))
  piece_near firsts (Spec kind v) = names_near kind v.names v.type_expr v.values
  piece_near firsts (Act s) = simple_near firsts s
  piece_near firsts (Condition e) = tt
  piece_near firsts (Given place es) = tt

  pub pieces_nearby : (p : Piece) → IsPieceNearby Near looks others p
  pieces_nearby p = record {
    near = λ firsts. piece_near firsts p;
    values = λ firsts. piece_same firsts p;
    uses = piece_used p;
    faults = λ results has_names firsts h. piece_breaks results has_names firsts p h;
  }
