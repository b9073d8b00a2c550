-- A piece looks at the names in it and at the types that it writes alone.
use Rattle.std.proofs.Common.{◌≡◌, ℕ, Bool, true, false, not, List, [], ◌∷◌, ◌++◌, map, length, refl, sym, ap, ◌∙◌}
use Rattle.std.specs.Prelude.{Option, Some, None, if◌then◌else◌}
use Rattle.go_constant_core.specs.text_core.Text.{is_blank}
use Rattle.go_constant_core.specs.text_core.declared.span.Span.{Span}
use Rattle.go_tree_nodes.specs.declared.names.Ident.{Ident}
use Rattle.go_tree_nodes.specs.declared.types.TypeName.{TypeName}
use Rattle.go_tree_nodes.specs.declared.types.TypeName.TheVariants as type_names
use Rattle.go_tree_nodes.specs.declared.decls.ValueKind.{ValueKind}
use Rattle.go_tree_nodes.specs.declared.decls.ValueKind.TheVariants as kinds
use Rattle.go_tree_nodes.specs.declared.files.Receiver.{Receiver}
use Rattle.go_tree_nodes.specs.Trees.{Separated, One, Then, TypeTree, ExprTree, ValueSpecTree, Integer, Text, Named, Paren, Unary, Binary, Select, Call, Literal, StructLiteral, NoItems, SignatureTree, ResultTree, ParamTrees, Signed, NoResult, OneResult, Results, NoParams, Param, SimpleTree, Alone, Step, Assign, Update, Define}
use Rattle.go_tree_nodes.specs.WrittenTypes.{params_types, result_types, signature_types, some_type, values_types, simple_types, exprs_types, expr_types, items_types}
use Rattle.go_expr_core.specs.scope_stack.Blocks.{is_listed, list_name}
use Rattle.go_expr_core.specs.local_core.WalksEnds.{is_blank_target}
use Rattle.go_expr_core.specs.local_core.Steps.{Piece, Header, Spec, Act, Condition, Given}
use Rattle.go_expr_core.specs.local_core.Outline as outline
use Rattle.go_expr_core.specs.local_core.Pieces.{piece_types}
use Rattle.go_expr_core.specs.denote_core.declared.things.Stand.TheVariants as stands
use Rattle.go_expr_core.specs.denote_core.declared.things.Denoted.{Denoted}
use Rattle.go_expr_core.specs.denote_core.declared.things.Denoted.TheVariants as denotes
use Rattle.go_expr_core.specs.denote_core.declared.things.Argument.{Argument}
use Rattle.go_expr_core.specs.denote_core.declared.things.Found.{Found}
use Rattle.go_expr_core.specs.denote_core.Arguments.{argument_of, arguments_of, is_free, single_rule}
use Rattle.go_expr_core.specs.denote_core.CompositeLiterals.{literal_type}
use Rattle.go_stmt_core.specs.declared.statement.targets.Target.TheVariants as targets_are
use Rattle.go_stmt_core.specs.statement.Targets.{target_of}
use Rattle.go_stmt_core.specs.statement.Assignments.{assignment_rule}
use Rattle.go_stmt_core.specs.statement.Declarations.{declared_types, variables_rule, initials_rule, short_types}
use Rattle.go_stmt_core.specs.statement.Constants.{constants_rule}
use Rattle.go_stmt_core.specs.statement.Returns.{return_rule}
use Rattle.go_stmt_core.specs.statement.Statements.{statement_rule, condition_rule}
use Rattle.go_stmt_core.specs.statement.Updates.{update_rule, increment_rule}
use Rattle.go_expr_core.specs.Looks.{Looks, WrittenRules, look_of_place}
use Rattle.go_expr_core.specs.Places.{start}
use Rattle.go_expr_core.specs.Denoting.{denoted, named_type, written_type}
use Rattle.go_expr_core.specs.Uses.{uses, type_name_uses, params_spots, result_spots, type_spots, use_of}
use Rattle.go_expr_core.specs.TypeUses.{type_uses, signature_uses, result_uses, params_uses}
use Rattle.go_expr_core.specs.Faults.{fault_at, listed_rule, operand_faults, member_faults}
use Rattle.go_expr_core.specs.Lists.{is_list, denoted_exprs, exprs_uses, exprs_faults}
use Rattle.go_expr_core.specs.Laws as expressions
use Rattle.go_expr_core.specs.Laws.{AgreeOnIdents, Same}
use Rattle.go_expr_core.specs.Locality.{SameType, SameWritten, seeing}
use Rattle.go_expr_core.proofs.Alike.{agree_left, agree_right, pieces, expressions_seen}
use Rattle.std.proofs.lemmas.List.{map-append}
use Rattle.std.proofs.Common.{append-nil}
use Rattle.go_stmt_core.specs.piece.Values.{variable, is_call_alone, list_start, given, is_unknown}
use Rattle.go_stmt_core.specs.piece.Types.{type_faults, some_written_type, some_type_uses, some_type_faults}
use Rattle.go_stmt_core.specs.piece.Targets.{target, target_uses, target_faults, targets, targets_uses, targets_faults, old_target, short_target, flag_of, flags_behind, short_targets}
use Rattle.go_stmt_core.specs.piece.Specifications.{names_start, values_uses, values_faults, values_given, variables_faults, each_constant_faults, constants_faults, constant_values, own_faults, names_values, initials_faults, own_outer_faults, outer_values_of}
use Rattle.go_stmt_core.specs.piece.Headers.{receiver_uses, some_starred, named_receiver, receiver_types, of_entry, entry_types, types_of_result, types_of_signature, params_faults, result_faults, signature_faults}
use Rattle.go_stmt_core.specs.piece.Statements.{callee_of, operand_argument, simple_uses, simple_faults}
use Rattle.go_stmt_core.specs.piece.Pieces.{simple_values}
use Rattle.go_stmt_core.specs.piece.Laws as laws
use Rattle.go_stmt_core.specs.piece.Laws.{SamePiece, SameOuter, PiecesAreLocal, OuterIsLocal}
use Rattle.go_tree_nodes.specs.Idents.{type_name_idents, type_idents, signature_type_idents, result_type_idents, params_idents, expr_idents, items_idents, receiver_type_idents, some_type_idents, list_idents}
use Rattle.go_expr_core.specs.local_core.WalksPieceIdents.{values_idents, target_idents, targets_idents}

module _ {T S D P : Type 0} (looks : Looks T S D P) (find : List ℕ → ℕ → Found T S D) (written : WrittenRules T) where
  abbrev other : Looks T S D P
  other = seeing find written looks

  abbrev Finds : List Ident → Type 0
  Finds xs = AgreeOnIdents looks.find find xs

  abbrev Makes : List TypeTree → Type 0
  Makes ts = SameWritten looks other ts

  -- the names agree, and the types are made alike
  abbrev Both : List Ident → List TypeTree → Type 0
  Both xs ts = Finds xs × Makes ts

  makes_left : (ts us : List TypeTree) → Makes (ts ++ us) → Makes ts
  makes_left [] us h = tt
  makes_left (t ∷ ts) us h = (h.0, makes_left ts us h.1)

  makes_right : (ts us : List TypeTree) → Makes (ts ++ us) → Makes us
  makes_right [] us h = h
  makes_right (t ∷ ts) us h = makes_right ts us h.1

  left : (xs ys : List Ident) (ts us : List TypeTree) → Both (xs ++ ys) (ts ++ us) → Both xs ts
  left xs ys ts us h = (agree_left looks.find find xs ys h.0, makes_left ts us h.1)

  right : (xs ys : List Ident) (ts us : List TypeTree) → Both (xs ++ ys) (ts ++ us) → Both ys us
  right xs ys ts us h = (agree_right looks.find find xs ys h.0, makes_right ts us h.1)

  abbrev SameExpr : ExprTree → Type 0
  SameExpr e = Same T S D P looks other stands.«Value» e

  expr_same : (e : ExprTree) → Both (expr_idents e) (expr_types e) → SameExpr e
  expr_same e h = (expressions_seen T S D P).whole looks find written stands.«Value» e h.0 h.1

  -- types

  name_used : (n : TypeName) → Finds (type_name_idents n) → type_name_uses looks n ≡ type_name_uses other n
  name_used (type_names.Plain x) h = ((expressions_seen T S D P).whole looks find written stands.«Type» (Named x) h tt).uses
  name_used (type_names.Qualified p dot x) h = ((expressions_seen T S D P).whole looks find written stands.«Type» (Select (Named p) dot x) h tt).uses

  name_same : (n : TypeName) → Finds (type_name_idents n) → named_type looks n ≡ named_type other n
  name_same (type_names.Plain x) h = ap literal_type ((expressions_seen T S D P).whole looks find written stands.«Type» (Named x) h tt).denoted
  name_same (type_names.Qualified p dot x) h = ap literal_type ((expressions_seen T S D P).whole looks find written stands.«Type» (Select (Named p) dot x) h tt).denoted

  with_nothing : (xs : List Ident) → Finds xs → Finds (xs ++ [])
  with_nothing [] h = tt
  with_nothing (x ∷ xs) h = (h.0, with_nothing xs h.1)

  -- the names in a type are those of a literal of it
  type_used : (t : TypeTree) → Finds (type_idents t) → Makes (t ∷ []) → type_uses looks t ≡ type_uses other t
  type_used t h k =
      let nowhere : Span = record { start = 0; end = 0 } in
      ap (map (use_of looks)) (sym (append-nil (type_spots looks t)))
      ∙ (((expressions_seen T S D P).whole looks find written stands.«Value» (StructLiteral t nowhere NoItems nowhere) (with_nothing (type_idents t) h) k).uses
      ∙ ap (map (use_of other)) (append-nil (type_spots other t)))

  params_used : (ps : ParamTrees) → Finds (params_idents ps) → Makes (params_types ps) → params_uses looks ps ≡ params_uses other ps
  params_used NoParams h k = refl
  params_used (Param xs t comma rest) h k =
      map-append (use_of looks) (type_spots looks t) (params_spots looks rest)
      ∙ (pieces (type_uses looks t) (params_uses looks rest) (type_uses other t) (params_uses other rest) (type_used t (agree_left looks.find find (type_idents t) (params_idents rest) h) (k.0, tt)) (params_used rest (agree_right looks.find find (type_idents t) (params_idents rest) h) k.1)
      ∙ sym (map-append (use_of other) (type_spots other t) (params_spots other rest)))

  result_used : (r : ResultTree) → Finds (result_type_idents r) → Makes (result_types r) → result_uses looks r ≡ result_uses other r
  result_used NoResult h k = refl
  result_used (OneResult t) h k = type_used t h k
  result_used (Results first params last) h k = params_used params h k

  signature_used : (s : SignatureTree) → Finds (signature_type_idents s) → Makes (signature_types s) → signature_uses looks s ≡ signature_uses other s
  signature_used (Signed first params last result) h k =
      map-append (use_of looks) (params_spots looks params) (result_spots looks result)
      ∙ (pieces (params_uses looks params) (result_uses looks result) (params_uses other params) (result_uses other result)
      (params_used params (agree_left looks.find find (params_idents params) (result_type_idents result) h) (makes_left (params_types params) (result_types result) k))
      (result_used result (agree_right looks.find find (params_idents params) (result_type_idents result) h) (makes_right (params_types params) (result_types result) k))
      ∙ sym (map-append (use_of other) (params_spots other params) (result_spots other result)))

  params_noted : (ps : ParamTrees) → Makes (params_types ps) → params_faults looks ps ≡ params_faults other ps
  params_noted NoParams k = refl
  params_noted (Param xs t comma rest) k = pieces (type_faults looks t) (params_faults looks rest) (type_faults other t) (params_faults other rest) k.0.faults_of (params_noted rest k.1)

  result_noted : (r : ResultTree) → Makes (result_types r) → result_faults looks r ≡ result_faults other r
  result_noted NoResult k = refl
  result_noted (OneResult t) k = k.0.faults_of
  result_noted (Results first params last) k = params_noted params k

  signature_noted : (s : SignatureTree) → Makes (signature_types s) → signature_faults looks s ≡ signature_faults other s
  signature_noted (Signed first params last result) k =
      pieces (params_faults looks params) (result_faults looks result) (params_faults other params) (result_faults other result)
      (params_noted params (makes_left (params_types params) (result_types result) k)) (result_noted result (makes_right (params_types params) (result_types result) k))

  entries_same : (ps : ParamTrees) → Makes (params_types ps) → entry_types looks false ps ≡ entry_types other false ps
  entries_same NoParams k = refl
  entries_same (Param xs t comma rest) k =
      pieces (of_entry false xs (written_type looks t)) (entry_types looks false rest) (of_entry false xs (written_type other t)) (entry_types other false rest) (ap (of_entry false xs) k.0.type_of) (entries_same rest k.1)

  results_same : (r : ResultTree) → Makes (result_types r) → types_of_result looks false r ≡ types_of_result other false r
  results_same NoResult k = refl
  results_same (OneResult t) k = refl
  results_same (Results first params last) k = entries_same params k

  signature_same : (s : SignatureTree) → Makes (signature_types s) → types_of_signature looks s ≡ types_of_signature other s
  signature_same (Signed first params last result) k =
      pieces (entry_types looks false params) (types_of_result looks false result) (entry_types other false params) (types_of_result other false result)
      (entries_same params (makes_left (params_types params) (result_types result) k)) (results_same result (makes_right (params_types params) (result_types result) k))

  receiver_used : (r : Option Receiver) → Finds (receiver_type_idents r) → receiver_uses looks r ≡ receiver_uses other r
  receiver_used None h = refl
  receiver_used (Some r) h = name_used r.base h

  receiver_same : (r : Option Receiver) → Finds (receiver_type_idents r) → receiver_types looks r ≡ receiver_types other r
  receiver_same None h = refl
  receiver_same (Some r) h = ap (λ t. named_receiver r.name (some_starred looks.types r.star t)) (name_same r.base h)

  -- lists of expressions

  record SameList (es : Separated ExprTree) : Type 0 where
    denoted : denoted_exprs looks es ≡ denoted_exprs other es
    uses : exprs_uses looks es ≡ exprs_uses other es
    faults : (b : Bool) → exprs_faults looks b es ≡ exprs_faults other b es

  member_same : (b : Bool) (e : ExprTree) → SameExpr e → member_faults looks b e ≡ member_faults other b e
  member_same b e s = pieces _ _ _ _ s.faults (ap (λ d. fault_at (start e) (listed_rule b d)) s.denoted)

  operand_same : (e : ExprTree) → SameExpr e → operand_faults looks stands.«Value» e ≡ operand_faults other stands.«Value» e
  operand_same e s = pieces _ _ _ _ s.faults (ap (λ d. fault_at (start e) (single_rule d)) s.denoted)

  list_same : (es : Separated ExprTree) → Both (list_idents es) (exprs_types es) → SameList es
  list_same (One e) h = let s = expr_same e h in record { denoted = ap (λ d. d ∷ []) s.denoted; uses = s.uses; faults = λ b. member_same b e s }
  list_same (Then e comma more) h =
      let s = expr_same e (left (expr_idents e) (list_idents more) (expr_types e) (exprs_types more) h) in
      let rest = list_same more (right (expr_idents e) (list_idents more) (expr_types e) (exprs_types more) h) in
      record {
        denoted = ap (λ d. d ∷ denoted_exprs looks more) s.denoted ∙ ap (λ l. denoted other stands.«Value» e ∷ l) rest.denoted;
        uses = pieces _ _ _ _ s.uses rest.uses;
        faults = λ b. pieces _ _ _ _ (member_same b e s) (rest.faults b);
      }

  arguments_same : (o : ℕ) (ds : List (Denoted T S D)) → arguments_of (look_of_place looks o) ds ≡ arguments_of (look_of_place other o) ds
  arguments_same o [] = refl
  arguments_same o (denotes.Refused ∷ []) = refl
  arguments_same o (denotes.Typeless ∷ []) = refl
  arguments_same o (denotes.«Package» d ∷ []) = refl
  arguments_same o (denotes.«Type» d t ∷ []) = refl
  arguments_same o (denotes.«Value» v ∷ []) = refl
  arguments_same o (denotes.Several s ∷ []) = refl
  arguments_same o (denotes.Nothing ∷ []) = refl
  arguments_same o (denotes.Func d s ∷ []) = refl
  arguments_same o (denotes.Builtin d b ∷ []) = refl
  arguments_same o (d ∷ e ∷ ds) = refl

  given_same : (es : Separated ExprTree) → SameList es → given looks es ≡ given other es
  given_same es s = arguments_same (list_start es) (denoted_exprs looks es) ∙ ap (arguments_of (look_of_place other (list_start es))) s.denoted

  unknown_same : (es : Separated ExprTree) → SameList es → is_unknown looks es ≡ is_unknown other es
  unknown_same es s = ap (is_free (is_call_alone es)) s.denoted

  -- left sides

  target_same : (b : Bool) (e : ExprTree) → Finds (target_idents e) → Makes (expr_types e)
      → (target looks b e ≡ target other b e) × (target_uses looks e ≡ target_uses other e) × (target_faults looks b e ≡ target_faults other b e)
  target_same b e h k = by (is_blank_target e) h
    where
      by : (blank : Bool) → Finds (if blank then [] else expr_idents e)
          → ((if blank then targets_are.Blank else target_of (denoted looks stands.«Value» e) (not b)) ≡ (if blank then targets_are.Blank else target_of (denoted other stands.«Value» e) (not b)))
          × ((if blank then [] else uses looks stands.«Value» e) ≡ (if blank then [] else uses other stands.«Value» e))
          × ((if blank then [] else member_faults looks b e) ≡ (if blank then [] else member_faults other b e))
      by true h = (refl, refl, refl)
      by false h = let s = expr_same e (h, k) in (ap (λ d. target_of d (not b)) s.denoted, s.uses, member_same b e s)

  targets_same : (b : Bool) (es : Separated ExprTree) → Both (targets_idents es) (exprs_types es)
      → (targets looks b es ≡ targets other b es) × (targets_uses looks es ≡ targets_uses other es) × (targets_faults looks b es ≡ targets_faults other b es)
  targets_same b (One e) h = let s = target_same b e h.0 h.1 in (ap (λ t. t ∷ []) s.0, s.1, s.2)
  targets_same b (Then e comma more) h =
      let here = left (target_idents e) (targets_idents more) (expr_types e) (exprs_types more) h in
      let s = target_same b e here.0 here.1 in
      let rest = targets_same b more (right (target_idents e) (targets_idents more) (expr_types e) (exprs_types more) h) in
      (ap (λ t. t ∷ targets looks b more) s.0 ∙ ap (λ l. target other b e ∷ l) rest.0, pieces _ _ _ _ s.1 rest.1, pieces _ _ _ _ s.2 rest.2)

  old_same : (x : Ident) → Finds (x ∷ []) → old_target looks x ≡ old_target other x
  old_same x h = ap (λ d. target_of d true) (expr_same (Named x) (h, tt)).denoted

  short_same : (firsts : List Bool) (before : List (List ℕ)) (xs : List Ident) → Finds xs → short_targets looks firsts before xs ≡ short_targets other firsts before xs
  short_same firsts before [] h = refl
  short_same firsts before (x ∷ xs) h =
      ap (λ t. (if is_blank x.name then targets_are.Blank else (if flag_of firsts then targets_are.New else (if is_listed before x.name then targets_are.New else t))) ∷ short_targets looks (flags_behind firsts) (list_name before x.name) xs) (old_same x (h.0, tt))
      ∙ ap (λ l. short_target other (flag_of firsts) before x ∷ l) (short_same (flags_behind firsts) (list_name before x.name) xs h.1)

  -- specifications

  some_type_same : (t : Option TypeTree) → Both (some_type_idents t) (some_type t)
      → (some_written_type looks t ≡ some_written_type other t) × (some_type_uses looks t ≡ some_type_uses other t) × (some_type_faults looks t ≡ some_type_faults other t)
  some_type_same None h = (refl, refl, refl)
  some_type_same (Some t) h = (ap (λ t. Some t) h.1.0.type_of, type_used t h.0 h.1, h.1.0.faults_of)

  values_same : (v : Option (Span × Separated ExprTree)) → Both (values_idents v) (values_types v)
      → (values_given looks v ≡ values_given other v) × (values_uses looks v ≡ values_uses other v) × (values_faults looks v ≡ values_faults other v)
  values_same None h = (refl, refl, refl)
  values_same (Some v) h = let s = list_same v.1 h in (given_same v.1 s, s.uses, s.faults (is_list v.1))

  own_same : (kind : ValueKind) (xs : Separated Ident) (w w' : Option (Option T)) (v : Option (Span × Separated ExprTree)) → w ≡ w' → Both (values_idents v) (values_types v)
      → own_faults looks kind xs w v ≡ own_faults other kind xs w' v
  own_same kinds.Const xs w w' None e h = refl
  own_same kinds.Const xs w w' (Some v) e h =
      let s = list_same v.1 h in
      ap (λ x. constants_faults looks xs x (Some v)) e
      ∙ ap (λ g. fault_at (names_start xs) (constants_rule looks.types (is_call_alone v.1) (length (outline.idents xs)) g) ++ each_constant_faults looks.types w' (names_start xs) v.1 g) (given_same v.1 s)
  own_same kinds.Var xs w w' None e h = refl
  own_same kinds.Var xs w w' (Some v) e h =
      let s = list_same v.1 h in
      ap (λ x. variables_faults looks xs x (Some v)) e
      ∙ (ap (λ b. fault_at (names_start xs) (variables_rule looks.types w' (length (outline.idents xs)) b (given looks v.1))) (unknown_same v.1 s)
      ∙ ap (λ g. fault_at (names_start xs) (variables_rule looks.types w' (length (outline.idents xs)) (is_unknown other v.1) g)) (given_same v.1 s))

  names_same : (kind : ValueKind) (xs : Separated Ident) (w w' : Option (Option T)) (v : Option (Span × Separated ExprTree)) → w ≡ w' → values_given looks v ≡ values_given other v
      → names_values looks kind xs w v ≡ names_values other kind xs w' v
  names_same kinds.Const xs w w' v e g = ap (λ x. names_values looks kinds.Const xs x v) e ∙ ap (constant_values looks.types w' (length (outline.idents xs))) g
  names_same kinds.Var xs w w' v e g = ap (λ x. names_values looks kinds.Var xs x v) e ∙ ap (λ l. map variable (declared_types looks.types w' (length (outline.idents xs)) l)) g

  -- statements

  callee_same : (e : ExprTree) → Both (expr_idents e) (expr_types e) → callee_of looks e ≡ callee_of other e
  callee_same (Call e first items last) h =
      ap (λ d. Some d) ((expressions_seen T S D P).whole looks find written stands.Callee e (agree_left looks.find find (expr_idents e) (items_idents items) h.0)
      (makes_left (expr_types e) (items_types items) h.1)).denoted
  callee_same (Paren first e last) h = callee_same e h
  callee_same (Integer n span) h = refl
  callee_same (Text t) h = refl
  callee_same (Named x) h = refl
  callee_same (Unary op span e) h = refl
  callee_same (Binary a op span b) h = refl
  callee_same (Select e dot x) h = refl
  callee_same (Literal n first items last) h = refl
  callee_same (StructLiteral t first items last) h = refl

  simple_same : (s : SimpleTree) → Both (laws.simple_idents s) (simple_types s)
      → (simple_uses looks s ≡ simple_uses other s) × ((firsts : List Bool) → simple_faults looks firsts s ≡ simple_faults other firsts s) × ((firsts : List Bool) → simple_values looks firsts s ≡ simple_values other firsts s)
  simple_same (Alone e) h =
      let s = expr_same e h in
      (s.uses, λ firsts. pieces _ _ _ _ s.faults (ap (λ c. fault_at (start e) (statement_rule c (denoted looks stands.«Value» e))) (callee_same e h) ∙ ap (λ d. fault_at (start e) (statement_rule (callee_of other e) d)) s.denoted), λ firsts. refl)
  simple_same (Step e op span) h =
      let s = expr_same e h in
      (s.uses, λ firsts. pieces _ _ _ _ (operand_same e s) (ap (λ d. fault_at (start e) (increment_rule looks.types (argument_of d))) s.denoted), λ firsts. refl)
  simple_same (Assign ts span es) h =
      let ls = targets_same (is_list ts) ts (left (targets_idents ts) (list_idents es) (exprs_types ts) (exprs_types es) h) in
      let s = list_same es (right (targets_idents ts) (list_idents es) (exprs_types ts) (exprs_types es) h) in (
        pieces _ _ _ _ ls.1 s.uses,
        λ firsts. pieces _ _ _ _ ls.2 (pieces _ _ _ _ (s.faults (is_list es)) (ap (fault_at (list_start ts))
            (ap (λ l. assignment_rule looks.types l (is_unknown looks es) (given looks es)) ls.0
            ∙ (ap (λ b. assignment_rule looks.types (targets other (is_list ts) ts) b (given looks es)) (unknown_same es s)
            ∙ ap (assignment_rule looks.types (targets other (is_list ts) ts) (is_unknown other es)) (given_same es s))))),
        λ firsts. refl,
      )
  simple_same (Update e op span v) h =
      let s = expr_same e (left (expr_idents e) (expr_idents v) (expr_types e) (expr_types v) h) in
      let r = expr_same v (right (expr_idents e) (expr_idents v) (expr_types e) (expr_types v) h) in (
        pieces _ _ _ _ s.uses r.uses,
        λ firsts. pieces _ _ _ _ (operand_same e s) (pieces _ _ _ _ (operand_same v r) (ap (fault_at (start e))
            (ap (λ d. update_rule looks.types op (argument_of d) (operand_argument looks v)) s.denoted ∙ ap (λ d. update_rule looks.types op (operand_argument other e) (argument_of d)) r.denoted))),
        λ firsts. refl,
      )
  simple_same (Define xs span es) h =
      let s = list_same es (agree_right looks.find find (outline.idents xs) (list_idents es) h.0, h.1) in
      let ts : (firsts : List Bool) → short_targets looks firsts [] (outline.idents xs) ≡ short_targets other firsts [] (outline.idents xs) =
      λ firsts. short_same firsts [] (outline.idents xs) (agree_left looks.find find (outline.idents xs) (list_idents es) h.0) in (
        s.uses,
        λ firsts. pieces _ _ _ _ (s.faults (is_list es)) (ap (fault_at (names_start xs))
            (ap (λ l. assignment_rule looks.types l (is_unknown looks es) (given looks es)) (ts firsts)
            ∙ (ap (λ b. assignment_rule looks.types (short_targets other firsts [] (outline.idents xs)) b (given looks es)) (unknown_same es s)
            ∙ ap (assignment_rule looks.types (short_targets other firsts [] (outline.idents xs)) (is_unknown other es)) (given_same es s)))),
        λ firsts. ap (map variable)
            (ap (λ l. short_types looks.types l (given looks es)) (ts firsts) ∙ ap (short_types looks.types (short_targets other firsts [] (outline.idents xs))) (given_same es s)),
      )

  piece_same : (p : Piece) → Both (laws.piece_idents p) (piece_types p) → SamePiece T S D P looks other p
  piece_same (Header r s) h =
      let of_receiver = agree_left looks.find find (receiver_type_idents r) (signature_type_idents s) h.0 in
      record {
        uses = pieces _ _ _ _ (receiver_used r of_receiver) (signature_used s (agree_right looks.find find (receiver_type_idents r) (signature_type_idents s) h.0) h.1);
        faults = λ results has_names firsts. signature_noted s h.1;
        values = λ firsts. ap (map variable) (pieces _ _ _ _ (receiver_same r of_receiver) (signature_same s h.1));
      }
  piece_same (Spec kind v) h =
      let t = some_type_same v.type_expr (left (some_type_idents v.type_expr) (values_idents v.values) (some_type v.type_expr) (values_types v.values) h) in
      let in_list = right (some_type_idents v.type_expr) (values_idents v.values) (some_type v.type_expr) (values_types v.values) h in
      let s = values_same v.values in_list in
      record {
        uses = pieces _ _ _ _ t.1 s.1;
        faults = λ results has_names firsts. pieces _ _ _ _ t.2 (pieces _ _ _ _ s.2 (own_same kind v.names (some_written_type looks v.type_expr) (some_written_type other v.type_expr) v.values t.0 in_list));
        values = λ firsts. names_same kind v.names (some_written_type looks v.type_expr) (some_written_type other v.type_expr) v.values t.0 s.0;
      }
  piece_same (Act s) h = let same = simple_same s h in record { uses = same.0; faults = λ results has_names firsts. same.1 firsts; values = same.2 }
  piece_same (Condition e) h =
      let s = expr_same e h in
      record { uses = s.uses; faults = λ results has_names firsts. pieces _ _ _ _ s.faults (ap (λ d. fault_at (start e) (condition_rule looks.types d)) s.denoted); values = λ firsts. refl }
  piece_same (Given place None) h = record { uses = refl; faults = λ results has_names firsts. refl; values = λ firsts. refl }
  piece_same (Given place (Some es)) h =
      let s = list_same es h in
      record {
        uses = s.uses;
        faults = λ results has_names firsts. pieces _ _ _ _ (s.faults (is_list es)) (ap (fault_at place.start)
            (ap (λ b. return_rule looks.types results has_names b (given looks es)) (unknown_same es s) ∙ ap (return_rule looks.types results has_names (is_unknown other es)) (given_same es s)));
        values = λ firsts. refl;
      }

  own_outer_same : (kind : ValueKind) (xs : Separated Ident) (w w' : Option (Option T)) (v : Option (Span × Separated ExprTree)) → w ≡ w' → Both (values_idents v) (values_types v)
      → own_outer_faults looks kind xs w v ≡ own_outer_faults other kind xs w' v
  own_outer_same kinds.Const xs w w' v e h = own_same kinds.Const xs w w' v e h
  own_outer_same kinds.Var xs w w' None e h = refl
  own_outer_same kinds.Var xs w w' (Some v) e h =
      ap (λ x. initials_faults looks xs x (Some v)) e
      ∙ ap (λ g. fault_at (names_start xs) (initials_rule looks.types w' (length (outline.idents xs)) (is_call_alone v.1) g)) (given_same v.1 (list_same v.1 h))

  outer_of_same : (kind : ValueKind) (n : ℕ) (w w' : Option (Option T)) (given given' : List (Argument T)) → w ≡ w' → given ≡ given'
      → outer_values_of looks.types kind w n given ≡ outer_values_of looks.types kind w' n given'
  outer_of_same kind n w w' given given' e g = ap (λ x. outer_values_of looks.types kind x n given) e ∙ ap (outer_values_of looks.types kind w' n) g

  outer_same : (kind : ValueKind) (v : ValueSpecTree) → Both (laws.piece_idents (Spec kind v)) (piece_types (Spec kind v)) → SameOuter T S D P looks other kind v
  outer_same kind v h =
      let t = some_type_same v.type_expr (left (some_type_idents v.type_expr) (values_idents v.values) (some_type v.type_expr) (values_types v.values) h) in
      let in_list = right (some_type_idents v.type_expr) (values_idents v.values) (some_type v.type_expr) (values_types v.values) h in
      let s = values_same v.values in_list in
      record {
        faults = pieces _ _ _ _ t.2 (pieces _ _ _ _ s.2 (own_outer_same kind v.names (some_written_type looks v.type_expr) (some_written_type other v.type_expr) v.values t.0 in_list));
        values = outer_of_same kind (length (outline.idents v.names)) (some_written_type looks v.type_expr) (some_written_type other v.type_expr) (values_given looks v.values) (values_given other v.values) t.0 s.0;
      }

pub outer_local : (T S D P : Type 0) → OuterIsLocal T S D P
outer_local T S D P looks find written kind v h k = outer_same looks find written kind v (h, k)

pub pieces_local : (T S D P : Type 0) → PiecesAreLocal T S D P
pieces_local T S D P looks find written p h k = piece_same looks find written p (h, k)

-- types that are made alike, one by one
pub all_made : {T S D P : Type 0} (looks others : Looks T S D P) → ((t : TypeTree) → SameType T S D P looks others t) → (ts : List TypeTree) → SameWritten looks others ts
all_made looks others h [] = tt
all_made looks others h (t ∷ ts) = (h t, all_made looks others h ts)
