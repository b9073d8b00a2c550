-- The statements of a function fit that have no block, and its specifications.
use Rattle.std.proofs.Common.{◌≡◌, ◌⊎◌, inl, inr, ℕ, Bool, true, false, not, ◌&&◌, List, [], ◌∷◌, map, Option, Some, None, is_some, Contains, refl, sym, ap, ◌∙◌, subst, if◌then◌else◌}
use Rattle.std.proofs.lemmas.Bool.{and_parts}
use Rattle.go_constant_core.specs.text_core.Text.{is_blank}
use Rattle.go_constant_core.specs.text_core.declared.span.Span.{Span}
use Rattle.go_tree_nodes.specs.declared.names.Ident.{Ident}
use Rattle.go_tree_nodes.specs.declared.decls.ValueKind.{ValueKind}
use Rattle.go_tree_nodes.specs.declared.decls.ValueKind.TheVariants as value_kinds
use Rattle.go_tree_nodes.specs.Rules.{HasEnough}
use Rattle.go_tree_nodes.specs.Trees.{ExprTree, FileTree, FuncTree, Integer, Text, Named, Paren, Unary, Binary, Select, Call, Literal, StructLiteral, TypeTree, Separated, One, Then, SimpleTree, Alone, Step, Assign, Update, Define, NoParams, Param, NoResult, OneResult, Results, SignatureTree, Signed, ValueSpecTree}
use Rattle.go_names_core.specs.local_core.Binding.{Local}
use Rattle.go_names_core.specs.local_core.Steps.{Piece, Spec, Act, Condition, Given}
use Rattle.go_names_core.specs.local_core.WalksEnds.{is_blank_target}
use Rattle.go_term_core.specs.Terms.{Term, Sign}
use Rattle.go_report_core.specs.operand_core.declared.types.Operand.{Operand}
use Rattle.go_report_core.specs.operand_core.declared.types.ValueType.TheVariants as types
use Rattle.go_report_core.specs.denote_core.declared.things.Stand.{Stand}
use Rattle.go_report_core.specs.denote_core.declared.things.Stand.TheVariants as stands
use Rattle.go_report_core.specs.expr_core.Places.{inside}
use Rattle.go_report_core.specs.expr_core.Denoting.{written_type}
use Rattle.go_body_core.specs.stmt_core.PieceHeaders.{returned_names, returned_types}
use Rattle.go_body_core.specs.stmt_core.PiecePieces.{piece_values}
use Rattle.go_body_core.specs.stmt_core.PieceValues.{variable}
use Rattle.go_meaning_laws.specs.handle_core.Declarations.{Declaration}
use Rattle.go_body_core.specs.env_core.declared.meaning.Meaning.{Meaning as NameMeaning}
use Rattle.go_body_core.specs.env_core.Looks.{TheLooks}
use Rattle.go_body_core.specs.function.Stands.{outer_looks}
use Rattle.go_emit_core.specs.package_core.PackagePartInputs.{InputModel, path_in}
use Rattle.go_emit_core.specs.package_core.PackagePartParts.{ContentOf, FileOf}
use Rattle.go_object_core.specs.declared.instructions.letters.Word.{Word}
use Rattle.go_object_core.specs.declared.instructions.letters.Word.TheVariants as words
use Rattle.go_code_core.specs.declared.fragments.names.Gives.{Gives}
use Rattle.go_code_core.specs.declared.fragments.names.Gives.TheVariants as gives
use Rattle.go_code_core.specs.declared.fragments.names.Meaning.{Meaning}
use Rattle.go_code_core.specs.declared.fragments.names.Meaning.TheVariants as meanings
use Rattle.go_code_core.specs.declared.fragments.targets.Target.{Target}
use Rattle.go_code_core.specs.declared.fragments.targets.Target.TheVariants as targets
use Rattle.go_code_core.specs.fragments.Fragment.{expr_gives, is_one, is_other, meaning_gives, over, some_type_inside, type_word}
use Rattle.go_code_core.specs.fragments.Inside.{names_inside, one_declared, one_target, one_value, params_inside, results_given, results_inside, signature_inside, simple_inside, value_spec_inside, values_inside}
use Rattle.go_code_core.specs.fragments.Names.{CodeLooks, Frame, frame_of, is_slot, is_target, meant_target, slot_assigned, slot_of, slot_target}
use Rattle.go_code_core.specs.fragments.Operators.{step_operator, update_operator}
use Rattle.go_code_core.specs.fragments.Slots.{slots_of}
use Rattle.go_code_core.specs.Code.{frame_in}
use Rattle.go_meaning_laws.specs.source_meaning.Meaning.{SourceOf, ToNothing, ToVariable, goal_of, meant_goal}
use Rattle.go_meaning_laws.specs.fitting_sources.Fitting.{DeclaredFit, ExprFits, GoalFits, IsGiven, ReturnFits, SimpleFits, SpecFits, TestFits, Typing, UpdatedFits, signature_gives}
use Rattle.go_emit_core.specs.Emitted.{body_first, told_to}
use Rattle.go_workspace_laws.specs.folding.Parts.{parts}
use Rattle.go_workspace_laws.specs.folding.Reading.{IsOver}
use Rattle.go_workspace_laws.specs.ConstantLaws.{code_names_of}
use Rattle.go_workspace_laws.specs.Standing.{piece_exprs, pieces_of, stand_in_part, targets_listed}
use Rattle.go_workspace_laws.proofs.ConstantLists.{HasItem, contained, has_right}
use Rattle.go_program_laws.specs.checked_sources.Statements.{IsClear, StandsOver, one_variable}
use Rattle.go_program_laws.proofs.CheckedSourcesStatements.{assignments_over_one, conditions_over_bool, declarations_over_one, returns_over_results, updates_over_int}
use Rattle.go_program_laws.proofs.CheckedSourcesTypes.{types_keep_basics}
use Rattle.go_program_laws.proofs.CheckedSourcesVariables.{variables_over_one}
use Rattle.go_program_laws.proofs.CheckedSourcesWords.{one_word}
use Rattle.go_program_laws.specs.types.Fits.{IsServed}
use Rattle.go_program_laws.specs.types.Functions.{IsFunction, function_looks, known_types, meaning_there, source_with, typing_in}
use Rattle.go_program_laws.specs.types.Scope.{AreDeclaredBefore}
use Rattle.go_program_laws.specs.types.Written.{ShowTheirTypes}
use Rattle.go_program_laws.proofs.TypesExprs.{are_alike, one_fits, root_fits}
use Rattle.go_program_laws.proofs.TypesLocals.{locals_typed}
use Rattle.go_program_laws.proofs.TypesReady.{AreGiven, firsts, meant, single, sound}
use Rattle.go_program_laws.proofs.TypesTypes.{returned_over, types_over}

not_other : (b : Bool) → not b ≡ true → b ≡ false
not_other false h = refl
not_other true h = absurd (cc h)

over_is : (o : Option Word) (w : Word) → o ≡ Some w → over o ≡ gives.One w
over_is o w e = ap over e

some_of : (o : Option Word) → is_some o ≡ true → (w : Word) × (o ≡ Some w)
some_of None e = absurd (cc e)
some_of (Some w) e = (w, refl)

-- what is declared as a variable is no constant
variable_alone : {T : Type 0} (ts : List (Option T)) (o : Operand T) → map variable ts ≡ Some o ∷ [] → o.constant ≡ None
variable_alone [] o e = absurd (cc e)
variable_alone (None ∷ ts) o e = absurd (cc e)
variable_alone {T} (Some t ∷ ts) o e = (let made : Operand T = record { value_type = types.Typed t; constant = None; addressable = true } in let same : made ≡ o = cc e in ap (λ (x : Operand T). x.constant) (sym same))

-- a variable of the function by its slot
slot_is : (slots : List (Option ℕ)) (m : Meaning) → is_slot (meant_target slots m) ≡ true → (at : ℕ) × (w : Word) × (m ≡ meanings.Variable at w) × (is_some (slot_of slots at) ≡ true)
slot_is slots (meanings.Variable at w) e = (at, w, refl, by (slot_of slots at) e)
  where
    by : (o : Option ℕ) → is_slot (slot_target o) ≡ true → is_some o ≡ true
    by None e = absurd (cc e)
    by (Some k) e = refl
slot_is slots (meanings.Constant v) e = absurd (cc e)
slot_is slots (meanings.Function g) e = absurd (cc e)
slot_is slots (meanings.Method g) e = absurd (cc e)
slot_is slots (meanings.«Type» w) e = absurd (cc e)
slot_is slots meanings.Println e = absurd (cc e)
slot_is slots meanings.Panic e = absurd (cc e)
slot_is slots meanings.Other e = absurd (cc e)

module _ (code : CodeLooks) (slots : List (Option ℕ)) where
  -- what is assigned to is a variable
  pub record IsTarget (q : Stand) (e : ExprTree) : Type 0 where
    pub ident : Ident
    pub stand : Stand
    pub there : HasItem (parts q e) (stand, Named ident)
    pub at : ℕ
    pub word : Word
    pub meaning : code.meaning ident.span.start ≡ meanings.Variable at word
    pub goal : goal_of code e ≡ ToVariable at
    pub gives_is : expr_gives (frame_of code slots) e ≡ gives.One word
    pub named : is_blank_target e ≡ false

  named_slot : (q : Stand) (x : Ident) (b : Bool) → is_blank x.name ≡ b → is_slot (if b then targets.Blank else meant_target slots (code.meaning x.span.start)) ≡ true → IsTarget q (Named x)
  named_slot q x true blank e = absurd (cc e)
  named_slot q x false blank e =
      let r = slot_is slots (code.meaning x.span.start) e in
      record {
        ident = x;
        stand = q;
        there = inl refl;
        at = r.0;
        word = r.1;
        meaning = r.2;
        goal = ap (λ b. if b then ToNothing else meant_goal (code.meaning x.span.start)) blank ∙ ap meant_goal r.2;
        gives_is = ap (meaning_gives slots) r.2 ∙ ap (λ b. if b then gives.One r.1 else gives.Other) r.3;
        named = blank;
      }

  pub slot_goal : (q : Stand) (e : ExprTree) → is_slot (slot_assigned (frame_of code slots) e) ≡ true → IsTarget q e
  slot_goal q (Named x) e = named_slot q x (is_blank x.name) refl e
  slot_goal q (Paren first d last) e =
      (let r = slot_goal (inside q) d e in record { ident = r.ident; stand = r.stand; there = inr r.there; at = r.at; word = r.word; meaning = r.meaning; goal = r.goal; gives_is = r.gives_is; named = r.named })
  slot_goal q (Integer k s) e = absurd (cc e)
  slot_goal q (Text t) e = absurd (cc e)
  slot_goal q (Unary op s d) e = absurd (cc e)
  slot_goal q (Binary a op s b) e = absurd (cc e)
  slot_goal q (Select d dot x) e = absurd (cc e)
  slot_goal q (Call d first items last) e = absurd (cc e)
  slot_goal q (Literal m first items last) e = absurd (cc e)
  slot_goal q (StructLiteral t first items last) e = absurd (cc e)

  target_cases : (o : Target) → is_target o ≡ true → (o ≡ targets.Blank) ⊎ (is_slot o ≡ true)
  target_cases targets.Blank e = inl refl
  target_cases (targets.Slot k) e = inr refl
  target_cases targets.Other e = absurd (cc e)

  slot_no_blank : {A : Type 0} (o : Option ℕ) → slot_target o ≡ targets.Blank → A
  slot_no_blank None e = absurd (cc e)
  slot_no_blank (Some k) e = absurd (cc e)

  meant_no_blank : {A : Type 0} (m : Meaning) → meant_target slots m ≡ targets.Blank → A
  meant_no_blank (meanings.Variable at w) e = slot_no_blank (slot_of slots at) e
  meant_no_blank (meanings.Constant v) e = absurd (cc e)
  meant_no_blank (meanings.Function g) e = absurd (cc e)
  meant_no_blank (meanings.Method g) e = absurd (cc e)
  meant_no_blank (meanings.«Type» w) e = absurd (cc e)
  meant_no_blank meanings.Println e = absurd (cc e)
  meant_no_blank meanings.Panic e = absurd (cc e)
  meant_no_blank meanings.Other e = absurd (cc e)

  -- what is blank is nothing
  pub blank_goal : (e : ExprTree) → slot_assigned (frame_of code slots) e ≡ targets.Blank → goal_of code e ≡ ToNothing
  blank_goal (Named x) e = by (is_blank x.name) e
    where
      by : (b : Bool) → (if b then targets.Blank else meant_target slots (code.meaning x.span.start)) ≡ targets.Blank → (if b then ToNothing else meant_goal (code.meaning x.span.start)) ≡ ToNothing
      by true e = refl
      by false e = meant_no_blank (code.meaning x.span.start) e
  blank_goal (Paren first d last) e = blank_goal d e
  blank_goal (Integer k s) e = absurd (cc e)
  blank_goal (Text t) e = absurd (cc e)
  blank_goal (Unary op s d) e = absurd (cc e)
  blank_goal (Binary a op s b) e = absurd (cc e)
  blank_goal (Select d dot x) e = absurd (cc e)
  blank_goal (Call d first items last) e = absurd (cc e)
  blank_goal (Literal m first items last) e = absurd (cc e)
  blank_goal (StructLiteral t first items last) e = absurd (cc e)

module _ (laws : AreGiven) (program : List SourceOf) (callees : List (Option ℕ)) (i : InputModel) (c : ContentOf) (n : ℕ) (t : FileTree) (f : FileOf) (g : FuncTree) (all : List (Local NameMeaning)) (h : IsFunction i c n t f g all)
    (shows : ShowTheirTypes i c) (served : IsServed program callees i c n t f g all) where
  abbrev looks : TheLooks
  looks = function_looks i c n t all

  abbrev code : CodeLooks
  code = code_names_of i c n f g

  abbrev s : SourceOf
  s = source_with code callees g

  abbrev typing : Typing
  typing = typing_in i c f

  abbrev frame : Frame
  frame = frame_in code g

  abbrev slots : List (Option ℕ)
  slots = slots_of code g

  abbrev results : List (Option Term)
  results = returned_types (outer_looks (stand_in_part i c n t)) g.signature

  abbrev Clear : List Bool → Piece → Type 0
  Clear bs p = IsClear Term Sign Declaration (List ℕ) looks code (meaning_there i c n f) results (returned_names g.signature) bs p

  clear : (p : Piece) (piece : Contains (pieces_of g) p) → Clear (firsts laws i c n t f g all h p piece) p
  clear p piece = record { alike = are_alike laws program callees i c n t f g all h served; meant = meant laws i c n t f g all h p piece; sound = sound laws i c n t f g all h p piece }

  over_one : (offset at : ℕ) (w : Word) → code.meaning offset ≡ meanings.Variable at w → typing at ≡ Some w
  over_one offset at w e = variables_over_one (told_to i c) i c n f.answers.uses f.answers.locals (body_first f.answers.uses g) offset at w e

  -- one expression of a piece that gives one value
  expr_of : (ds : List (Option ℕ)) (p : Piece) → Contains (pieces_of g) p → AreDeclaredBefore code ds p → (e : ExprTree) → HasItem (piece_exprs p) e → is_other (expr_gives frame e) ≡ false → ExprFits program s typing ds e
  expr_of ds p piece before e k fits = root_fits laws program callees i c n t f g all h served ds p piece before e (contained (piece_exprs p) e k) fits

  updated_fits : (ds : List (Option ℕ)) (p : Piece) → AreDeclaredBefore code ds p → (e : ExprTree) → HasItem (piece_exprs p) e → (r : IsTarget code slots stands.«Value» e) → r.word ≡ words.Int → UpdatedFits program s typing ds (goal_of code e)
  updated_fits ds p before e k r int =
      subst (λ x. UpdatedFits program s typing ds x) (sym r.goal)
      (before e (contained (piece_exprs p) e k) r.stand r.ident (contained (parts stands.«Value» e) (r.stand, Named r.ident) r.there) r.at r.word r.meaning, over_one r.ident.span.start r.at r.word r.meaning ∙ ap (λ w. Some w) int)

  target_fits : (e d : ExprTree) (span : Span) (p : Contains (pieces_of g) (Act (Assign (One e) span (One d)))) → is_target (slot_assigned frame e) ≡ true → (w : Word) → expr_gives frame d ≡ gives.One w → GoalFits program s typing (goal_of code e) (expr_gives frame d)
  target_fits e d span piece is w one = elim (target_cases code slots (slot_assigned frame e) is) [
    | inl blank ↦ subst (λ x. GoalFits program s typing x (expr_gives frame d)) (sym (blank_goal code slots e blank)) tt
    | inr slot ↦ (
        let r = slot_goal code slots stands.«Value» e slot in
        let same = assignments_over_one Term Sign Declaration (List ℕ) looks code (meaning_there i c n f) slots results (returned_names g.signature) _ e d span (clear (Act (Assign (One e) span (One d))) piece) r.named r.word w r.gives_is one in
        subst (λ x. GoalFits program s typing x (expr_gives frame d)) (sym r.goal) (r.word, over_one r.ident.span.start r.at r.word r.meaning, one ∙ ap (λ u. gives.One u) same)
        )
  ]

  -- what is declared

  declared_by : (x : Ident) (v : Gives) (w : Word) → v ≡ gives.One w → (is_blank x.name ≡ false → typing x.span.start ≡ Some w) → DeclaredFit program s typing (One x) v
  declared_by x v w one over = by (is_blank x.name) refl
    where
      by : (b : Bool) → is_blank x.name ≡ b → GoalFits program s typing (if b then ToNothing else ToVariable x.span.start) v
      by true e = tt
      by false e = (w, over e, one)

  defined : (x : Ident) (span : Span) (e : ExprTree) → Contains (pieces_of g) (Act (Define (One x) span (One e))) → (w : Word) → expr_gives frame e ≡ gives.One w → is_blank x.name ≡ false → typing x.span.start ≡ Some w
  defined x span e piece w one named =
      let p : Piece = Act (Define (One x) span (One e)) in
      let r = single laws i c n t f g all h p piece x refl named in
      let k : StandsOver looks.types (piece_values looks (true ∷ []) p) w =
      (declarations_over_one Term Sign Declaration (List ℕ)).short looks code (meaning_there i c n f) slots results (returned_names g.signature) [] x span e (types_keep_basics.predeclared (known_types i c) (path_in i)) (subst (λ bs. Clear bs p) r.0 (clear p piece)) named w one in
      locals_typed laws i c n t f g all h p piece x refl named w k (variable_alone _ k.operand k.alone)

  -- a specification of one variable

  spec_over : (x : Ident) (u : Option TypeTree) (vs : Option (Span × Separated ExprTree)) → Contains (pieces_of g) (one_variable x u vs) → (w : Word) → ((bs : List Bool) → Clear bs (one_variable x u vs) → StandsOver looks.types (piece_values looks bs (one_variable x u vs)) w)
      → is_blank x.name ≡ false → typing x.span.start ≡ Some w
  spec_over x u vs piece w stands_over named =
      let p : Piece = one_variable x u vs in
      let r = single laws i c n t f g all h p piece x refl named in
      let k : StandsOver looks.types (piece_values looks (true ∷ []) p) w = stands_over (true ∷ []) (subst (λ bs. Clear bs p) r.0 (clear p piece)) in
      locals_typed laws i c n t f g all h p piece x refl named w k (variable_alone _ k.operand k.alone)

  spec_type : (x : Ident) (u : TypeTree) (vs : Option (Span × Separated ExprTree)) → Contains (pieces_of g) (one_variable x (Some u) vs) → (w : Word) → type_word code u ≡ Some w → IsOver looks.types w (written_type looks u)
  spec_type x u vs piece w e = (types_over laws).written i c n t f g all h shows (one_variable x (Some u) vs) piece u (contained (u ∷ []) u (inl refl)) w e

  spec_of : (ds : List (Option ℕ)) (xs : Separated Ident) (u : Option TypeTree) (vs : Option (Span × Separated ExprTree)) → Contains (pieces_of g) (Spec value_kinds.Var (record { names = xs; type_expr = u; values = vs }))
      → AreDeclaredBefore code ds (Spec value_kinds.Var (record { names = xs; type_expr = u; values = vs })) → HasEnough value_kinds.Var u vs → one_declared frame xs ≡ true → some_type_inside code u ≡ true → values_inside frame vs ≡ true
      → SpecFits program s typing ds value_kinds.Var (record { names = xs; type_expr = u; values = vs })
  spec_of ds (Then x comma xs) u vs piece before well one typed inside = absurd (cc one)
  spec_of ds (One x) None None piece before well one typed inside = absurd well
  spec_of ds (One x) (Some u) None piece before well one typed inside =
      let w = some_of (type_word code u) typed in (
        declared_by x (over (type_word code u)) w.0 (over_is (type_word code u) w.0 w.1) (spec_over x (Some u) None piece w.0 (λ bs ok. (declarations_over_one Term Sign Declaration (List ℕ)).without_value looks bs x u w.0 (spec_type x u None piece w.0 w.1))),
        subst IsGiven (sym w.1) tt,
      )
  spec_of ds (One x) None (Some (sp, One e)) piece before well one typed inside =
      let w = one_word (expr_gives frame e) inside in (
        declared_by x (expr_gives frame e) w.0 w.1
            (spec_over x None (Some (sp, One e)) piece w.0
            (λ bs ok. (declarations_over_one Term Sign Declaration (List ℕ)).untyped looks code (meaning_there i c n f) slots results (returned_names g.signature) bs x sp e (types_keep_basics.predeclared (known_types i c) (path_in i)) ok w.0 w.1)),
        expr_of ds (one_variable x None (Some (sp, One e))) piece before e (inl refl) (one_fits (expr_gives frame e) inside),
      )
  spec_of ds (One x) (Some u) (Some (sp, One e)) piece before well one typed inside =
      let w = one_word (expr_gives frame e) inside in
      let v = some_of (type_word code u) typed in
      let law = (declarations_over_one Term Sign Declaration (List ℕ)).typed looks code (meaning_there i c n f) slots results (returned_names g.signature) in
      let over_u = spec_type x u (Some (sp, One e)) piece v.0 v.1 in
      let same = (law _ x u sp e (clear (one_variable x (Some u) (Some (sp, One e))) piece) w.0 w.1 v.0 over_u).0 in (
        declared_by x (expr_gives frame e) v.0 (w.1 ∙ ap (λ k. gives.One k) same) (spec_over x (Some u) (Some (sp, One e)) piece v.0 (λ bs ok. (law bs x u sp e ok w.0 w.1 v.0 over_u).1)),
        expr_of ds (one_variable x (Some u) (Some (sp, One e))) piece before e (inl refl) (one_fits (expr_gives frame e) inside),
      )
  spec_of ds (One x) u (Some (sp, Then e comma es)) piece before well one typed inside = absurd (cc inside)

  pub spec_fits : (ds : List (Option ℕ)) (kind : ValueKind) (v : ValueSpecTree) → Contains (pieces_of g) (Spec kind v) → AreDeclaredBefore code ds (Spec kind v) → HasEnough kind v.type_expr v.values → value_spec_inside frame kind v ≡ true → SpecFits program s typing ds kind v
  spec_fits ds value_kinds.Const v piece before well inside_it = tt
  spec_fits ds value_kinds.Var v piece before well inside_it =
      let last = and_parts (names_inside frame value_kinds.Var v.names && some_type_inside code v.type_expr) (values_inside frame v.values) inside_it in
      let both = and_parts (names_inside frame value_kinds.Var v.names) (some_type_inside code v.type_expr) last.0 in
      spec_of ds v.names v.type_expr v.values piece before well both.0 both.1 last.1

  -- statements

  assigned : (ds : List (Option ℕ)) (ts es : Separated ExprTree) (span : Span) → Contains (pieces_of g) (Act (Assign ts span es)) → AreDeclaredBefore code ds (Act (Assign ts span es)) → one_target frame ts ≡ true → one_value frame es ≡ true → SimpleFits program s typing ds (Assign ts span es)
  assigned ds (Then d comma ts) es span piece before one value = absurd (cc one)
  assigned ds (One d) (Then e comma es) span piece before one value = absurd (cc value)
  assigned ds (One d) (One e) span piece before one value =
      let w = one_word (expr_gives frame e) value in
      (target_fits d e span piece one w.0 w.1, expr_of ds (Act (Assign (One d) span (One e))) piece before e (has_right (targets_listed (One d)) (e ∷ []) e (inl refl)) (one_fits (expr_gives frame e) value))

  defines : (ds : List (Option ℕ)) (xs : Separated Ident) (es : Separated ExprTree) (span : Span) → Contains (pieces_of g) (Act (Define xs span es)) → AreDeclaredBefore code ds (Act (Define xs span es)) → one_declared frame xs ≡ true → one_value frame es ≡ true → SimpleFits program s typing ds (Define xs span es)
  defines ds (Then x comma xs) es span piece before one value = absurd (cc one)
  defines ds (One x) (Then e comma es) span piece before one value = absurd (cc value)
  defines ds (One x) (One e) span piece before one value =
      let w = one_word (expr_gives frame e) value in
      (declared_by x (expr_gives frame e) w.0 w.1 (defined x span e piece w.0 w.1), expr_of ds (Act (Define (One x) span (One e))) piece before e (inl refl) (one_fits (expr_gives frame e) value))

  pub simple_fits : (ds : List (Option ℕ)) (x : SimpleTree) → Contains (pieces_of g) (Act x) → AreDeclaredBefore code ds (Act x) → simple_inside frame x ≡ true → SimpleFits program s typing ds x
  simple_fits ds (Alone e) piece before inside_it = expr_of ds (Act (Alone e)) piece before e (inl refl) (not_other (is_other (expr_gives frame e)) inside_it)
  simple_fits ds (Step e op span) piece before inside_it =
      let r = slot_goal code slots stands.«Value» e (and_parts (is_slot (slot_assigned frame e)) (is_some (step_operator op)) inside_it).0 in
      let int = (updates_over_int Term Sign Declaration (List ℕ)).step looks code (meaning_there i c n f) slots results (returned_names g.signature) _ e op span (clear (Act (Step e op span)) piece) r.word r.gives_is in
      updated_fits ds (Act (Step e op span)) before e (inl refl) r int
  simple_fits ds (Assign ts span es) piece before inside_it = (let both = and_parts (one_target frame ts) (one_value frame es) inside_it in assigned ds ts es span piece before both.0 both.1)
  simple_fits ds (Update d op span e) piece before inside_it =
      let last = and_parts (is_slot (slot_assigned frame d) && is_one (expr_gives frame e)) (is_some (update_operator op)) inside_it in
      let both = and_parts (is_slot (slot_assigned frame d)) (is_one (expr_gives frame e)) last.0 in
      let r = slot_goal code slots stands.«Value» d both.0 in
      let w = one_word (expr_gives frame e) both.1 in
      let ints = (updates_over_int Term Sign Declaration (List ℕ)).update looks code (meaning_there i c n f) slots results (returned_names g.signature) _ d op span e (clear (Act (Update d op span e)) piece) last.1 r.word w.0 r.gives_is w.1 in (
        updated_fits ds (Act (Update d op span e)) before d (inl refl) r ints.0,
        w.1 ∙ ap (λ k. gives.One k) ints.1,
        expr_of ds (Act (Update d op span e)) piece before e (inr (inl refl)) (one_fits (expr_gives frame e) both.1),
      )
  simple_fits ds (Define xs span es) piece before inside_it = (let both = and_parts (one_declared frame xs) (one_value frame es) inside_it in defines ds xs es span piece before both.0 both.1)

  pub test_fits : (ds : List (Option ℕ)) (e : ExprTree) → Contains (pieces_of g) (Condition e) → AreDeclaredBefore code ds (Condition e) → is_one (expr_gives frame e) ≡ true → TestFits program s typing ds (Some e)
  test_fits ds e piece before one =
      let w = one_word (expr_gives frame e) one in
      let bool = conditions_over_bool Term Sign Declaration (List ℕ) looks code (meaning_there i c n f) slots results (returned_names g.signature) _ e (clear (Condition e) piece) w.0 w.1 in
      (w.1 ∙ ap (λ k. gives.One k) bool, expr_of ds (Condition e) piece before e (inl refl) (one_fits (expr_gives frame e) one))

  -- returns

  none_named : (r : SignatureTree) → signature_inside code r ≡ true → returned_names r ≡ false
  none_named (Signed a ps b NoResult) inside_it = refl
  none_named (Signed a ps b (OneResult u)) inside_it = refl
  none_named (Signed a ps b (Results first NoParams last)) inside_it = refl
  none_named (Signed a ps b (Results first (Param None u comma rest) last)) inside_it = refl
  none_named (Signed a ps b (Results first (Param (Some xs) u comma rest) last)) inside_it =
      (let k = (and_parts (params_inside code ps) (results_inside code (Results first (Param (Some xs) u comma rest) last)) inside_it).1 in absurd (cc k))

  gives_none : (r : SignatureTree) → returned_types (outer_looks (stand_in_part i c n t)) r ≡ [] → signature_inside code r ≡ true → signature_gives code r ≡ gives.Nothing
  gives_none (Signed a ps b NoResult) none inside_it = refl
  gives_none (Signed a ps b (OneResult u)) none inside_it = absurd (cc none)
  gives_none (Signed a ps b (Results first NoParams last)) none inside_it = refl
  gives_none (Signed a ps b (Results first (Param None u comma rest) last)) none inside_it = absurd (cc none)
  gives_none (Signed a ps b (Results first (Param (Some xs) u comma rest) last)) none inside_it =
      (let k = (and_parts (params_inside code ps) (results_inside code (Results first (Param (Some xs) u comma rest) last)) inside_it).1 in absurd (cc k))

  gives_one : (r : SignatureTree) → (returned_types (outer_looks (stand_in_part i c n t)) r ≡ [] → ⊥) → signature_inside code r ≡ true → (w : Word) × (signature_gives code r ≡ gives.One w)
  gives_one (Signed a ps b NoResult) some inside_it = absurd (some refl)
  gives_one (Signed a ps b (OneResult u)) some inside_it =
      (let k = some_of (type_word code u) (and_parts (params_inside code ps) (results_inside code (OneResult u)) inside_it).1 in (k.0, over_is (type_word code u) k.0 k.1))
  gives_one (Signed a ps b (Results first NoParams last)) some inside_it = absurd (some refl)
  gives_one (Signed a ps b (Results first (Param None u comma NoParams) last)) some inside_it =
      (let k = some_of (type_word code u) (and_parts (params_inside code ps) (results_inside code (Results first (Param None u comma NoParams) last)) inside_it).1 in (k.0, over_is (type_word code u) k.0 k.1))
  gives_one (Signed a ps b (Results first (Param None u comma (Param xs v comma' rest)) last)) some inside_it =
      (let k = (and_parts (params_inside code ps) (results_inside code (Results first (Param None u comma (Param xs v comma' rest)) last)) inside_it).1 in absurd (cc k))
  gives_one (Signed a ps b (Results first (Param (Some xs) u comma rest) last)) some inside_it =
      (let k = (and_parts (params_inside code ps) (results_inside code (Results first (Param (Some xs) u comma rest) last)) inside_it).1 in absurd (cc k))

  pub return_fits : (ds : List (Option ℕ)) (place : Span) (es : Option (Separated ExprTree)) → Contains (pieces_of g) (Given place es) → AreDeclaredBefore code ds (Given place es) → signature_inside code g.signature ≡ true → results_given frame es ≡ true → ReturnFits program s typing ds es
  return_fits ds place None piece before inside_it given =
      let ok : IsClear Term Sign Declaration (List ℕ) looks code (meaning_there i c n f) results false _ (Given place None) =
      subst (λ b. IsClear Term Sign Declaration (List ℕ) looks code (meaning_there i c n f) results b (firsts laws i c n t f g all h (Given place None) piece) (Given place None)) (none_named g.signature inside_it) (clear (Given place None) piece) in
      gives_none g.signature ((returns_over_results Term Sign Declaration (List ℕ)).none looks code (meaning_there i c n f) results _ place ok) inside_it
  return_fits ds place (Some (Then e comma es)) piece before inside_it given = absurd (cc given)
  return_fits ds place (Some (One e)) piece before inside_it given =
      let law = returns_over_results Term Sign Declaration (List ℕ) in
      let w = one_word (expr_gives frame e) given in
      let ok = clear (Given place (Some (One e))) piece in
      let v = gives_one g.signature (law.some looks code (meaning_there i c n f) slots results (returned_names g.signature) _ place e ok w.0 w.1) inside_it in
      let same : w.0 ≡ v.0 = law.value looks code (meaning_there i c n f) slots results (returned_names g.signature) _ place e ok w.0 w.1 v.0 (returned_over laws i c n t f g all h shows inside_it v.0 v.1) in
      (v.1 ∙ (ap (λ k. gives.One k) (sym same) ∙ sym w.1), expr_of ds (Given place (Some (One e))) piece before e (inl refl) (one_fits (expr_gives frame e) given))
