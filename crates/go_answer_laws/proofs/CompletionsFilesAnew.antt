-- Statements, declarations and files in which the identifier that begins at an offset has another spelling.
use Rattle.std.proofs.Common.{◌≡◌, ◌≤◌, ◌<◌, ◌+◌, ℕ, zero, suc, Bool, true, false, ◌&&◌, List, [], ◌∷◌, ◌++◌, length, map, Option, Some, None, refl, sym, ap, subst, ◌∙◌, arith, cond, if◌then◌else◌, nat_eq}
use Rattle.std.specs.Prelude.{Contains, slice_get}
use Rattle.std.proofs.lemmas.Bool.{eqb-true, eq-eqb}
use Rattle.std.proofs.lemmas.List.Elements.{Contains-append_right}
use Rattle.go_site_core.specs.text_core.declared.span.Span.{Span}
use Rattle.go_site_core.specs.text_core.Text.{is_blank}
use Rattle.go_tree_nodes.specs.token_core.declared.kind.Keyword.TheVariants as keyword
use Rattle.go_tree_nodes.specs.token_core.declared.kind.Operator.TheVariants as operator
use Rattle.go_tree_nodes.specs.declared.names.Ident.{Ident}
use Rattle.go_tree_nodes.specs.declared.decls.ValueKind.{ValueKind}
use Rattle.go_tree_nodes.specs.declared.files.ImportName.{ImportName}
use Rattle.go_tree_nodes.specs.declared.files.ImportName.TheVariants as import_name
use Rattle.go_tree_nodes.specs.declared.files.Receiver.{Receiver}
use Rattle.go_tree_nodes.specs.declared.types.TypeName.{TypeName}
use Rattle.go_tree_nodes.specs.Rules.{Wf, Wf_exprs, Wf_values, Wf_value_spec, Wf_group, Wf_specs, Wf_simple, Wf_some_simple, Wf_some_expr, Wf_init, Wf_if, Wf_for, Wf_some_exprs, Wf_stmt, Wf_branch, Wf_else, Wf_lines, Wf_decl, Wf_tops, Wf_imports, Wf_file, Wf_type_spec}
use Rattle.go_tree_nodes.specs.Terminals.{Terminal, TerminalKind, Spelled, Number, Quoted, Word, Mark, Stray, InOrder, least_width}
use Rattle.go_tree_nodes.specs.Spelling.{mark, spell_ident, spell_some, spell, spell_exprs, spell_some_type, spell_values, spell_value_spec, spell_specs_of, spell_specs, spell_type_spec, spell_simple, spell_some_simple, spell_some_expr, spell_init, spell_if, spell_for, spell_some_exprs, spell_stmt, spell_branch, spell_else, spell_lines, spell_receiver_name, spell_receiver, spell_func, spell_decl, spell_tops, spell_import_name, spell_import, spell_imports, spell_file, IsPlaced, word}
use Rattle.go_tree_nodes.specs.Trees as tree
use Rattle.go_tree_nodes.specs.Trees.{Separated, One, Then, TypeTree, SignatureTree, ExprTree, Integer, Text, Named, Paren, Unary, Binary, Select, Call, Literal, StructLiteral, ValueSpecTree, Specs, Single, Group, TypeSpecTree, SimpleTree, Alone, Step, Assign, Update, Define, IfTree, ForTree, Forever, While, Clauses, StmtTree, BranchTree, ElseTree, Lines, Empty, Simple, Return, Break, Continue, Block, If, For, Branch, NoElse, ElseBlock, ElseIf, NoLines, Line, FuncTree, DeclTree, Value, Types, Func, TopTree, ImportSpecTree, ImportTree, FileTree}
use Rattle.go_names_core.specs.local_core.WalksEnds.{is_blank_target}
use Rattle.go_tree_core.specs.copies.Respelled.{some_with, type_with, signature_with, expr_with, exprs_with, values_with, value_spec_with, line_with, specs_with, type_spec_with, simple_with, init_with, if_with, for_with, stmt_with, branch_with, else_with, lines_with, receiver_with, func_with, decl_with, top_with, import_name_with, import_spec_with, import_with, respelled_file}
use Rattle.go_tree_core.specs.declared.occurrence.Context.TheVariants as context
use Rattle.go_tree_core.specs.declared.occurrence.Occ.{Occ}
use Rattle.go_tree_core.specs.declared.occurrence.Role.TheVariants as role
use Rattle.go_tree_core.specs.Occurrences.{occurrence, expr_occs, exprs_occs, some_expr_occs, some_exprs_occs, some_type_occs, values_occs, value_spec_occs, group_occs, specs_occs, type_spec_occs, simple_occs, some_simple_occs, init_occs, if_occs, for_occs, stmt_occs, branch_occs, else_occs, lines_occs, receiver_occs, func_occs, decl_occs, tops_occs, import_occs, imports_occs, file_occs, is_identifier}
use Rattle.go_query_core.specs.complete_core.SpellingTrees.{RespellsValues, InValues, RespellsSpec, InSomeValues, InSpecType, RespellsGroup, InFirstSpec, InLaterSpecs, RespellsTarget, InTarget, RespellsTargets, InOnlyTarget, InFirstTarget, InLaterTarget, RespellsSimple, InAlone, InStep, InTargets, InAssigned, InUpdated, InUpdate, InDefined, RespellsSpecs, InSingle, InGroup, RespellsInit, InInit, RespellsIf, InIfInit, InIfCondition, RespellsFor, InWhile, InForInit, InTest, InPost, RespellsStmt, InDeclare, InSimple, InReturn, InBraces, InIf, InForHead, InForBody, RespellsBranch, InHead, InThen, InElse, RespellsElse, InElseBlock, InElseIf, RespellsLines, InFirstLine, InLaterLines, value_spec_with as spec_of, with_base, with_receiver, with_signature, with_body}
use Rattle.go_query_core.specs.complete_core.SpellingFiles.{WritesInGroup, AtFirst, AtLater, WritesInSpecs, InTheOnly, InTheGroup, InTop, InLaterTops, InFunc, BehindTop}
use Rattle.go_query_core.specs.complete_core.SpellingOuter.{type_spec_with as type_spec_of, RespellsTypeGroup, InFirstType, InLaterTypes, RespellsTypeSpecs, InOneType, InTypeGroup, RespellsOuterType, InValueType, InTypeDecl, InReceiverType, InHeaderType, InOuterTop, BehindOuterTop}
use Rattle.go_query_core.specs.complete_core.SpellingSpellings.{RespellsTops, InInitialiser, InOuterTypes, InBody}
use Rattle.go_answer_laws.specs.completions.Respelled.{ident_of}
use Rattle.go_answer_laws.proofs.CompletionsAnew.{counted, count, is_there, found, h, Anew, Never, fixed, lifted, past, behind, before, some_quiet, pair, three, declared, idents_anew}
use Rattle.go_answer_laws.proofs.CompletionsTreesAnew.{OfName, OfType, OfSignature, OfExpr, OfExprs, type_name_anew, type_anew, signature_anew, expr_anew, exprs_anew}

module _ (start : ℕ) (name : List ℕ) (named : is_blank name ≡ false) where
  abbrev r : Ident → Ident
  r x = h start name x

  abbrev E : Occ → ExprTree → ExprTree → Type 0
  E = OfExpr start name

  abbrev Es : Occ → Separated ExprTree → Separated ExprTree → Type 0
  Es = OfExprs start name

  value : (header : Bool) (e : ExprTree) → Wf header e → Anew start name E (spell e) (expr_occs context.«Value» e) e (expr_with r e)
  value header e w = expr_anew start name context.«Value» header e w

  values : (header : Bool) (es : Separated ExprTree) → Wf_exprs header es → Anew start name Es (spell_exprs es) (exprs_occs context.«Value» es) es (exprs_with r es)
  values header es w = exprs_anew start name context.«Value» header es w

  -- left of `=`

  no_occs : (e : ExprTree) → is_blank_target e ≡ true → expr_occs context.Target e ≡ []
  no_occs (Named x) b = ap (λ c. if c then [] else occurrence role.«Value» x ∷ []) b
  no_occs (Paren first t last) b = no_occs t b
  no_occs (Integer n span) b = absurd (cc)
  no_occs (Text t) b = absurd (cc)
  no_occs (Unary op span t) b = absurd (cc)
  no_occs (Binary a op span c) b = absurd (cc)
  no_occs (Select t dot x) b = absurd (cc)
  no_occs (Call t first items last) b = absurd (cc)
  no_occs (Literal n first items last) b = absurd (cc)
  no_occs (StructLiteral t first items last) b = absurd (cc)

  stays_named : (x : Ident) → is_blank x.name ≡ false → is_blank (r x).name ≡ false
  stays_named x b = by (nat_eq x.span.start start)
    where
      by : (c : Bool) → is_blank (if c then name else x.name) ≡ false
      by true = named
      by false = b

  no_target : (e : ExprTree) → is_blank_target e ≡ false → is_blank_target (expr_with r e) ≡ false
  no_target (Named x) b = stays_named x b
  no_target (Paren first t last) b = no_target t b
  no_target (Integer n span) b = refl
  no_target (Text t) b = refl
  no_target (Unary op span t) b = refl
  no_target (Binary a op span c) b = refl
  no_target (Select t dot x) b = refl
  no_target (Call t first items last) b = refl
  no_target (Literal n first items last) b = refl
  no_target (StructLiteral t first items last) b = refl

  abbrev OfTarget : Occ → ExprTree → ExprTree → Type 0
  OfTarget o e f = RespellsTarget (ident_of o) name e f

  target_anew : (header : Bool) (e : ExprTree) → Wf header e → Anew start name OfTarget (spell e) (expr_occs context.Target e) e (expr_with r e)
  target_anew header e w =
      let m = expr_anew start name context.Target header e w in
      record { same = m.same; fewer = m.fewer; new = λ few o k. by (is_blank_target e) refl o k (m.new few o k) }
    where
      by : (b : Bool) → is_blank_target e ≡ b → (o : Occ) → found start (expr_occs context.Target e) ≡ o ∷ [] → E o e (expr_with r e) → OfTarget o e (expr_with r e)
      by true b o k m = (let none : [] ≡ o ∷ [] = sym (ap (found start) (no_occs e b)) ∙ k in absurd (cc))
      by false b o k m = InTarget b (no_target e b) m

  abbrev OfTargets : Occ → Separated ExprTree → Separated ExprTree → Type 0
  OfTargets o e f = RespellsTargets (ident_of o) name e f

  targets_anew : (header : Bool) (es : Separated ExprTree) → Wf_exprs header es → Anew start name OfTargets (spell_exprs es) (exprs_occs context.Target es) es (exprs_with r es)
  targets_anew header (One t) w = lifted start name One (λ o a b k. InOnlyTarget k) (target_anew header t w)
  targets_anew header (Then t comma more) w =
      pair start name {P = OfTarget} {Q = OfTargets} {R = OfTargets} (λ a b. Then a comma b) (λ o x y b k. InFirstTarget k) (λ o a x y k. InLaterTarget k) (target_anew header t w.0) (past start name (λ n. refl) (targets_anew header more w.1))

  -- specifications

  abbrev OfSomeType : Occ → Option TypeTree → Option TypeTree → Type 0
  OfSomeType o a b = (t : TypeTree) × (u : TypeTree) × (a ≡ Some t) × (b ≡ Some u) × OfType start name o t u

  some_type_anew : (t : Option TypeTree) → Anew start name OfSomeType (spell_some_type t) (some_type_occs t) t (some_with (type_with r) t)
  some_type_anew None = fixed start name
  some_type_anew (Some t) = lifted start name Some (λ o a b k. (a, b, refl, refl, k)) (type_anew start name t)

  abbrev OfSomeValues : Occ → Option (Span × Separated ExprTree) → Option (Span × Separated ExprTree) → Type 0
  OfSomeValues o a b = (s : Span) × (es : Separated ExprTree) × (fs : Separated ExprTree) × (a ≡ Some (s, es)) × (b ≡ Some (s, fs)) × Es o es fs

  some_values_anew : (v : Option (Span × Separated ExprTree)) → Wf_values v → Anew start name OfSomeValues (spell_values v) (values_occs v) v (some_with (values_with r) v)
  some_values_anew None w = fixed start name
  some_values_anew (Some v) w = past start name (λ n. refl) (lifted start name (λ es. Some (v.0, es)) (λ o a b k. (v.0, a, b, refl, refl, k)) (values false v.1 w))

  -- in its type, or in its values
  pub data OfSpec (o : Occ) : ValueSpecTree → ValueSpecTree → Type 0 where
    SpecType : {xs : Separated Ident} {t u : TypeTree} {vs : Option (Span × Separated ExprTree)} → OfType start name o t u → OfSpec o (spec_of xs (Some t) vs) (spec_of xs (Some u) vs)
    SpecValues : {xs : Separated Ident} {t : Option TypeTree} {s : Span} {es fs : Separated ExprTree} → Es o es fs → OfSpec o (spec_of xs t (Some (s, es))) (spec_of xs t (Some (s, fs)))

  spec_type : (o : Occ) (xs : Separated Ident) (a b : Option TypeTree) (vs : Option (Span × Separated ExprTree)) → OfSomeType o a b → OfSpec o (spec_of xs a vs) (spec_of xs b vs)
  spec_type o xs a b vs k = subst (λ p. OfSpec o (spec_of xs p vs) (spec_of xs b vs)) (sym k.2) (subst (λ q. OfSpec o (spec_of xs (Some k.0) vs) (spec_of xs q vs)) (sym k.3) (SpecType k.4))

  spec_values : (o : Occ) (xs : Separated Ident) (t : Option TypeTree) (a b : Option (Span × Separated ExprTree)) → OfSomeValues o a b → OfSpec o (spec_of xs t a) (spec_of xs t b)
  spec_values o xs t a b k = subst (λ p. OfSpec o (spec_of xs t p) (spec_of xs t b)) (sym k.3) (subst (λ q. OfSpec o (spec_of xs t (Some (k.0, k.1))) (spec_of xs t q)) (sym k.4) (SpecValues k.5))

  spec_anew : (k : ValueKind) (v : ValueSpecTree) → Wf_value_spec k v → Anew start name OfSpec (spell_value_spec v) (value_spec_occs v) v (value_spec_with r v)
  spec_anew k v w =
      three start name {P = Never} {Q = OfSomeType} {S = OfSomeValues} {R = OfSpec} {os = []} spec_of (λ o x y b c m. absurd m) (λ o a x y c m. spec_type o a x y c m) (λ o a b x y m. spec_values o a b x y m)
      (idents_anew start name v.names) (some_type_anew v.type_expr) (some_values_anew v.values w.2)

  of_local : (o : Occ) (v w : ValueSpecTree) → OfSpec o v w → RespellsSpec (ident_of o) name v w
  of_local o v w (SpecType k) = InSpecType k
  of_local o v w (SpecValues k) = InSomeValues (InValues k)

  -- some in parentheses
  module _ {A : Type 0} (spells : A → List Terminal) (occs : A → List Occ) (change : A → A) (R : Occ → A → A → Type 0) (Ok : A → Type 0) (each : (a : A) → Ok a → Anew start name R (spells a) (occs a) a (change a)) where
    -- in one of them
    pub data OfGroup (o : Occ) : List (A × Option Span) → List (A × Option Span) → Type 0 where
      Here : {a b : A} {s : Option Span} {more : List (A × Option Span)} → R o a b → OfGroup o ((a, s) ∷ more) ((b, s) ∷ more)
      There : {a : A × Option Span} {more rest : List (A × Option Span)} → OfGroup o more rest → OfGroup o (a ∷ more) (a ∷ rest)

    pub data OfSpecs (o : Occ) : Specs A → Specs A → Type 0 where
      Only : {a b : A} → R o a b → OfSpecs o (Single a) (Single b)
      Among : {first last : Span} {ls ms : List (A × Option Span)} → OfGroup o ls ms → OfSpecs o (Group first ls last) (Group first ms last)

    group_anew : (ls : List (A × Option Span)) → Wf_group Ok ls → Anew start name OfGroup (spell_specs_of spells ls) (group_occs occs ls) ls (map (line_with change) ls)
    group_anew [] w = fixed start name
    group_anew (l ∷ ls) w =
        pair start name {P = R} {Q = OfGroup} {R = OfGroup} (λ a more. (a, l.1) ∷ more) (λ o x y b k. Here k) (λ o a x y k. There k) (each l.0 w.0) (behind start name _ (some_quiet start name operator.Semicolon l.1) (group_anew ls w.2))

    pub specs_anew : (s : Specs A) → Wf_specs Ok s → Anew start name OfSpecs (spell_specs spells s) (specs_occs occs s) s (specs_with change s)
    specs_anew (Single a) w = lifted start name Single (λ o x y k. Only k) (each a w)
    specs_anew (Group first ls last) w = past start name (λ n. refl) (before start name _ refl (lifted start name (λ l. Group first l last) (λ o x y k. Among k) (group_anew ls w)))

  -- constants and variables of a function

  abbrev OfSpecsOf : ValueKind → Occ → Specs ValueSpecTree → Specs ValueSpecTree → Type 0
  OfSpecsOf k o vs ws = OfSpecs spell_value_spec value_spec_occs (value_spec_with r) OfSpec (Wf_value_spec k) (spec_anew k) o vs ws

  abbrev OfGroupOf : ValueKind → Occ → List (ValueSpecTree × Option Span) → List (ValueSpecTree × Option Span) → Type 0
  OfGroupOf k o vs ws = OfGroup spell_value_spec value_spec_occs (value_spec_with r) OfSpec (Wf_value_spec k) (spec_anew k) o vs ws

  value_specs_anew : (k : ValueKind) (s : Specs ValueSpecTree) → Wf_specs (Wf_value_spec k) s → Anew start name (OfSpecsOf k) (spell_specs spell_value_spec s) (specs_occs value_spec_occs s) s (specs_with (value_spec_with r) s)
  value_specs_anew k s w = specs_anew spell_value_spec value_spec_occs (value_spec_with r) OfSpec (Wf_value_spec k) (spec_anew k) s w

  local_group : (k : ValueKind) (o : Occ) (vs ws : List (ValueSpecTree × Option Span)) → OfGroupOf k o vs ws → RespellsGroup (ident_of o) name vs ws
  local_group k o vs ws (Here m) = InFirstSpec (of_local o _ _ m)
  local_group k o vs ws (There m) = InLaterSpecs (local_group k o _ _ m)

  local_specs : (k : ValueKind) (o : Occ) (vs ws : Specs ValueSpecTree) → OfSpecsOf k o vs ws → RespellsSpecs (ident_of o) name vs ws
  local_specs k o vs ws (Only m) = InSingle (of_local o _ _ m)
  local_specs k o vs ws (Among m) = InGroup (local_group k o _ _ m)

  -- statements

  abbrev OfSimple : Occ → SimpleTree → SimpleTree → Type 0
  OfSimple o a b = RespellsSimple (ident_of o) name a b

  simple_anew : (header : Bool) (s : SimpleTree) → Wf_simple header s → Anew start name OfSimple (spell_simple s) (simple_occs s) s (simple_with r s)
  simple_anew header (Alone t) w = lifted start name Alone (λ o a b k. InAlone k) (value header t w)
  simple_anew header (Step t op span) w = before start name _ refl (lifted start name (λ e. Step e op span) (λ o a b k. InStep k) (value header t w.1))
  simple_anew header (Assign ts span es) w =
      pair start name {P = OfTargets} {Q = Es} {R = OfSimple} (λ a b. Assign a span b) (λ o x y b k. InTargets k) (λ o a x y k. InAssigned k) (targets_anew header ts w.0) (past start name (λ n. refl) (values header es w.1))
  simple_anew header (Update t op span e) w =
      pair start name {P = E} {Q = E} {R = OfSimple} (λ a b. Update a op span b) (λ o x y b k. InUpdated k) (λ o a x y k. InUpdate k) (value header t w.1) (past start name (λ n. refl) (value header e w.2))
  simple_anew header (Define xs span es) w =
      pair start name {P = Never} {Q = Es} {R = OfSimple} {os = []} (λ a b. Define a span b) (λ o x y b k. absurd k) (λ o a x y k. InDefined k) (idents_anew start name xs) (past start name (λ n. refl) (values header es w))

  abbrev OfInit : Occ → Option SimpleTree → Option SimpleTree → Type 0
  OfInit o a b = RespellsInit (ident_of o) name a b

  some_simple_anew : (s : Option SimpleTree) → Wf_some_simple s → Anew start name OfInit (spell_some_simple s) (some_simple_occs s) s (some_with (simple_with r) s)
  some_simple_anew None w = fixed start name
  some_simple_anew (Some s) w = lifted start name Some (λ o a b k. InInit k) (simple_anew true s w)

  abbrev OfFirst : Occ → Option (Option SimpleTree × Span) → Option (Option SimpleTree × Span) → Type 0
  OfFirst o a b = (e : ExprTree) → RespellsIf (ident_of o) name (record { init = a; condition = e }) (record { init = b; condition = e })

  init_anew : (i : Option (Option SimpleTree × Span)) → Wf_init i → Anew start name OfFirst (spell_init i) (init_occs i) i (some_with (init_with r) i)
  init_anew None w = fixed start name
  init_anew (Some i) w = before start name _ refl (lifted start name {P = OfInit} {R = OfFirst} (λ s. Some (s, i.1)) (λ o a b k e. InIfInit k) (some_simple_anew i.0 w))

  abbrev OfIf : Occ → IfTree → IfTree → Type 0
  OfIf o a b = RespellsIf (ident_of o) name a b

  if_anew : (i : IfTree) → Wf_if i → Anew start name OfIf (spell_if i) (if_occs i) i (if_with r i)
  if_anew i w =
      pair start name {P = OfFirst} {Q = E} {R = OfIf} (λ a e. record { init = a; condition = e }) (λ o x y b k. k b) (λ o a x y k. InIfCondition k) (init_anew i.init w.0) (value true i.condition w.1)

  abbrev OfFor : Occ → ForTree → ForTree → Type 0
  OfFor o a b = RespellsFor (ident_of o) name a b

  abbrev OfTest : Occ → Option ExprTree → Option ExprTree → Type 0
  OfTest o a b = (i post : Option SimpleTree) (s t : Span) → OfFor o (Clauses i s a t post) (Clauses i s b t post)

  some_expr_anew : (e : Option ExprTree) → Wf_some_expr e → Anew start name OfTest (spell_some_expr e) (some_expr_occs e) e (some_with (expr_with r) e)
  some_expr_anew None w = fixed start name
  some_expr_anew (Some e) w = lifted start name {P = E} {R = OfTest} Some (λ o a b k i post s t. InTest k) (value true e w)

  for_anew : (f : ForTree) → Wf_for f → Anew start name OfFor (spell_for f) (for_occs f) f (for_with r f)
  for_anew Forever w = fixed start name
  for_anew (While t) w = lifted start name While (λ o a b k. InWhile k) (value true t w)
  for_anew (Clauses init a test b post) w =
      three start name {P = OfInit} {Q = OfTest} {S = OfInit} {R = OfFor} (λ i t p. Clauses i a t b p) (λ o x y t p k. InForInit k) (λ o i x y p k. k i p a b) (λ o i t x y k. InPost k) (some_simple_anew init w.0)
      (past start name (λ n. refl) (some_expr_anew test w.1)) (past start name (λ n. refl) (some_simple_anew post w.2))

  abbrev OfGiven : Occ → Option (Separated ExprTree) → Option (Separated ExprTree) → Type 0
  OfGiven o a b = (s : Span) → RespellsStmt (ident_of o) name (Return s a) (Return s b)

  some_exprs_anew : (es : Option (Separated ExprTree)) → Wf_some_exprs es → Anew start name OfGiven (spell_some_exprs es) (some_exprs_occs es) es (some_with (exprs_with r) es)
  some_exprs_anew None w = fixed start name
  some_exprs_anew (Some es) w = lifted start name {P = Es} {R = OfGiven} Some (λ o a b k s. InReturn k) (values false es w)

  abbrev OfStmt : Occ → StmtTree → StmtTree → Type 0
  OfStmt o a b = RespellsStmt (ident_of o) name a b

  abbrev OfBranch : Occ → BranchTree → BranchTree → Type 0
  OfBranch o a b = RespellsBranch (ident_of o) name a b

  abbrev OfElse : Occ → ElseTree → ElseTree → Type 0
  OfElse o a b = RespellsElse (ident_of o) name a b

  abbrev OfLines : Occ → Lines → Lines → Type 0
  OfLines o a b = RespellsLines (ident_of o) name a b

  mutual
    stmt_anew : (s : StmtTree) → Wf_stmt s → Anew start name OfStmt (spell_stmt s) (stmt_occs s) s (stmt_with r s)
    stmt_anew Empty w = fixed start name
    stmt_anew (tree.Declare v) w =
        past start name (λ n. refl) (lifted start name {P = OfSpecsOf v.kind} {R = OfStmt} (λ s. tree.Declare (record { kind = v.kind; keyword = v.keyword; specs = s })) (λ o a b k. InDeclare (local_specs v.kind o a b k)) (value_specs_anew v.kind v.specs w))
    stmt_anew (Simple s) w = lifted start name Simple (λ o a b k. InSimple k) (simple_anew false s w)
    stmt_anew (Return s es) w = past start name (λ n. refl) (lifted start name {P = OfGiven} {R = OfStmt} (λ e. Return s e) (λ o a b k. k s) (some_exprs_anew es w))
    stmt_anew (Break s) w = fixed start name
    stmt_anew (Continue s) w = fixed start name
    stmt_anew (Block first ls last) w = past start name (λ n. refl) (before start name _ refl (lifted start name (λ l. Block first l last) (λ o a b k. InBraces k) (lines_anew ls w)))
    stmt_anew (If b) w = lifted start name If (λ o a b k. InIf k) (branch_anew b w)
    stmt_anew (For k head first ls last) w =
        past start name (λ n. refl)
        (pair start name {P = OfFor} {Q = OfLines} {R = OfStmt} (λ a b. For k a first b last) (λ o x y b m. InForHead m) (λ o a x y m. InForBody m) (for_anew head w.0) (past start name (λ n. refl) (before start name _ refl (lines_anew ls w.1))))

    branch_anew : (b : BranchTree) → Wf_branch b → Anew start name OfBranch (spell_branch b) (branch_occs b) b (branch_with r b)
    branch_anew (Branch k head first ls last otherwise) w =
        past start name (λ n. refl)
        (three start name {P = OfIf} {Q = OfLines} {S = OfElse} {R = OfBranch} (λ a b c. Branch k a first b last c) (λ o x y b c m. InHead m) (λ o a x y c m. InThen m) (λ o a b x y m. InElse m) (if_anew head w.0)
        (past start name (λ n. refl) (lines_anew ls w.1)) (past start name (λ n. refl) (else_anew otherwise w.2)))

    else_anew : (e : ElseTree) → Wf_else e → Anew start name OfElse (spell_else e) (else_occs e) e (else_with r e)
    else_anew NoElse w = fixed start name
    else_anew (ElseBlock k first ls last) w = past start name (λ n. refl) (past start name (λ n. refl) (before start name _ refl (lifted start name (λ l. ElseBlock k first l last) (λ o a b m. InElseBlock m) (lines_anew ls w))))
    else_anew (ElseIf k b) w = past start name (λ n. refl) (lifted start name (λ c. ElseIf k c) (λ o x y m. InElseIf m) (branch_anew b w))

    lines_anew : (ls : Lines) → Wf_lines ls → Anew start name OfLines (spell_lines ls) (lines_occs ls) ls (lines_with r ls)
    lines_anew NoLines w = fixed start name
    lines_anew (Line c s rest) w =
        pair start name {P = OfStmt} {Q = OfLines} {R = OfLines} (λ a b. Line a s b) (λ o x y b k. InFirstLine k) (λ o a x y k. InLaterLines k) (stmt_anew c w.0) (behind start name _ (some_quiet start name operator.Semicolon s) (lines_anew rest w.2))

  -- functions: in the receiver, in the rest of the header, or in the body

  abbrev OfReceiver : Occ → Option Receiver → Option Receiver → Type 0
  OfReceiver o a b = (q : Receiver) × (n : TypeName) × (a ≡ Some q) × (b ≡ Some (with_base q n)) × OfName start name o q.base n

  receiver_name_anew : (x : Option Ident) → Anew start name Never (spell_receiver_name x) [] x (some_with r x)
  receiver_name_anew None = fixed start name
  receiver_name_anew (Some x) = lifted start name Some (λ o a b k. k) (declared start name x)

  receiver_anew : (q : Option Receiver) → Anew start name OfReceiver (spell_receiver q) (receiver_occs q) q (some_with (receiver_with r) q)
  receiver_anew None = fixed start name
  receiver_anew (Some q) =
      past start name (λ n. refl)
      (pair start name {P = Never} {Q = OfName start name} {R = OfReceiver} {os = []} {a = q.name} {b = q.base} (λ x n. Some (record { open_paren = q.open_paren; name = x; star = q.star; base = n; comma = q.comma; close_paren = q.close_paren }))
      (λ o x y b k. absurd k) (λ o x m n k. (record { open_paren = q.open_paren; name = x; star = q.star; base = m; comma = q.comma; close_paren = q.close_paren }, n, refl, refl, k)) (receiver_name_anew q.name)
      (behind start name _ (some_quiet start name operator.Star q.star) (before start name _ (tail_quiet q.comma q.close_paren) (type_name_anew start name q.base))))
    where
      tail_quiet : (c : Option Span) (s : Span) → count start (spell_some operator.Comma c ++ mark operator.CloseParen s ∷ []) ≡ 0
      tail_quiet None s = refl
      tail_quiet (Some c) s = refl

  abbrev func_from : FuncTree → Option Receiver → Ident → SignatureTree → Lines → FuncTree
  func_from f q x g ls = record { func = f.func; receiver = q; name = x; signature = g; open_brace = f.open_brace; body = ls; close_brace = f.close_brace }

  pub data OfFunc (o : Occ) : FuncTree → FuncTree → Type 0 where
    AtReceiver : {f : FuncTree} {q : Receiver} {n : TypeName} → f.receiver ≡ Some q → OfName start name o q.base n → OfFunc o f (with_receiver f (with_base q n))
    AtSignature : {f : FuncTree} {g : SignatureTree} → OfSignature start name o f.signature g → OfFunc o f (with_signature f g)
    AtBody : {f : FuncTree} {ls : Lines} → OfLines o f.body ls → OfFunc o f (with_body f ls)

  func_anew : (f : FuncTree) → Wf_decl (Func f) → Anew start name OfFunc (spell_func f) (func_occs f) f (func_with r f)
  func_anew f w =
      let Rest : Occ → Ident × SignatureTree × Lines → Ident × SignatureTree × Lines → Type 0 = λ o p s. (q : Option Receiver) → OfFunc o (func_from f q p.0 p.1 p.2) (func_from f q s.0 s.1 s.2) in
      past start name (λ n. refl)
      (pair start name {P = OfReceiver} {Q = Rest} {R = OfFunc} {a = f.receiver} {c = some_with (receiver_with r) f.receiver} {b = (f.name, f.signature, f.body)} {d = (r f.name, signature_with r f.signature, lines_with r f.body)} (λ q p. func_from f q p.0 p.1 p.2)
      (λ o x y p k. subst (λ (z : Option Receiver). OfFunc o (func_from f x p.0 p.1 p.2) (func_from f z p.0 p.1 p.2)) (sym k.3) (AtReceiver {f = func_from f x p.0 p.1 p.2} k.2 k.4)) (λ o q a b k. k q) (receiver_anew f.receiver)
      (three start name {P = Never} {Q = OfSignature start name} {S = OfLines} {R = Rest} {ts = spell_ident f.name ∷ []} {os = []} {a = f.name} {b = f.signature} {c = f.body} (λ x g ls. (x, g, ls)) (λ o x y b c k. absurd k)
      (λ o x a b ls k q. AtSignature {f = func_from f q x a ls} k) (λ o x g a b k q. AtBody {f = func_from f q x g a} k) (declared start name f.name) (signature_anew start name f.signature)
      (past start name (λ n. refl) (before start name _ refl (lines_anew f.body w.1)))))

  -- declarations of types

  pub data OfTypeSpec (o : Occ) : TypeSpecTree → TypeSpecTree → Type 0 where
    AtType : {t : TypeSpecTree} {u : TypeTree} → OfType start name o t.type_expr u → OfTypeSpec o t (type_spec_of t u)

  abbrev IsFine : TypeSpecTree → Type 0
  IsFine t = Wf_type_spec t

  type_spec_anew : (t : TypeSpecTree) → IsFine t → Anew start name OfTypeSpec (spell_type_spec t) (type_spec_occs t) t (type_spec_with r t)
  type_spec_anew t w =
      pair start name {P = Never} {Q = OfType start name} {R = OfTypeSpec} {ts = spell_ident t.name ∷ []} {os = []} {a = t.name} {b = t.type_expr} (λ y u. record t { name = y; type_expr = u }) (λ o x y b k. absurd k) (λ o a x y k. AtType {t = record t { name = a; type_expr = x }} k) (declared start name t.name)
      (behind start name _ (some_quiet start name operator.Assign t.alias) (type_anew start name t.type_expr))

  abbrev OfTypeSpecs : Occ → Specs TypeSpecTree → Specs TypeSpecTree → Type 0
  OfTypeSpecs o vs ws = OfSpecs spell_type_spec type_spec_occs (type_spec_with r) OfTypeSpec IsFine type_spec_anew o vs ws

  abbrev OfTypeGroup : Occ → List (TypeSpecTree × Option Span) → List (TypeSpecTree × Option Span) → Type 0
  OfTypeGroup o vs ws = OfGroup spell_type_spec type_spec_occs (type_spec_with r) OfTypeSpec IsFine type_spec_anew o vs ws

  one_type : (o : Occ) (t u : TypeSpecTree) → OfTypeSpec o t u → RespellsTypeSpecs (ident_of o) name (Single t) (Single u)
  one_type o t u (AtType k) = InOneType k

  first_type : (o : Occ) (t u : TypeSpecTree) (s : Option Span) (more : List (TypeSpecTree × Option Span)) → OfTypeSpec o t u → RespellsTypeGroup (ident_of o) name ((t, s) ∷ more) ((u, s) ∷ more)
  first_type o t u s more (AtType k) = InFirstType k

  type_group : (o : Occ) (vs ws : List (TypeSpecTree × Option Span)) → OfTypeGroup o vs ws → RespellsTypeGroup (ident_of o) name vs ws
  type_group o vs ws (Here k) = first_type o _ _ _ _ k
  type_group o vs ws (There k) = InLaterTypes (type_group o _ _ k)

  type_specs : (o : Occ) (vs ws : Specs TypeSpecTree) → OfTypeSpecs o vs ws → RespellsTypeSpecs (ident_of o) name vs ws
  type_specs o vs ws (Only k) = one_type o _ _ k
  type_specs o vs ws (Among k) = InTypeGroup (type_group o _ _ k)

  -- declarations: in an initialiser, in a type or a header, or in a body

  pub data OfDecl (o : Occ) : DeclTree → DeclTree → Type 0 where
    AtValues : {k : ValueKind} {place : Span} {vs ws : Specs ValueSpecTree} {v w : ValueSpecTree} → RespellsValues (ident_of o) name v w → WritesInSpecs v w vs ws
        → OfDecl o (Value (record { kind = k; keyword = place; specs = vs })) (Value (record { kind = k; keyword = place; specs = ws }))
    AtOuter : {d e : DeclTree} → RespellsOuterType (ident_of o) name d e → OfDecl o d e
    AtLines : {f : FuncTree} {ls : Lines} → OfLines o f.body ls → OfDecl o (Func f) (Func (with_body f ls))

  record InOneSpec (o : Occ) (vs ws : Specs ValueSpecTree) : Type 0 where
    v : ValueSpecTree
    w : ValueSpecTree
    of_spec : OfSpec o v w
    writes : WritesInSpecs v w vs ws

  record InOneOf (o : Occ) (vs ws : List (ValueSpecTree × Option Span)) : Type 0 where
    v : ValueSpecTree
    w : ValueSpecTree
    of_spec : OfSpec o v w
    writes : WritesInGroup v w vs ws

  one_of : (k : ValueKind) (o : Occ) (vs ws : List (ValueSpecTree × Option Span)) → OfGroupOf k o vs ws → InOneOf o vs ws
  one_of k o vs ws (Here {a = a} {b = b} m) = record { v = a; w = b; of_spec = m; writes = AtFirst }
  one_of k o vs ws (There m) = (let it = one_of k o _ _ m in record { v = it.v; w = it.w; of_spec = it.of_spec; writes = AtLater it.writes })

  one_spec : (k : ValueKind) (o : Occ) (vs ws : Specs ValueSpecTree) → OfSpecsOf k o vs ws → InOneSpec o vs ws
  one_spec k o vs ws (Only {a = a} {b = b} m) = record { v = a; w = b; of_spec = m; writes = InTheOnly }
  one_spec k o vs ws (Among m) = (let it = one_of k o _ _ m in record { v = it.v; w = it.w; of_spec = it.of_spec; writes = InTheGroup it.writes })

  abbrev value_decl : ValueKind → Span → Specs ValueSpecTree → DeclTree
  value_decl k place vs = Value (record { kind = k; keyword = place; specs = vs })

  of_value : (k : ValueKind) (place : Span) (o : Occ) (vs ws : Specs ValueSpecTree) → OfSpecsOf k o vs ws → OfDecl o (value_decl k place vs) (value_decl k place ws)
  of_value k place o vs ws m = (let it = one_spec k o vs ws m in by it.v it.w it.of_spec it.writes)
    where
      by : (v w : ValueSpecTree) → OfSpec o v w → WritesInSpecs v w vs ws → OfDecl o (value_decl k place vs) (value_decl k place ws)
      by v w (SpecType t) s = AtOuter (InValueType t s)
      by v w (SpecValues t) s = AtValues (InValues t) s

  of_func : (o : Occ) (f g : FuncTree) → OfFunc o f g → OfDecl o (Func f) (Func g)
  of_func o f g (AtReceiver e k) = AtOuter (InReceiverType e k)
  of_func o f g (AtSignature k) = AtOuter (InHeaderType k)
  of_func o f g (AtBody k) = AtLines k

  decl_anew : (d : DeclTree) → Wf_decl d → Anew start name OfDecl (spell_decl d) (decl_occs d) d (decl_with r d)
  decl_anew (Value v) w = past start name (λ n. refl) (lifted start name {P = OfSpecsOf v.kind} {R = OfDecl} (λ s. value_decl v.kind v.keyword s) (λ o a b k. of_value v.kind v.keyword o a b k) (value_specs_anew v.kind v.specs w))
  decl_anew (Types t) w =
      past start name (λ n. refl)
      (lifted start name {P = OfTypeSpecs} {R = OfDecl} (λ s. Types (record { keyword = t.keyword; specs = s })) (λ o a b k. AtOuter (InTypeDecl (type_specs o a b k))) (specs_anew spell_type_spec type_spec_occs (type_spec_with r) OfTypeSpec IsFine type_spec_anew t.specs w))
  decl_anew (Func f) w = lifted start name {P = OfFunc} {R = OfDecl} Func (λ o a b k. of_func o a b k) (func_anew f w)

  abbrev OfTops : Occ → List TopTree → List TopTree → Type 0
  OfTops o ds es = RespellsTops (ident_of o) name ds es

  first_top : (o : Occ) (d e : DeclTree) (s : Span) (more : List TopTree) → OfDecl o d e → OfTops o (record { decl = d; semicolon = s } ∷ more) (record { decl = e; semicolon = s } ∷ more)
  first_top o d e s more (AtValues k m) = InInitialiser k (InTop m)
  first_top o d e s more (AtOuter k) = InOuterTypes (InOuterTop k)
  first_top o d e s more (AtLines k) = InBody k InFunc

  later_top : (o : Occ) (d : TopTree) (ds es : List TopTree) → OfTops o ds es → OfTops o (d ∷ ds) (d ∷ es)
  later_top o d ds es (InInitialiser k m) = InInitialiser k (InLaterTops m)
  later_top o d ds es (InOuterTypes k) = InOuterTypes (BehindOuterTop k)
  later_top o d ds es (InBody k m) = InBody k (BehindTop m)

  tops_anew : (ds : List TopTree) → Wf_tops ds → Anew start name OfTops (spell_tops ds) (tops_occs ds) ds (map (top_with r) ds)
  tops_anew [] w = fixed start name
  tops_anew (d ∷ ds) w =
      pair start name {P = OfDecl} {Q = OfTops} {R = OfTops} {a = d.decl} {b = ds} (λ e more. record { decl = e; semicolon = d.semicolon } ∷ more) (λ o x y b k. first_top o x y d.semicolon b k) (λ o a x y k. later_top o (record { decl = a; semicolon = d.semicolon }) x y k)
      (decl_anew d.decl w.0) (past start name (λ n. refl) (tops_anew ds w.1))

  -- imports have no identifier that is used

  import_name_anew : (n : ImportName) → Anew start name Never (spell_import_name n) [] n (import_name_with r n)
  import_name_anew import_name.Own = fixed start name
  import_name_anew (import_name.Named x) = lifted start name import_name.Named (λ o a b k. k) (declared start name x)
  import_name_anew (import_name.Dot s) = fixed start name

  abbrev Any : ImportSpecTree → Type 0
  Any i = Unit {0}

  import_anew : (i : ImportSpecTree) → Any i → Anew start name Never (spell_import i) (import_occs i) i (import_spec_with r i)
  import_anew i w =
      let m = before start name {R = Never} _ refl (lifted start name {P = Never} {R = Never} (λ n. record { name = n; path = i.path }) (λ o a b k. k) (import_name_anew i.name)) in
      record { same = m.same; fewer = m.fewer; new = m.new }

  abbrev OfImports : Occ → Specs ImportSpecTree → Specs ImportSpecTree → Type 0
  OfImports o a b = OfSpecs spell_import import_occs (import_spec_with r) Never Any import_anew o a b

  no_import_group : (o : Occ) (a b : List (ImportSpecTree × Option Span)) → OfGroup spell_import import_occs (import_spec_with r) Never Any import_anew o a b → ⊥
  no_import_group o a b (Here k) = k
  no_import_group o a b (There k) = no_import_group o _ _ k

  no_import : (o : Occ) (a b : Specs ImportSpecTree) → OfImports o a b → ⊥
  no_import o a b (Only k) = k
  no_import o a b (Among k) = no_import_group o _ _ k

  imports_anew : (is : List ImportTree) → Wf_imports is → Anew start name Never (spell_imports is) (imports_occs is) is (map (import_with r) is)
  imports_anew [] w = fixed start name
  imports_anew (i ∷ is) w =
      pair start name {P = Never} {Q = Never} {R = Never} {ts = word keyword.Import i.keyword ∷ spell_specs spell_import i.specs} {a = i} {b = is} (λ a more. a ∷ more) (λ o x y b k. k) (λ o a x y k. k)
      (past start name (λ n. refl) (lifted start name {P = OfImports} {R = Never} (λ s. record { keyword = i.keyword; specs = s; semicolon = i.semicolon }) (λ o a b k. no_import o a b k)
      (specs_anew spell_import import_occs (import_spec_with r) Never Any import_anew i.specs w.0))) (past start name (λ n. refl) (imports_anew is w.1))

  -- files

  abbrev file_from : FileTree → Ident → List ImportTree → List TopTree → FileTree
  file_from f x is ds = record { clause = f.clause; name = x; semicolon = f.semicolon; imports = is; decls = ds }

  pub record OfFile (o : Occ) (f g : FileTree) : Type 0 where
    pub respells : OfTops o f.decls g.decls
    pub rest : g ≡ file_from f f.name f.imports g.decls

  pub file_anew : (f : FileTree) → Wf_file f → Anew start name OfFile (spell_file f) (file_occs f) f (respelled_file start name f)
  file_anew f w =
      past start name (λ n. refl)
      (three start name {P = Never} {Q = Never} {S = OfTops} {R = OfFile} {ts = spell_ident f.name ∷ []} {os = []} {a = f.name} {b = f.imports} {c = f.decls} (λ x is ds. file_from f x is ds) (λ o x y b c k. absurd k) (λ o a x y c k. absurd k)
      (λ o x is a b k. record { respells = k; rest = refl }) (declared start name f.name) (past start name (λ n. refl) (imports_anew f.imports w.0)) (tops_anew f.decls w.1))

-- names that begin at an offset

module _ (start : ℕ) where
  other : (k : TerminalKind) (s : Span) (n : ℕ) → start < s.start → counted start k s n ≡ n
  other (Spelled a) s n below = ap (λ b. if b then suc n else n) (not_equal (nat_eq s.start start) refl)
    where
      not_equal : (t : Bool) → nat_eq s.start start ≡ t → nat_eq s.start start ≡ false
      not_equal true e = (let same : s.start ≡ start = eqb-true s.start start e in absurd (omega arith))
      not_equal false e = e
  other (Number a) s n below = refl
  other (Quoted a) s n below = refl
  other (Word a) s n below = refl
  other (Mark o) s n below = refl
  other Stray s n below = refl

  none_later : (ts : List Terminal) (low high : ℕ) → InOrder low ts high → start < low → count start ts ≡ 0
  none_later [] low high p below = refl
  none_later (t ∷ ts) low high p below =
      let a = p.0 in
      let b = p.1 in
      other t.kind t.span (count start ts) (omega (arith, a, below)) ∙ none_later ts t.span.end high p.2 (omega (arith, a, b, below))

  one_name : (k : TerminalKind) (s : Span) (ts : List Terminal) (high : ℕ) → s.start + least_width k ≤ s.end → InOrder s.end ts high → count start ts ≤ 1 → counted start k s (count start ts) ≤ 1
  one_name (Spelled a) s ts high wide p few = by (nat_eq s.start start) refl
    where
      by : (b : Bool) → nat_eq s.start start ≡ b → (if b then suc (count start ts) else count start ts) ≤ 1
      by true e =
          let same : s.start ≡ start = eqb-true s.start start e in
          let none = none_later ts s.end high p (omega (arith, same, wide)) in
          omega (arith, none)
      by false e = few
  one_name (Number a) s ts high wide p few = few
  one_name (Quoted a) s ts high wide p few = few
  one_name (Word a) s ts high wide p few = few
  one_name (Mark o) s ts high wide p few = few
  one_name Stray s ts high wide p few = few

  one_at_most : (ts : List Terminal) (low high : ℕ) → InOrder low ts high → count start ts ≤ 1
  one_at_most [] low high p = omega arith
  one_at_most (t ∷ ts) low high p = one_name t.kind t.span ts high p.1 p.2 (one_at_most ts t.span.end high p.2)

-- the identifier of a number is among those that begin where it begins
found_at : (os : List Occ) (k : ℕ) (o : Occ) → slice_get os k ≡ Some o → is_identifier o.role ≡ true → Contains (found o.span.start os) o
found_at [] k o at is = cc
found_at (p ∷ os) zero o at is =
    let same : p ≡ o = cc in
    let test : is_there o.span.start p ≡ true = ap (λ q. is_there o.span.start q) same ∙ (ap (λ b. b && nat_eq o.span.start o.span.start) is ∙ eq-eqb o.span.start o.span.start refl) in
    subst (λ b. Contains (cond b (p ∷ found o.span.start os) (found o.span.start os)) o) (sym test) (0, omega arith, same)
found_at (p ∷ os) (suc k) o at is = by (is_there o.span.start p) (found_at os k o at is)
  where
    by : (b : Bool) → Contains (found o.span.start os) o → Contains (cond b (p ∷ found o.span.start os) (found o.span.start os)) o
    by true h = Contains-append_right (p ∷ []) (found o.span.start os) o h
    by false h = h

the_only : {A : Type 0} (xs : List A) (x : A) → length xs ≤ 1 → Contains xs x → xs ≡ x ∷ []
the_only [] x few h = (let below : h.0 < 0 = h.1 in absurd (omega arith))
the_only (y ∷ []) x few (zero, below, same) = ap (λ z. z ∷ []) same
the_only (y ∷ []) x few (suc k, below, same) = absurd (omega arith)
the_only (y ∷ (z ∷ xs)) x few h = absurd (omega arith)

-- the file with another spelling of an identifier among its occurrences
pub file_respells : (f : FileTree) (k : ℕ) (o : Occ) (name : List ℕ) (named : is_blank name ≡ false) → Wf_file f → IsPlaced f → slice_get (file_occs f) k ≡ Some o → is_identifier o.role ≡ true → OfFile o.span.start name named o f (respelled_file o.span.start name f)
file_respells f k o name named w p at is =
    let m = file_anew o.span.start name named f w in
    let few = one_at_most o.span.start (spell_file f) 0 p.0 p.1 in
    let fewer = m.fewer in
    m.new few o (the_only (found o.span.start (file_occs f)) o (omega (arith, few, fewer)) (found_at (file_occs f) k o at is))
