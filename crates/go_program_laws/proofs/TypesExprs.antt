-- The expressions of a function fit.
use Rattle.std.proofs.Common.{◌≡◌, inl, inr, ℕ, nat_eq, Bool, true, false, not, ◌&&◌, ◌||◌, List, [], Option, Some, None, Contains, refl, ap, ◌∙◌, subst, if◌then◌else◌}
use Rattle.std.proofs.lemmas.Bool.{and_parts}
use Rattle.go_constant_core.specs.text_core.declared.span.Span.{Span}
use Rattle.go_tree_nodes.specs.declared.names.Ident.{Ident}
use Rattle.go_tree_nodes.specs.Counts.{item_count}
use Rattle.go_tree_nodes.specs.Trees.{ExprTree, FileTree, FuncTree, ItemTrees, Integer, Text, Named, Paren, Unary, Binary, Select, Call, Literal, StructLiteral, NoItems, Item}
use Rattle.go_names_core.specs.local_core.Binding.{Local}
use Rattle.go_names_core.specs.local_core.Steps.{Piece}
use Rattle.go_term_core.specs.Terms.{Term, Sign}
use Rattle.go_report_core.specs.denote_core.declared.things.Stand.{Stand}
use Rattle.go_report_core.specs.denote_core.declared.things.Stand.TheVariants as stands
use Rattle.go_report_core.specs.expr_core.Places.{inside, left_place, under_place}
use Rattle.go_report_core.specs.expr_core.Uses.{uses}
use Rattle.go_report_core.specs.expr_core.Faults.{faults}
use Rattle.go_meaning_laws.specs.handle_core.Declarations.{Declaration}
use Rattle.go_body_core.specs.env_core.declared.meaning.Meaning.{Meaning as NameMeaning}
use Rattle.go_body_core.specs.env_core.Looks.{TheLooks}
use Rattle.go_emit_core.specs.package_core.PackagePartInputs.{InputModel}
use Rattle.go_emit_core.specs.package_core.PackagePartParts.{ContentOf, FileOf}
use Rattle.go_object_core.specs.declared.instructions.letters.Word.{Word}
use Rattle.go_code_core.specs.declared.fragments.names.Gives.{Gives}
use Rattle.go_code_core.specs.declared.fragments.names.Gives.TheVariants as gives
use Rattle.go_code_core.specs.declared.fragments.names.Meaning.{Meaning}
use Rattle.go_code_core.specs.declared.fragments.names.Meaning.TheVariants as meanings
use Rattle.go_code_core.specs.fragments.Fragment.{all_ones, binary_word, call_gives, expr_gives, is_one, is_other, means_method, over, receiver_fits, selected_gives, unary_word}
use Rattle.go_code_core.specs.fragments.Names.{CodeLooks, Frame, callee_meaning}
use Rattle.go_code_core.specs.fragments.Slots.{slots_of}
use Rattle.go_code_core.specs.Code.{frame_in, letters}
use Rattle.go_meaning_laws.specs.source_meaning.Meaning.{SourceOf}
use Rattle.go_meaning_laws.specs.fitting_sources.Fitting.{CalleeFits, ExprFits, ItemsFit, NameFits, Typing, receiver_letters}
use Rattle.go_emit_core.specs.Emitted.{body_first, told_to}
use Rattle.go_workspace_laws.specs.folding.Laws.{AreMeant}
use Rattle.go_workspace_laws.specs.folding.Parts.{item_parts, parts}
use Rattle.go_workspace_laws.proofs.FoldingFolding.{expressions_typed}
use Rattle.go_workspace_laws.specs.ConstantLaws.{code_names_of}
use Rattle.go_workspace_laws.specs.Standing.{piece_exprs, pieces_of}
use Rattle.go_workspace_laws.proofs.Agree.{are_meant, none_broken}
use Rattle.go_workspace_laws.proofs.ConstantLists.{HasItem, contained, has_left, has_right}
use Rattle.go_program_laws.specs.checked_sources.Operators.{OperatorFits}
use Rattle.go_program_laws.specs.checked_sources.Statements.{AreAlike, IsClearAt}
use Rattle.go_program_laws.proofs.CheckedSourcesCalling.{conversions_keep_words}
use Rattle.go_program_laws.proofs.CheckedSourcesNaming.{names_no_methods}
use Rattle.go_program_laws.proofs.CheckedSourcesOperators.{operators_fit}
use Rattle.go_program_laws.proofs.CheckedSourcesVariables.{variables_over_one}
use Rattle.go_program_laws.specs.types.Fits.{IsCallServed, IsServed}
use Rattle.go_program_laws.specs.types.Functions.{IsFunction, function_looks, meaning_there, source_with, typing_in}
use Rattle.go_program_laws.specs.types.Scope.{AreDeclaredBefore}
use Rattle.go_program_laws.proofs.TypesAlike.{alike}
use Rattle.go_program_laws.proofs.TypesReady.{AreGiven, read}

-- what gives

pub one_fits : (g : Gives) → is_one g ≡ true → is_other g ≡ false
one_fits (gives.One w) h = refl
one_fits gives.Nothing h = absurd (cc h)
one_fits gives.Other h = absurd (cc h)

-- an operator gives one word, where its operands give one each
operated : (b : Bool) (o : Option Word) → is_other (if b then over o else gives.Other) ≡ false → (b ≡ true) × (w : Word) × ((if b then over o else gives.Other) ≡ gives.One w)
operated true (Some w) h = (refl, w, refl)
operated true None h = absurd (cc h)
operated false o h = absurd (cc h)

called : (b : Bool) (g : Gives) → is_other (if b then g else gives.Other) ≡ false → (b ≡ true) × (is_other g ≡ false)
called true g h = (refl, h)
called false g h = absurd (cc h)

converted : (b d : Bool) (w : Word) → is_other (if b then (if d then gives.One w else gives.Other) else gives.Other) ≡ false → (if b then (if d then gives.One w else gives.Other) else gives.Other) ≡ gives.One w
converted true true w h = refl
converted true false w h = absurd (cc h)
converted false d w h = absurd (cc h)

selected_none : {A : Type 0} (m : Meaning) → is_other (selected_gives m) ≡ false → means_method m ≡ true → A
selected_none (meanings.Constant v) h e = absurd (cc e)
selected_none (meanings.Method g) h e = absurd (cc h)
selected_none (meanings.Variable at w) h e = absurd (cc h)
selected_none (meanings.Function g) h e = absurd (cc h)
selected_none (meanings.«Type» w) h e = absurd (cc h)
selected_none meanings.Println h e = absurd (cc h)
selected_none meanings.Panic h e = absurd (cc h)
selected_none meanings.Other h e = absurd (cc h)

or_second : (a b : Bool) → (not a || b) ≡ true → a ≡ true → b ≡ true
or_second true b h e = h
or_second false b h e = absurd (cc e)

module _ (laws : AreGiven) (program : List SourceOf) (callees : List (Option ℕ)) (i : InputModel) (c : ContentOf) (n : ℕ) (t : FileTree) (f : FileOf) (g : FuncTree) (all : List (Local NameMeaning)) (h : IsFunction i c n t f g all) (served : IsServed program callees i c n t f g all) where
  abbrev looks : TheLooks
  looks = function_looks i c n t all

  abbrev code : CodeLooks
  code = code_names_of i c n f g

  abbrev s : SourceOf
  s = source_with code callees g

  abbrev typing : Typing
  typing = typing_in i c f

  abbrev frame : Frame
  frame = frame_in code g

  pub are_alike : AreAlike Term Sign Declaration (List ℕ) looks (meaning_there i c n f)
  are_alike = alike laws i c n t f g all h served.methods served.constants

  -- an expression of a piece, where these are declared so far
  module _ (ds : List (Option ℕ)) (p : Piece) (piece : Contains (pieces_of g) p) (before : AreDeclaredBefore code ds p) (root : ExprTree) (expr : Contains (piece_exprs p) root) where
    meant : AreMeant code (meaning_there i c n f) (uses looks stands.«Value» root)
    meant = are_meant laws.fine laws.one laws.of_locals laws.funcs laws.binds laws.between i c h.input h.others h.part h.clean n t f h.tree h.file h.grammar h.placed g h.func all h.right p piece root expr

    sound : faults looks stands.«Value» root ≡ []
    sound = none_broken laws.fine laws.one laws.of_locals laws.funcs laws.binds laws.between i c h.input h.others h.part h.clean n t f h.tree h.file h.grammar h.placed g h.func all h.right p piece root expr

    clear : IsClearAt Term Sign Declaration (List ℕ) looks code (meaning_there i c n f) stands.«Value» root
    clear = record { alike = are_alike; meant = meant; sound = sound }

    abbrev Part : Stand → ExprTree → Type 0
    Part q e = HasItem (parts stands.«Value» root) (q, e)

    abbrev Parts : Stand → ExprTree → Type 0
    Parts q e = (r : Stand) (x : ExprTree) → HasItem (parts q e) (r, x) → Part r x

    inside_root : (q : Stand) (e : ExprTree) → Part q e → Contains (parts stands.«Value» root) (q, e)
    inside_root q e k = contained (parts stands.«Value» root) (q, e) k

    name_fits : (q : Stand) (x : Ident) → Part q (Named x) → (m : Meaning) → code.meaning x.span.start ≡ m → NameFits program s typing ds m
    name_fits q x k (meanings.Variable at w) is =
        (before root expr q x (inside_root q (Named x) k) at w is, variables_over_one (told_to i c) i c n f.answers.uses f.answers.locals (body_first f.answers.uses g) x.span.start at w is)
    name_fits q x k (meanings.Method r) is =
        names_no_methods Term Sign Declaration (List ℕ) looks code (meaning_there i c n f) stands.«Value» root (read laws i c n t f g all h) meant sound q x (inside_root q (Named x) k) r is
    name_fits q x k (meanings.Constant v) is = tt
    name_fits q x k (meanings.Function r) is = tt
    name_fits q x k (meanings.«Type» w) is = tt
    name_fits q x k meanings.Println is = tt
    name_fits q x k meanings.Panic is = tt
    name_fits q x k meanings.Other is = tt

    operator_fits : (q : Stand) (e : ExprTree) → Part q e → (w : Word) → expr_gives frame e ≡ gives.One w → OperatorFits frame e
    operator_fits q e k w one =
        operators_fit Term Sign Declaration (List ℕ) (expressions_typed Term Sign Declaration (List ℕ)) looks code (meaning_there i c n f) (slots_of code g) stands.«Value» root are_alike.read are_alike.typed are_alike.keep are_alike.identity meant sound q e
        (inside_root q e k) w one

    callee_is : (q : Stand) (e : ExprTree) (first : Span) (items : ItemTrees) (last : Span) → Part q (Call e first items last) → all_ones frame items ≡ true → receiver_fits frame e ≡ true → (m : Meaning) → callee_meaning code e ≡ m
        → is_other (if receiver_fits frame e && all_ones frame items then call_gives m (item_count items) else gives.Other) ≡ false → CalleeFits program s typing m first.start (receiver_letters frame e) (letters frame items)
    callee_is q e first items last k ones received (meanings.Function r) is fits =
        subst (λ m. IsCallServed program s typing m first.start (receiver_letters frame e) (letters frame items)) is (served.calls p piece root expr q e first items last (inside_root q (Call e first items last) k) ones received)
    callee_is q e first items last k ones received (meanings.Method r) is fits =
        subst (λ m. IsCallServed program s typing m first.start (receiver_letters frame e) (letters frame items)) is (served.calls p piece root expr q e first items last (inside_root q (Call e first items last) k) ones received)
    callee_is q e first items last k ones received (meanings.«Type» w) is fits =
        let one : expr_gives frame (Call e first items last) ≡ gives.One w =
        ap (λ m. if receiver_fits frame e && all_ones frame items then call_gives m (item_count items) else gives.Other) is ∙ converted (receiver_fits frame e && all_ones frame items) (nat_eq (item_count items) 1) w fits in
        conversions_keep_words Term Sign Declaration (List ℕ) looks code (meaning_there i c n f) (slots_of code g) stands.«Value» root clear q e first items last (inside_root q (Call e first items last) k) w is w one
    callee_is q e first items last k ones received (meanings.Variable at w) is fits = tt
    callee_is q e first items last k ones received (meanings.Constant v) is fits = tt
    callee_is q e first items last k ones received meanings.Println is fits = tt
    callee_is q e first items last k ones received meanings.Panic is fits = tt
    callee_is q e first items last k ones received meanings.Other is fits = tt

    mutual
      pub expr_fits : (q : Stand) (e : ExprTree) → Parts q e → is_other (expr_gives frame e) ≡ false → ExprFits program s typing ds e
      expr_fits q (Integer k span) all fits = served.integers p piece root expr q k span (inside_root q (Integer k span) (all q (Integer k span) (inl refl)))
      expr_fits q (Text x) all fits = tt
      expr_fits q (Named x) all fits = name_fits q x (all q (Named x) (inl refl)) (code.meaning x.span.start) refl
      expr_fits q (Paren first e last) all fits = expr_fits (inside q) e (λ r x k. all r x (inr k)) fits
      expr_fits q (Unary op span e) all fits =
          let o = operated (is_one (expr_gives frame e)) (unary_word op) fits in
          (operator_fits q (Unary op span e) (all q (Unary op span e) (inl refl)) o.1 o.2, expr_fits (under_place op q) e (λ r x k. all r x (inr k)) (one_fits (expr_gives frame e) o.0))
      expr_fits q (Binary a op span b) all fits =
          let o = operated (is_one (expr_gives frame a) && is_one (expr_gives frame b)) (binary_word op) fits in
          let both = and_parts (is_one (expr_gives frame a)) (is_one (expr_gives frame b)) o.0 in (
            operator_fits q (Binary a op span b) (all q (Binary a op span b) (inl refl)) o.1 o.2,
            expr_fits stands.«Value» a (λ r x k. all r x (inr (has_left (parts stands.«Value» a) (parts stands.«Value» b) (r, x) k))) (one_fits (expr_gives frame a) both.0),
            expr_fits stands.«Value» b (λ r x k. all r x (inr (has_right (parts stands.«Value» a) (parts stands.«Value» b) (r, x) k))) (one_fits (expr_gives frame b) both.1),
          )
      expr_fits q (Select e dot x) all fits = λ method. selected_none (code.meaning x.span.start) fits method
      expr_fits q (Call e first items last) all fits =
          let b = called (receiver_fits frame e && all_ones frame items) (call_gives (callee_meaning code e) (item_count items)) fits in
          let both = and_parts (receiver_fits frame e) (all_ones frame items) b.0 in (
            callee_is q e first items last (all q (Call e first items last) (inl refl)) both.1 both.0 (callee_meaning code e) refl fits,
            callee_fits stands.Callee e (λ r x k. all r x (inr (has_left (parts stands.Callee e) (item_parts items) (r, x) k))) both.0 (item_count items) b.1,
            items_fit items (λ r x k. all r x (inr (has_right (parts stands.Callee e) (item_parts items) (r, x) k))) both.1,
          )
      expr_fits q (Literal m first items last) all fits = tt
      expr_fits q (StructLiteral u first items last) all fits = tt

      callee_fits : (q : Stand) (e : ExprTree) → Parts q e → receiver_fits frame e ≡ true → (k : ℕ) → is_other (call_gives (callee_meaning code e) k) ≡ false → ExprFits program s typing ds e
      callee_fits q (Named x) all received k fits = name_fits q x (all q (Named x) (inl refl)) (code.meaning x.span.start) refl
      callee_fits q (Paren first e last) all received k fits = callee_fits (inside q) e (λ r x j. all r x (inr j)) received k fits
      callee_fits q (Select e dot x) all received k fits =
          λ method. expr_fits (left_place q e) e (λ r y j. all r y (inr j)) (one_fits (expr_gives frame e) (or_second (means_method (code.meaning x.span.start)) (is_one (expr_gives frame e)) received method))
      callee_fits q (Integer j span) all received k fits = absurd (cc fits)
      callee_fits q (Text x) all received k fits = tt
      callee_fits q (Unary op span e) all received k fits = absurd (cc fits)
      callee_fits q (Binary a op span b) all received k fits = absurd (cc fits)
      callee_fits q (Call e first items last) all received k fits = absurd (cc fits)
      callee_fits q (Literal m first items last) all received k fits = tt
      callee_fits q (StructLiteral u first items last) all received k fits = tt

      items_fit : (items : ItemTrees) → ((r : Stand) (x : ExprTree) → HasItem (item_parts items) (r, x) → Part r x) → all_ones frame items ≡ true → ItemsFit program s typing ds items
      items_fit NoItems all ones = tt
      items_fit (Item key e comma rest) all ones =
          let both = and_parts (is_one (expr_gives frame e)) (all_ones frame rest) ones in (
            expr_fits stands.«Value» e (λ r x k. all r x (has_left (parts stands.«Value» e) (item_parts rest) (r, x) k)) (one_fits (expr_gives frame e) both.0),
            items_fit rest (λ r x k. all r x (has_right (parts stands.«Value» e) (item_parts rest) (r, x) k)) both.1,
          )

    -- the whole expression
    pub root_fits : is_other (expr_gives frame root) ≡ false → ExprFits program s typing ds root
    root_fits fits = expr_fits stands.«Value» root (λ r x k. k) fits
