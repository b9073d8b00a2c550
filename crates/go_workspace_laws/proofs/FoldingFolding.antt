-- Each expression of which code is made is an operand to the check, whose constant is the one that code folds.
use Rattle.std.proofs.Common.{◌≡◌, ℕ, suc, Bool, true, false, not, ◌&&◌, ◌||◌, List, Option, Some, refl, sym, ◌∙◌, ap, subst, if◌then◌else◌, arith}
use Rattle.std.specs.Prelude.{⊤, nat_eq, nat_lt, ◌^◌, pos}
use Rattle.std.proofs.lemmas.Bool.{and_parts, eqb-true}
use Rattle.go_path_core.specs.text_core.declared.span.Span.{Span}
use Rattle.go_constant_core.specs.declared.values.Constant.TheVariants as values
use Rattle.go_constant_core.specs.Values.{natural}
use Rattle.go_tree_nodes.specs.Trees.{ExprTree, ItemTrees, Integer, Text, Named, Paren, Unary, Binary, Select, Call, Literal, StructLiteral, NoItems, Item}
use Rattle.go_tree_nodes.specs.Counts.{item_count}
use Rattle.go_report_core.specs.operand_core.declared.types.ValueType.TheVariants as value_types
use Rattle.go_report_core.specs.operand_core.Operators.{value}
use Rattle.go_report_core.specs.operand_core.Values.{basic_under, default_type}
use Rattle.go_report_core.specs.denote_core.declared.things.Stand.{Stand}
use Rattle.go_report_core.specs.denote_core.declared.things.Stand.TheVariants as stands
use Rattle.go_report_core.specs.denote_core.declared.things.Outcome.{Outcome}
use Rattle.go_report_core.specs.denote_core.declared.things.Outcome.TheVariants as outcomes
use Rattle.go_report_core.specs.denote_core.declared.things.Selection.{Selection}
use Rattle.go_report_core.specs.denote_core.declared.things.Selection.TheVariants as selections
use Rattle.go_report_core.specs.operand_core.TypeRules.{TypeRules}
use Rattle.go_report_core.specs.operand_core.declared.types.Operand.{Operand}
use Rattle.go_report_core.specs.denote_core.declared.things.Denoted.{Denoted}
use Rattle.go_report_core.specs.denote_core.declared.things.Denoted.TheVariants as denotes
use Rattle.go_report_core.specs.denote_core.Selectors.{dot_of}
use Rattle.go_report_core.specs.expr_core.Looks.{Looks}
use Rattle.go_report_core.specs.expr_core.Places.{inside, under_place, left_place, whole, is_name, is_literal, is_lone_call}
use Rattle.go_report_core.specs.expr_core.Denoting.{denoted, denoted_items}
use Rattle.go_report_core.specs.expr_core.Uses.{spots, use_of}
use Rattle.go_object_core.specs.declared.instructions.letters.Word.{Word}
use Rattle.go_object_core.specs.declared.instructions.letters.Word.TheVariants as words
use Rattle.go_code_core.specs.declared.fragments.names.ConstantWord.{ConstantWord}
use Rattle.go_code_core.specs.declared.fragments.names.ConstantWord.TheVariants as code_constants
use Rattle.go_code_core.specs.declared.fragments.names.Gives.{Gives}
use Rattle.go_code_core.specs.declared.fragments.names.Gives.TheVariants as gives
use Rattle.go_code_core.specs.declared.fragments.names.Meaning.{Meaning}
use Rattle.go_code_core.specs.declared.fragments.names.Meaning.TheVariants as meanings
use Rattle.go_code_core.specs.fragments.Names as code_names
use Rattle.go_code_core.specs.fragments.Names.{Frame, frame_of, callee_meaning, word_of}
use Rattle.go_code_core.specs.fragments.Fragment.{over, unary_word, binary_word, is_one, expr_gives, all_ones, receiver_fits, call_gives, means_method}
use Rattle.go_code_core.specs.fragments.Constants.{held, some_held, folded, folded_one}
use Rattle.go_workspace_laws.specs.folding.Reading.{basic_of, IsMethodMeant, IsFieldMeant, IsSelectionMeant, IsMemberMeant, AreNamesRead, AreRead, AreReadOver}
use Rattle.go_workspace_laws.specs.folding.Laws.{is_text, IsNoText, constant_in, IsMeant, ConstantsAreFolded, IsFolded, ExpressionsAreFolded}
use Rattle.go_workspace_laws.specs.folding.Typed.{AreTyped, KeepBasics, ExpressionsAreTyped}
use Rattle.go_workspace_laws.proofs.FoldingWords.{one_same}
use Rattle.go_workspace_laws.proofs.FoldingOperators.{IsJudged, operand_judged, unary_of_judged, binary_of_judged}
use Rattle.go_workspace_laws.proofs.FoldingNames.{name_judged, selector_judged, selected_name}
use Rattle.go_workspace_laws.proofs.FoldingCalls.{IsCalleeMeant, IsDotMeant, other_callee, name_callee, selector_callee, IsOneArgument, call_judged}
use Rattle.go_workspace_laws.proofs.FoldingInside.{IsFine, ItemsAreFine, each_right, none_right, no_fault, fine, fine_inside, fine_operand, fine_first, fine_second, fine_left, fine_callee, fine_arguments}

natural_no_text : (n : ℕ) → is_text (natural n) ≡ false
natural_no_text n = by (nat_lt n (2 ^ 63))
  where
    by : (b : Bool) → is_text (if b then values.Int (pos n) else values.Unknown) ≡ false
    by true = refl
    by false = refl

natural_word : (n : ℕ) (k : ConstantWord) → held (natural n) ≡ Some k → word_of k ≡ words.Int
natural_word n k = by (nat_lt n (2 ^ 63))
  where
    by : (b : Bool) → held (if b then values.Int (pos n) else values.Unknown) ≡ Some k → word_of k ≡ words.Int
    by true h = (let same : code_constants.Int (pos n) ≡ k = cc in ap word_of (sym same))
    by false h = absurd cc

-- one value

one_word : (g : Gives) → is_one g ≡ true → (w : Word) × (g ≡ gives.One w)
one_word (gives.One w) h = (w, refl)
one_word gives.Nothing h = absurd cc
one_word gives.Other h = absurd cc

if_one : (b : Bool) (g : Gives) (w : Word) → (if b then g else gives.Other) ≡ gives.One w → (b ≡ true) × (g ≡ gives.One w)
if_one true g w h = (refl, h)
if_one false g w h = absurd cc

or_second : (a b : Bool) → not a || b ≡ true → a ≡ true → b ≡ true
or_second true b h e = h
or_second false b h e = absurd cc

one_only : (n : ℕ) → nat_eq (suc (suc n)) 1 ≡ true → ⊥
one_only n h = (let same : suc (suc n) ≡ 1 = eqb-true (suc (suc n)) 1 h in omega (arith, same))

module _ {T S D P : Type 0} (looks : Looks T S D P) (code : code_names.CodeLooks) (mean : Outcome D P → Meaning) (slots : List (Option ℕ)) (read : AreNamesRead T S D P looks mean)
    (Certain Known : Type 0) (certain : Known → Certain) (typed : Known → AreTyped T S D P looks mean) (keep : Known → KeepBasics looks.types)
    (sure : Certain → (o : Operand T) (w : Word) → (Known → basic_under looks.types o.value_type ≡ Some (basic_of w)) → (t : T) → default_type looks.types o.value_type ≡ Some t → (name : List ℕ) → IsSelectionMeant looks mean (looks.select t name)) where
  abbrev Fine : Stand → ExprTree → Type 0
  Fine p e = IsFine T S D P looks code mean p e

  abbrev frame : Frame
  frame = frame_of code slots

  abbrev Folds : Word → Stand → ExprTree → Type 0
  Folds w p e = IsJudged T S D looks.types Certain Known w (denoted looks p e) (folded code e)

  -- a call, by its one argument where it has one

  call_folds : (p : Stand) (e : ExprTree) (first : Span) (items : ItemTrees) (last : Span) (w : Word) → Fine p (Call e first items last) → IsCalleeMeant looks Certain (denoted looks stands.Callee e) (callee_meaning code e) → call_gives (callee_meaning code e) (item_count items) ≡ gives.One w
      → (nat_eq (item_count items) 1 ≡ true → IsOneArgument T S D looks.types Certain Known (denoted_items looks items) (folded_one code items)) → Folds w p (Call e first items last)
  call_folds p e first items last w h meant one argument =
      call_judged looks Certain Known certain keep first.start (is_lone_call items) (denoted_items looks items) (folded_one code items) (item_count items) argument w (denoted looks stands.Callee e) (callee_meaning code e)
      meant one
      (each_right (λ s. IsMeant D P code mean (use_of looks s)) (spots looks stands.Callee e) _ h.meant).0.declared

  -- an operand over a word

  operand_dot : (x : List ℕ) (d : Denoted T S D) (alone : Bool) (w : Word) (c : Option ConstantWord) → IsJudged T S D looks.types Certain Known w d c → Certain → IsDotMeant looks mean x (dot_of alone d)
  operand_dot x d alone w c j is =
      let o = j.operand is in
      subst (λ (y : Denoted T S D). IsDotMeant looks mean x (dot_of alone y)) (sym o.1) (λ t of. sure is o.0 w (λ known. j.over known o.0 o.1) t of x)

  -- all forms

  mutual
    -- what is called: a method is one of an operand over a word
    callee_meant : (e : ExprTree) → Fine stands.Callee e → receiver_fits frame e ≡ true → IsCalleeMeant looks Certain (denoted looks stands.Callee e) (callee_meaning code e)
    callee_meant (Named x) h fit = name_callee looks mean Certain (code.meaning x.span.start) read x.name x.span.start h.meant.0.meaning
    callee_meant (Select e dot x) h fit =
        selector_callee looks mean Certain (code.meaning x.span.start) read x.name x.span.start (dot_of (is_name e) (denoted looks (left_place stands.Callee e) e))
        (λ is method. (
        let one : (v : Word) × (expr_gives frame e ≡ gives.One v) = one_word (expr_gives frame e) (or_second (means_method (code.meaning x.span.start)) (is_one (expr_gives frame e)) fit method) in
        operand_dot x.name (denoted looks (left_place stands.Callee e) e) (is_name e) one.0 (folded code e) (folds (left_place stands.Callee e) e one.0 (fine_left looks code mean stands.Callee e dot x h) one.1) is
        ))
        (each_right (λ s. IsMeant D P code mean (use_of looks s)) (spots looks (left_place stands.Callee e) e) _ h.meant).0.meaning
    callee_meant (Paren first e last) h fit = callee_meant e (record { meant = h.meant; sound = h.sound }) fit
    callee_meant (Integer n span) h fit = other_callee looks Certain (denoted looks stands.Callee (Integer n span))
    callee_meant (Text t) h fit = other_callee looks Certain (denoted looks stands.Callee (Text t))
    callee_meant (Unary op span e) h fit = other_callee looks Certain (denoted looks stands.Callee (Unary op span e))
    callee_meant (Binary a op span b) h fit = other_callee looks Certain (denoted looks stands.Callee (Binary a op span b))
    callee_meant (Call e first items last) h fit = other_callee looks Certain (denoted looks stands.Callee (Call e first items last))
    callee_meant (Literal n first items last) h fit = other_callee looks Certain (denoted looks stands.Callee (Literal n first items last))
    callee_meant (StructLiteral t first items last) h fit = other_callee looks Certain (denoted looks stands.Callee (StructLiteral t first items last))

    folds : (p : Stand) (e : ExprTree) (w : Word) → Fine p e → expr_gives frame e ≡ gives.One w → Folds w p e
    folds p (Integer n span) w h one =
        operand_judged S D looks.types Certain Known w (value value_types.UntypedInt (Some (natural n))) (held (natural n)) refl (natural_no_text n)
        (λ known. ap (λ u. Some (basic_of u)) (one_same words.Int w one)) (λ known k is. natural_word n k is ∙ one_same words.Int w one)
    folds p (Text t) w h one = absurd cc
    folds p (Named x) w h one = name_judged looks mean Certain Known slots (code.meaning x.span.start) w one read typed x.name x.span.start p h.meant.0.declared h.meant.0.meaning
    folds p (Paren first e last) w h one = (let j : Folds w (inside p) e = folds (inside p) e w (record { meant = h.meant; sound = h.sound }) one in j)
    folds p (Unary op span e) w h one =
        let by : (is_one (expr_gives frame e) ≡ true) × (over (unary_word op) ≡ gives.One w) = if_one (is_one (expr_gives frame e)) (over (unary_word op)) w one in
        let inner : (v : Word) × (expr_gives frame e ≡ gives.One v) = one_word (expr_gives frame e) by.0 in
        let j : Folds inner.0 (under_place op p) e = folds (under_place op p) e inner.0 (fine_operand looks code mean p op span e h) inner.1 in
        unary_of_judged S D looks.types Certain Known w op (is_literal e) (denoted looks (under_place op p) e) (folded code e) inner.0 by.1 j (no_fault span.start _ (none_right _ _ h.sound))
    folds p (Binary a op span b) w h one =
        let by : (is_one (expr_gives frame a) && is_one (expr_gives frame b) ≡ true) × (over (binary_word op) ≡ gives.One w) = if_one (is_one (expr_gives frame a) && is_one (expr_gives frame b)) (over (binary_word op)) w one in
        let both : (is_one (expr_gives frame a) ≡ true) × (is_one (expr_gives frame b) ≡ true) = and_parts (is_one (expr_gives frame a)) (is_one (expr_gives frame b)) by.0 in
        let left : (v : Word) × (expr_gives frame a ≡ gives.One v) = one_word (expr_gives frame a) both.0 in
        let right : (v : Word) × (expr_gives frame b ≡ gives.One v) = one_word (expr_gives frame b) both.1 in
        let j : Folds left.0 stands.«Value» a = folds stands.«Value» a left.0 (fine_first looks code mean p a op span b h) left.1 in
        let k : Folds right.0 stands.«Value» b = folds stands.«Value» b right.0 (fine_second looks code mean p a op span b h) right.1 in
        binary_of_judged S D looks.types Certain Known w op by.1 (folded code a) (folded code b) left.0 right.0 (denoted looks stands.«Value» a) (denoted looks stands.«Value» b) j k
        (no_fault _ _ (none_right _ _ (none_right _ _ h.sound)))
    folds p (Select e dot x) w h one =
        let u : IsMeant D P code mean _ = (each_right (λ s. IsMeant D P code mean (use_of looks s)) (spots looks (left_place p e) e) _ h.meant).0 in
        selector_judged looks mean Certain Known slots (code.meaning x.span.start) w (selected_name slots (code.meaning x.span.start) w one) read typed x.name x.span.start (whole p)
        (dot_of (is_name e) (denoted looks (left_place p e) e)) u.declared u.meaning
    folds p (Call e first items last) w h one =
        let by : (receiver_fits frame e && all_ones frame items ≡ true) × (call_gives (callee_meaning code e) (item_count items) ≡ gives.One w) =
        if_one (receiver_fits frame e && all_ones frame items) (call_gives (callee_meaning code e) (item_count items)) w one in
        let fit = and_parts (receiver_fits frame e) (all_ones frame items) by.0 in
        call_folds p e first items last w h (callee_meant e (fine_callee looks code mean p e first items last h) fit.0) by.1 (one_folds items (fine_arguments looks code mean p e first items last h) fit.1)
    folds p (Literal n first items last) w h one = absurd cc
    folds p (StructLiteral t first items last) w h one = absurd cc

    one_folds : (items : ItemTrees) → ItemsAreFine looks code mean items → all_ones frame items ≡ true → nat_eq (item_count items) 1 ≡ true
        → IsOneArgument T S D looks.types Certain Known (denoted_items looks items) (folded_one code items)
    one_folds NoItems h ones n = absurd cc
    one_folds (Item key e comma NoItems) h ones n =
        let is : is_one (expr_gives frame e) ≡ true = (and_parts (is_one (expr_gives frame e)) true ones).0 in
        let inner : (v : Word) × (expr_gives frame e ≡ gives.One v) = one_word (expr_gives frame e) is in
        record { argument = denoted looks stands.«Value» e; alone = refl; word = inner.0; judged = folds stands.«Value» e inner.0 h.0 inner.1 }
    one_folds (Item key e comma (Item key' e' comma' rest)) h ones n = absurd (one_only (item_count rest) n)

-- what is asked of methods comes beside what is asked of all names

method_member : {T : Type 0} (rules : TypeRules T) (results : List (Option T)) (m : Meaning) → IsMethodMeant rules results m → IsFieldMeant m
method_member rules results (meanings.Method g) h = tt
method_member rules results meanings.Other h = tt
method_member rules results _ h = absurd h

module _ {T S D P : Type 0} (looks : Looks T S D P) (mean : Outcome D P → Meaning) (read : AreRead T S D P looks mean) where
  selection_member : (x : Selection T S D P) → IsSelectionMeant looks mean x → IsMemberMeant {T = T} {S = S} {D = D} {P = P} mean x
  selection_member (selections.Missing rule) h = tt
  selection_member (selections.«Field» d path t by_pointer) h = h
  selection_member (selections.Method d path s needs_pointer by_pointer) h = method_member looks.types (looks.results s) (mean (outcomes.Selected d path)) h

  pub names_read : AreNamesRead T S D P looks mean
  names_read = record { names = read.names; exported = read.exported; members = λ t name. selection_member (looks.select t name) (read.selected t name) }

-- the laws

-- what is asked of all types is asked of those of operands over words
pub read_over : {T S D P : Type 0} (looks : Looks T S D P) (mean : Outcome D P → Meaning) → AreRead T S D P looks mean → AreReadOver T S D P looks mean
read_over looks mean read = record { all = names_read looks mean read; selected = λ v w over t of name. read.selected t name }

pub constants_folded : (T S D P : Type 0) → ConstantsAreFolded T S D P
constants_folded T S D P looks code mean slots p e read meant sound q x there w one =
    let j : IsJudged T S D looks.types ⊥ ⊥ w (denoted looks q x) (folded code x) =
    folds looks code mean slots read ⊥ ⊥ (λ known. known) (λ known. absurd known) (λ known. absurd known) (λ certain. absurd certain) q x w (fine_inside looks code mean p e (fine looks code mean p e meant sound) q x there) one in
    record { value = j.value; no_text = j.no_text }

operand_folded : {T S D P : Type 0} (looks : Looks T S D P) (code : code_names.CodeLooks) (q : Stand) (x : ExprTree) (o : Operand T) → denoted looks q x ≡ denotes.«Value» o → folded code x ≡ some_held (constant_in (denoted looks q x))
    → IsNoText (constant_in (denoted looks q x)) → IsFolded T S D P looks code q x
operand_folded looks code q x o is value text = record { operand = o; denotes = is; value = value ∙ ap (λ d. some_held (constant_in d)) is; no_text = subst (λ d. IsNoText (constant_in d)) is text }

pub expressions_folded : (T S D P : Type 0) → ExpressionsAreFolded T S D P
expressions_folded T S D P looks code mean slots p e read meant sound q x there w one =
    let j : IsJudged T S D looks.types ⊤ ⊥ w (denoted looks q x) (folded code x) =
    folds looks code mean slots (names_read looks mean read) ⊤ ⊥ (λ known. absurd known) (λ known. absurd known) (λ known. absurd known) (λ certain o v over u of name. read.selected u name) q x w
    (fine_inside looks code mean p e (fine looks code mean p e meant sound) q x there) one in
    operand_folded looks code q x (j.operand tt).0 (j.operand tt).1 j.value j.no_text

pub expressions_typed : (T S D P : Type 0) → ExpressionsAreTyped T S D P
expressions_typed T S D P looks code mean slots p e read typed keep meant sound q x there w one =
    let j : IsJudged T S D looks.types ⊤ ⊤ w (denoted looks q x) (folded code x) =
    folds looks code mean slots read.all ⊤ ⊤ (λ known. known) (λ known. typed) (λ known. keep) (λ certain o v over u of name. read.selected o.value_type v (over tt) u of name) q x w
    (fine_inside looks code mean p e (fine looks code mean p e meant sound) q x there) one in
    record { operand = (j.operand tt).0; denotes = (j.operand tt).1; over = j.over tt (j.operand tt).0 (j.operand tt).1; word = j.word tt }
