-- Conversions and calls that break no rule have the arguments that they take.
use Rattle.std.proofs.Common.{◌≡◌, inl, inr, ℕ, suc, Bool, true, false, ◌&&◌, List, [], ◌∷◌, ◌++◌, length, map, Option, Some, None, Ok, Err, refl, sym, ap, ap₂, ◌∙◌, subst, arith, nat_eq, ◌==◌, if◌then◌else◌}
use Rattle.std.proofs.lemmas.Bool.{eqb-true}
use Rattle.go_constant_core.specs.text_core.declared.rule.Rule.TheVariants.{C2, C3, C4, X1}
use Rattle.go_constant_core.specs.text_core.declared.span.Span.{Span}
use Rattle.go_tree_nodes.specs.Trees.{ExprTree, ItemTrees, Integer, Text, Named, Paren, Unary, Binary, Select, Call, Literal, StructLiteral, NoItems, Item}
use Rattle.go_tree_nodes.specs.Counts.{item_count}
use Rattle.go_object_core.specs.declared.instructions.letters.Word.{Word}
use Rattle.go_code_core.specs.declared.fragments.names.Gives.TheVariants as gives
use Rattle.go_code_core.specs.declared.fragments.names.Meaning.{Meaning}
use Rattle.go_code_core.specs.declared.fragments.names.Meaning.TheVariants as meanings
use Rattle.go_code_core.specs.fragments.Fragment.{is_one, expr_gives, call_gives, all_ones, receiver_fits}
use Rattle.go_code_core.specs.fragments.Names as code_names
use Rattle.go_code_core.specs.fragments.Names.{Frame, frame_of, callee_meaning}
use Rattle.go_code_core.specs.Code.{letter, letters}
use Rattle.go_report_core.specs.operand_core.declared.types.ValueType.{ValueType}
use Rattle.go_report_core.specs.operand_core.declared.types.ValueType.TheVariants as types
use Rattle.go_report_core.specs.operand_core.declared.types.Operand.{Operand}
use Rattle.go_report_core.specs.operand_core.Values.{form_basic, basic_under}
use Rattle.go_report_core.specs.operand_core.Assign.{assignable}
use Rattle.go_report_core.specs.operand_core.Operators.{value}
use Rattle.go_report_core.specs.operand_core.Conversions as conversions
use Rattle.go_report_core.specs.denote_core.declared.things.Argument.{Argument}
use Rattle.go_report_core.specs.denote_core.declared.things.Argument.TheVariants as arguments
use Rattle.go_report_core.specs.denote_core.declared.things.Denoted.{Denoted}
use Rattle.go_report_core.specs.denote_core.declared.things.Denoted.TheVariants as denotes
use Rattle.go_report_core.specs.denote_core.declared.things.Outcome.{Outcome}
use Rattle.go_report_core.specs.denote_core.declared.things.Stand.{Stand}
use Rattle.go_report_core.specs.denote_core.declared.things.Stand.TheVariants as stands
use Rattle.go_report_core.specs.denote_core.Answers.{declared, refused}
use Rattle.go_report_core.specs.denote_core.Arguments.{argument_of, arguments_of, is_free}
use Rattle.go_report_core.specs.denote_core.Calls.{all_fit, call_answer, of_conversion}
use Rattle.go_report_core.specs.expr_core.Looks.{Looks, look_of_place}
use Rattle.go_report_core.specs.expr_core.Places.{is_lone_call, left_place}
use Rattle.go_report_core.specs.expr_core.Denoting.{denoted, denoted_items}
use Rattle.go_report_core.specs.expr_core.Uses.{use_of, spots}
use Rattle.go_workspace_laws.specs.folding.Reading.{IsOver, basic_of}
use Rattle.go_workspace_laws.specs.folding.Parts.{parts}
use Rattle.go_workspace_laws.specs.folding.Laws.{HasDeclaration, IsMeant}
use Rattle.go_workspace_laws.specs.folding.Typed.{IsTyped}
use Rattle.go_workspace_laws.proofs.FoldingCalls.{IsCalleeMeant, other_callee, name_callee, selector_callee}
use Rattle.go_workspace_laws.proofs.FoldingFolding.{expressions_typed}
use Rattle.go_workspace_laws.proofs.FoldingInside.{IsFine, ItemsAreFine, each_right, fine, fine_callee, fine_arguments, fine_inside}
use Rattle.go_workspace_laws.proofs.ConstantLists.{contained}
use Rattle.go_program_laws.specs.checked_sources.Statements.{AreAlike, AreOverEach, ConversionsKeepWords, ArgumentsAreOverParameters}
use Rattle.go_program_laws.proofs.CheckedSourcesWords.{word_same, assigned_over, one_word, if_one, and_both, or_cases, parts_first}
use Rattle.go_program_laws.proofs.CheckedSourcesOperators.{meant_of}

one_only : (n : ℕ) → nat_eq (suc (suc n)) 1 ≡ true → ⊥
one_only n h = (let same : suc (suc n) ≡ 1 = eqb-true (suc (suc n)) 1 h in omega (arith, same))

and_false : (b : Bool) → (b && false) ≡ false
and_false true = refl
and_false false = refl

words_of : (w v : Word) → gives.One w ≡ gives.One v → w ≡ v
words_of w v e = cc e

module _ {T S D P : Type 0} (looks : Looks T S D P) (code : code_names.CodeLooks) (mean : Outcome D P → Meaning) (slots : List (Option ℕ)) (alike : AreAlike T S D P looks mean) where
  abbrev Fine : Stand → ExprTree → Type 0
  Fine p e = IsFine T S D P looks code mean p e

  abbrev frame : Frame
  frame = frame_of code slots

  abbrev Over : ValueType T → Word → Type 0
  Over v w = basic_under looks.types v ≡ Some (basic_of w)

  typed : (p : Stand) (e : ExprTree) (w : Word) → Fine p e → expr_gives frame e ≡ gives.One w → IsTyped T S D P looks code p e w
  typed p e w h one = expressions_typed T S D P looks code mean slots p e alike.read alike.typed alike.keep (meant_of looks code mean p e h) h.sound p e (contained (parts p e) (p, e) (parts_first p e)) w one

  -- what is called

  callee_meant : (e : ExprTree) → Fine stands.Callee e → IsCalleeMeant looks ⊥ (denoted looks stands.Callee e) (callee_meaning code e)
  callee_meant (Named x) h = name_callee looks mean ⊥ (code.meaning x.span.start) alike.read.all x.name x.span.start h.meant.0.meaning
  callee_meant (Select e dot x) h =
      selector_callee looks mean ⊥ (code.meaning x.span.start) alike.read.all x.name x.span.start _ (λ never. absurd never)
      (each_right (λ s. IsMeant D P code mean (use_of looks s)) (spots looks (left_place stands.Callee e) e) _ h.meant).0.meaning
  callee_meant (Paren first e last) h = callee_meant e (record { meant = h.meant; sound = h.sound })
  callee_meant (Integer n span) h = other_callee looks ⊥ (denoted looks stands.Callee (Integer n span))
  callee_meant (Text t) h = other_callee looks ⊥ (denoted looks stands.Callee (Text t))
  callee_meant (Unary op span e) h = other_callee looks ⊥ (denoted looks stands.Callee (Unary op span e))
  callee_meant (Binary a op span b) h = other_callee looks ⊥ (denoted looks stands.Callee (Binary a op span b))
  callee_meant (Call e first items last) h = other_callee looks ⊥ (denoted looks stands.Callee (Call e first items last))
  callee_meant (Literal n first items last) h = other_callee looks ⊥ (denoted looks stands.Callee (Literal n first items last))
  callee_meant (StructLiteral t first items last) h = other_callee looks ⊥ (denoted looks stands.Callee (StructLiteral t first items last))

  -- what a call has, by the operands that are its arguments
  abbrev HasCall : ℕ → Denoted T S D → Bool → List (Argument T) → Type 0
  HasCall n callee free given = HasDeclaration (call_answer (look_of_place looks n) callee free given).outcome

  call_has : (q : Stand) (f : ExprTree) (first : Span) (items : ItemTrees) (last : Span) → Fine q (Call f first items last)
      → HasCall first.start (denoted looks stands.Callee f) (is_free (is_lone_call items) (denoted_items looks items)) (arguments_of (look_of_place looks first.start) (denoted_items looks items))
  call_has q f first items last h = (each_right (λ s. IsMeant D P code mean (use_of looks s)) (spots looks stands.Callee f) _ h.meant).0.declared

  abbrev EachOver : List (Operand T) → List Word → Type 0
  EachOver [] [] = Unit {0}
  EachOver [] (w ∷ ws) = ⊥
  EachOver (o ∷ os) [] = ⊥
  EachOver (o ∷ os) (w ∷ ws) = Over o.value_type w × EachOver os ws

  abbrev value_denoted : Operand T → Denoted T S D
  value_denoted o = denotes.«Value» o

  abbrev denotations : List (Operand T) → List (Denoted T S D)
  denotations os = map value_denoted os

  -- arguments are operands over what they give
  record AreOperands (items : ItemTrees) : Type 0 where
    operands : List (Operand T)
    denote : denoted_items looks items ≡ denotations operands
    over : EachOver operands (letters frame items)

  are_operands : (items : ItemTrees) → ItemsAreFine looks code mean items → all_ones frame items ≡ true → AreOperands items
  are_operands NoItems h ones = record { operands = []; denote = refl; over = tt }
  are_operands (Item key e comma rest) h ones =
      let is = and_both (is_one (expr_gives frame e)) (all_ones frame rest) ones in
      let w = one_word (expr_gives frame e) is.0 in
      let t = typed stands.«Value» e w.0 h.0 w.1 in
      let r = are_operands rest h.1 is.1 in
      record {
        operands = t.operand ∷ r.operands;
        denote = ap₂ (λ d ds. d ∷ ds) t.denotes r.denote;
        over = subst (λ g. EachOver (t.operand ∷ r.operands) (letter g ++ letters frame rest)) (sym w.1) (t.over, r.over);
      }

  abbrev values : List (Operand T) → List (Argument T)
  values os = map (λ (o : Operand T). arguments.«Value» o) os

  argument_values : (os : List (Operand T)) → map (λ (d : Denoted T S D). argument_of d) (denotations os) ≡ values os
  argument_values [] = refl
  argument_values (o ∷ os) = ap (λ more. arguments.«Value» o ∷ more) (argument_values os)

  given_values : (n : ℕ) (os : List (Operand T)) → arguments_of (look_of_place looks n) (denotations os) ≡ values os
  given_values n [] = refl
  given_values n (o ∷ []) = refl
  given_values n (o ∷ (u ∷ os)) = argument_values (o ∷ (u ∷ os))

  never_free : (lone : Bool) (os : List (Operand T)) → is_free {T = T} {S = S} {D = D} lone (denotations os) ≡ false
  never_free lone [] = refl
  never_free lone (o ∷ []) = and_false lone
  never_free lone (o ∷ (u ∷ os)) = refl

  -- what a call of such arguments has
  judged : (q : Stand) (f : ExprTree) (first : Span) (items : ItemTrees) (last : Span) → Fine q (Call f first items last) → (a : AreOperands items) → HasCall first.start (denoted looks stands.Callee f) false (values a.operands)
  judged q f first items last h a =
      let callee = denoted looks stands.Callee f in
      let first_step = subst (λ ds. HasCall first.start callee (is_free (is_lone_call items) ds) (arguments_of (look_of_place looks first.start) ds)) a.denote (call_has q f first items last h) in
      let second_step = subst (λ given. HasCall first.start callee (is_free {T = T} {S = S} {D = D} (is_lone_call items) (denotations a.operands)) given) (given_values first.start a.operands) first_step in
      subst (λ b. HasCall first.start callee b (values a.operands)) (never_free (is_lone_call items) a.operands) second_step

  -- conversions

  converted : (d : D) (a b : Bool) (o : Operand T) → HasDeclaration (of_conversion {T = T} {S = S} {D = D} {P = P} d (if a then Err X1 else (if b then Ok o else Err C4))).outcome → b ≡ true
  converted d true b o h = absurd h
  converted d false true o h = refl
  converted d false false o h = absurd h

  convertible_over : (v : ValueType T) (t : T) (u c : Word) → Over v u → IsOver looks.types c (Some t) → conversions.convertible looks.types v t ≡ true → u ≡ c
  convertible_over (types.Typed s) t u c hv ht h = word_same u c (alike.keep.convertible s t (basic_of u) (basic_of c) h hv ht)
  convertible_over types.UntypedInt t u c hv ht h = absurd (cc h)
  convertible_over types.UntypedText t u c hv ht h = absurd (cc h)
  convertible_over types.UntypedBool t u c hv ht h = absurd (cc h)
  convertible_over types.Nil t u c hv ht h = absurd (cc h)

  converts : (c : Denoted T S D) (n : ℕ) (o : Operand T) (v u : Word) → IsCalleeMeant looks ⊥ c (meanings.«Type» u) → Over o.value_type v → HasCall n c false (arguments.«Value» o ∷ []) → v ≡ u
  converts (denotes.«Type» d None) n o v u meant over has_it = absurd meant
  converts (denotes.«Type» d (Some t)) n o v u meant over has_it =
      or_cases (assignable looks.types o.value_type t) (conversions.convertible looks.types o.value_type t)
      (converted d (conversions.makes_text looks.types o.value_type t) (conversions.fits looks.types o.value_type t) (value (types.Typed t) (conversions.kept (form_basic (looks.types.form t)) o.constant)) has_it)
      (λ h. assigned_over looks.types alike.keep o.value_type t v u over meant h)
      (λ h. convertible_over o.value_type t v u over meant h)
  converts (denotes.Func d s) n o v u (inl h) over has_it = absurd h
  converts (denotes.Func d s) n o v u (inr h) over has_it = absurd h.0
  converts (denotes.Builtin d b) n o v u meant over has_it = absurd meant
  converts denotes.Refused n o v u meant over has_it = absurd has_it
  converts denotes.Typeless n o v u meant over has_it = absurd has_it
  converts (denotes.«Package» d) n o v u meant over has_it = absurd has_it
  converts (denotes.«Value» p) n o v u meant over has_it = absurd has_it
  converts (denotes.Several s) n o v u meant over has_it = absurd has_it
  converts denotes.Nothing n o v u meant over has_it = absurd has_it

  alone : (f : ExprTree) (n : ℕ) (os : List (Operand T)) (ws : List Word) (u : Word) → length os ≡ 1 → EachOver os ws → IsCalleeMeant looks ⊥ (denoted looks stands.Callee f) (meanings.«Type» u) → HasCall n (denoted looks stands.Callee f) false (values os) → ws ≡ u ∷ []
  alone f n [] ws u one over meant has_it = absurd (omega (arith, one))
  alone f n (o ∷ []) [] u one over meant has_it = absurd over
  alone f n (o ∷ []) (w ∷ []) u one over meant has_it = ap (λ v. v ∷ []) (converts (denoted looks stands.Callee f) n o w u meant over.0 has_it)
  alone f n (o ∷ []) (w ∷ (v ∷ ws)) u one over meant has_it = absurd over.1
  alone f n (o ∷ (p ∷ os)) ws u one over meant has_it = absurd (omega (arith, one))

  items_long : (items : ItemTrees) → length (denoted_items looks items) ≡ item_count items
  items_long NoItems = refl
  items_long (Item key e comma rest) = ap suc (items_long rest)

  operands_long : (os : List (Operand T)) → length (denotations os) ≡ length os
  operands_long [] = refl
  operands_long (o ∷ os) = ap suc (operands_long os)

  many : (items : ItemTrees) (a : AreOperands items) → length a.operands ≡ item_count items
  many items a = sym (operands_long a.operands) ∙ (sym (ap length a.denote) ∙ items_long items)

  one_argument : (b : Bool) (u w : Word) → (if b then gives.One u else gives.Other) ≡ gives.One w → b ≡ true
  one_argument true u w e = refl
  one_argument false u w e = absurd (cc e)

  pub conversion : (q : Stand) (f : ExprTree) (first : Span) (items : ItemTrees) (last : Span) → Fine q (Call f first items last) → (u : Word) → callee_meaning code f ≡ meanings.«Type» u → (w : Word) → expr_gives frame (Call f first items last) ≡ gives.One w
      → letters frame items ≡ u ∷ []
  conversion q f first items last h u is w one =
      let fit = if_one (receiver_fits frame f && all_ones frame items) (call_gives (callee_meaning code f) (item_count items)) w one in
      let ones = (and_both (receiver_fits frame f) (all_ones frame items) fit).1 in
      let gave : call_gives (callee_meaning code f) (item_count items) ≡ gives.One w = sym (ap (λ b. if b then call_gives (callee_meaning code f) (item_count items) else gives.Other) fit) ∙ one in
      let count : nat_eq (item_count items) 1 ≡ true = one_argument (nat_eq (item_count items) 1) u w (subst (λ m. call_gives m (item_count items) ≡ gives.One w) is gave) in
      let a = are_operands items (fine_arguments looks code mean q f first items last h) ones in
      alone f first.start a.operands (letters frame items) u (many items a ∙ eqb-true (item_count items) 1 count) a.over
      (subst (λ m. IsCalleeMeant looks ⊥ (denoted looks stands.Callee f) m) is (callee_meant f (fine_callee looks code mean q f first items last h))) (judged q f first items last h a)

  -- arguments

  func_fits : (a b : Bool) (d : D) (x : Denoted T S D) → HasDeclaration (if a then (if b then declared {P = P} d x else refused C3) else refused C2).outcome → (a ≡ true) × (b ≡ true)
  func_fits true true d x h = (refl, refl)
  func_fits true false d x h = absurd h
  func_fits false b d x h = absurd h

  all_over : (n : ℕ) (os : List (Operand T)) (us ws : List Word) (ps : List (Option T)) → EachOver os us → AreOverEach looks.types ws ps → length (values os) ≡ length ps → all_fit (look_of_place looks n) (values os) ps ≡ true → us ≡ ws
  all_over n [] [] [] [] ho hp l h = refl
  all_over n [] [] [] (p ∷ ps) ho hp l h = absurd hp
  all_over n [] [] (w ∷ ws) [] ho hp l h = absurd hp
  all_over n [] [] (w ∷ ws) (p ∷ ps) ho hp l h = absurd (omega (arith, l))
  all_over n [] (u ∷ us) ws ps ho hp l h = absurd ho
  all_over n (o ∷ os) [] ws ps ho hp l h = absurd ho
  all_over n (o ∷ os) (u ∷ us) ws [] ho hp l h = absurd (omega (arith, l))
  all_over n (o ∷ os) (u ∷ us) [] (p ∷ ps) ho hp l h = absurd hp
  all_over n (o ∷ os) (u ∷ us) (w ∷ ws) (None ∷ ps) ho hp l h = absurd hp.0
  all_over n (o ∷ os) (u ∷ us) (w ∷ ws) (Some t ∷ ps) ho hp l h =
      let both = and_both (assignable looks.types o.value_type t) (all_fit (look_of_place looks n) (values os) ps) h in
      ap₂ (λ x xs. x ∷ xs) (assigned_over looks.types alike.keep o.value_type t u w ho.0 hp.0 both.0) (all_over n os us ws ps ho.1 hp.1 (omega (arith, l)) both.1)

  pub arguments_over : (q : Stand) (f : ExprTree) (first : Span) (items : ItemTrees) (last : Span) → Fine q (Call f first items last) → (d : D) (s : S) → denoted looks stands.Callee f ≡ denotes.Func d s → (ws : List Word) → AreOverEach looks.types ws (looks.params s)
      → all_ones frame items ≡ true → letters frame items ≡ ws
  arguments_over q f first items last h d s is ws over ones =
      let a = are_operands items (fine_arguments looks code mean q f first items last h) ones in
      let has_it = subst (λ c. HasCall first.start c false (values a.operands)) is (judged q f first items last h a) in
      let fit = func_fits (length (values a.operands) == length (looks.params s)) (all_fit (look_of_place looks first.start) (values a.operands) (looks.params s)) d _ has_it in
      all_over first.start a.operands (letters frame items) ws (looks.params s) a.over over (eqb-true (length (values a.operands)) (length (looks.params s)) fit.0) fit.1

-- the laws

pub conversions_keep_words : (T S D P : Type 0) → ConversionsKeepWords T S D P
conversions_keep_words T S D P looks code mean slots p e clear q f first items last there u is w one =
    conversion looks code mean slots clear.alike q f first items last (fine_inside looks code mean p e (fine looks code mean p e clear.meant clear.sound) q (Call f first items last) there) u is w one

pub arguments_over_parameters : (T S D P : Type 0) → ArgumentsAreOverParameters T S D P
arguments_over_parameters T S D P looks code mean slots p e clear q f first items last there d s is ws over ones =
    arguments_over looks code mean slots clear.alike q f first items last (fine_inside looks code mean p e (fine looks code mean p e clear.meant clear.sound) q (Call f first items last) there) d s is ws over ones
