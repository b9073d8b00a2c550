-- Expressions that fit mean something.
use Rattle.std.proofs.Common.{◌≡◌, ℕ, ◌+◌, Bool, true, false, not, ◌&&◌, ◌||◌, T, List, [], ◌∷◌, ◌++◌, length, ℤ, Option, Some, None, is_some, refl, sym, ap, ◌∙◌, subst, arith, length-append, nat_eq, eqb→eq, if◌then◌else◌}
use Rattle.go_tree_nodes.specs.token_core.declared.kind.Operator.{Operator}
use Rattle.go_tree_nodes.specs.token_core.declared.kind.Operator.TheVariants as operators
use Rattle.go_tree_nodes.specs.Trees.{ExprTree, ItemTrees, Integer, Text, Named, Paren, Unary, Binary, Select, Call, Literal, StructLiteral, NoItems, Item}
use Rattle.go_tree_nodes.specs.Counts.{item_count}
use Rattle.go_object_core.specs.declared.instructions.letters.Word.{Word}
use Rattle.go_object_core.specs.declared.instructions.letters.Word.TheVariants as words
use Rattle.go_machine_core.specs.Words.{sum, difference, product, quotient, remainder}
use Rattle.go_code_core.specs.declared.fragments.names.ConstantWord.{ConstantWord}
use Rattle.go_code_core.specs.declared.fragments.names.ConstantWord.TheVariants as constants
use Rattle.go_code_core.specs.declared.fragments.names.Gives.{Gives}
use Rattle.go_code_core.specs.declared.fragments.names.Gives.TheVariants as gives
use Rattle.go_code_core.specs.declared.fragments.names.Meaning.{Meaning}
use Rattle.go_code_core.specs.declared.fragments.names.Meaning.TheVariants as meanings
use Rattle.go_code_core.specs.fragments.Constants.{folded}
use Rattle.go_code_core.specs.fragments.Fragment.{is_one, over, unary_word, binary_word, meaning_gives, selected_gives, call_gives, means_method, expr_gives, receiver_fits, all_ones}
use Rattle.go_code_core.specs.fragments.Names.{Frame, slot_of, word_of, callee_meaning}
use Rattle.go_code_core.specs.Code.{letter, letters}
use Rattle.go_meaning_laws.specs.source_meaning.Values.{Value, Number, Truth, Applied, Yields, Panics, Undefined, of_result, unary_applied, binary_applied, panicked_with}
use Rattle.go_meaning_laws.specs.source_meaning.Meaning.{Outcome, Done, Panicked, Nonsense, and_then, just_one, with_one, with_truth, if_some, if_yields, Variables, value_of, Calls, gives_one, constant_value, constant_else, name_value, and_value, or_value, second_truth, binary_meaning, fitting, called, call_meaning, SourceOf, callee_at, scene_of, expr_meaning, receiver_meaning, items_meaning}
use Rattle.go_meaning_laws.specs.fitting_sources.Fitting.{IsGiven, IsDeclared, Typing, UnaryFits, BothGive, BinaryFits, receiver_letters, the_frame, NameFits, CalleeFits, ExprFits, ItemsFit}
use Rattle.go_meaning_laws.proofs.FittingSourcesValued.{and_both, Means, means_then, IsOver, AreOver, over_both, Gave, NotOther, just_means, none_means, one_means, truth_means, line_is, panic_is, Sound, has_value}
use Rattle.go_meaning_laws.proofs.FittingSourcesFolds.{folded_gives}

-- operators

-- an operator yields a value over a word, or panics
abbrev pub Applies : Word → Applied → Type 0
Applies w (Yields v) = IsOver w v
Applies w Panics = Unit {0}
Applies w Undefined = ⊥

pub result_applies : (r : Option ℤ) → Applies words.Int (of_result r)
result_applies None = tt
result_applies (Some x) = tt

pub yields_means : {B : Type 0} (Q : B → Type 0) (w : Word) (a : Applied) (out : List ℕ) (go : Value → Outcome B) → Applies w a → ((v : Value) → IsOver w v → Means Q (go v)) → Means Q (if_yields a out go)
yields_means Q w (Yields v) out go h k = k v h
yields_means Q w Panics out go h k = tt
yields_means Q w Undefined out go h k = absurd h

unary_applies : (op : Operator) (u w : Word) (v : Value) → UnaryFits op (gives.One u) → over (unary_word op) ≡ gives.One w → IsOver u v → Applies w (unary_applied op v)
unary_applies operators.Plus words.Int words.Int (Number x) f e h = tt
unary_applies operators.Minus words.Int words.Int (Number x) f e h = tt
unary_applies operators.Not words.Bool words.Bool (Truth b) f e h = tt
unary_applies operators.Plus words.Int words.Bool v f e h = absurd (cc e)
unary_applies operators.Plus words.Bool w v f e h = absurd (cc f)
unary_applies operators.Plus words.Int words.Int (Truth b) f e h = absurd h
unary_applies operators.Minus words.Int words.Bool v f e h = absurd (cc e)
unary_applies operators.Minus words.Bool w v f e h = absurd (cc f)
unary_applies operators.Minus words.Int words.Int (Truth b) f e h = absurd h
unary_applies operators.Not words.Bool words.Int v f e h = absurd (cc e)
unary_applies operators.Not words.Int w v f e h = absurd (cc f)
unary_applies operators.Not words.Bool words.Bool (Number x) f e h = absurd h
unary_applies _ u w v f e h = absurd (cc e)

pub numbers : (w : Word) (x y : Value) → IsOver words.Int x → IsOver words.Int y → (P : Value → Value → Type 0) → ((a b : ℤ) → P (Number a) (Number b)) → P x y
numbers w (Number a) (Number b) hx hy P k = k a b
numbers w (Truth a) y hx hy P k = absurd hx
numbers w (Number a) (Truth b) hx hy P k = absurd hy

truths : (w : Word) (x y : Value) → IsOver words.Bool x → IsOver words.Bool y → (P : Value → Value → Type 0) → ((a b : Bool) → P (Truth a) (Truth b)) → P x y
truths w (Truth a) (Truth b) hx hy P k = k a b
truths w (Number a) y hx hy P k = absurd hx
truths w (Truth a) (Number b) hx hy P k = absurd hy

abbrev OverInt : Operator → Type 0
OverInt op = (a b : ℤ) (w : Word) → over (binary_word op) ≡ gives.One w → Applies w (binary_applied op (Number a) (Number b))

abbrev OverBool : Operator → Type 0
OverBool op = (a b : Bool) (w : Word) → over (binary_word op) ≡ gives.One w → Applies w (binary_applied op (Truth a) (Truth b))

given_word : (u v : Word) → gives.One u ≡ gives.One v → u ≡ v
given_word u v e = cc e

number_of : (op : Operator) → ((a b : ℤ) → Applies words.Int (binary_applied op (Number a) (Number b))) → over (binary_word op) ≡ gives.One words.Int → OverInt op
number_of op k e a b w is = subst (λ w. Applies w (binary_applied op (Number a) (Number b))) (given_word words.Int w (sym e ∙ is)) (k a b)

compared : (op : Operator) → ((a b : ℤ) → Applies words.Bool (binary_applied op (Number a) (Number b))) → over (binary_word op) ≡ gives.One words.Bool → OverInt op
compared op k e a b w is = subst (λ w. Applies w (binary_applied op (Number a) (Number b))) (given_word words.Bool w (sym e ∙ is)) (k a b)

truth_of : (op : Operator) → ((a b : Bool) → Applies words.Bool (binary_applied op (Truth a) (Truth b))) → over (binary_word op) ≡ gives.One words.Bool → OverBool op
truth_of op k e a b w is = subst (λ w. Applies w (binary_applied op (Truth a) (Truth b))) (given_word words.Bool w (sym e ∙ is)) (k a b)

-- of operators that take both operands
abbrev BothApply : Operator → Word → Word → Type 0
BothApply op ua ub = (w : Word) (x y : Value) → over (binary_word op) ≡ gives.One w → IsOver ua x → IsOver ub y → Applies w (binary_applied op x y)

ints_apply : (op : Operator) (ua ub : Word) → BothGive words.Int (gives.One ua) (gives.One ub) → OverInt op → BothApply op ua ub
ints_apply op words.Int words.Int f k w x y e hx hy = numbers w x y hx hy (λ x y. Applies w (binary_applied op x y)) (λ a b. k a b w e)
ints_apply op words.Bool ub f k w x y e hx hy = absurd (cc f.0)
ints_apply op words.Int words.Bool f k w x y e hx hy = absurd (cc f.1)

equals_apply : (op : Operator) (ua ub : Word) → gives.One ua ≡ gives.One ub → OverInt op → OverBool op → BothApply op ua ub
equals_apply op words.Int words.Int f k t w x y e hx hy = numbers w x y hx hy (λ x y. Applies w (binary_applied op x y)) (λ a b. k a b w e)
equals_apply op words.Bool words.Bool f k t w x y e hx hy = truths w x y hx hy (λ x y. Applies w (binary_applied op x y)) (λ a b. t a b w e)
equals_apply op words.Int words.Bool f k t w x y e hx hy = absurd (cc f)
equals_apply op words.Bool words.Int f k t w x y e hx hy = absurd (cc f)

gave_one : (w : Word) (v : Value) → IsOver w v → AreOver (w ∷ []) (v ∷ [])
gave_one w v h = (h, tt)

two_means : (op : Operator) (ua ub w : Word) (oa : Outcome (List Value)) (ob : List ℕ → Outcome (List Value)) → BothApply op ua ub → over (binary_word op) ≡ gives.One w → Means (AreOver (ua ∷ [])) oa → ((out : List ℕ) → Means (AreOver (ub ∷ [])) (ob out))
    → Means (AreOver (w ∷ [])) (with_one oa (λ x out. with_one (ob out) (λ y out. if_yields (binary_applied op x y) out (λ v. gives_one v out))))
two_means op ua ub w oa ob k e ma mb =
    one_means (AreOver (w ∷ [])) ua oa _ ma (λ x out hx. one_means (AreOver (w ∷ [])) ub (ob out) _ (mb out) (λ y out hy. yields_means (AreOver (w ∷ [])) w (binary_applied op x y) out (λ v. gives_one v out) (k w x y e hx hy) (λ v h. gave_one w v h)))

second_means : (o : Outcome (List Value)) → Means (AreOver (words.Bool ∷ [])) o → Means (AreOver (words.Bool ∷ [])) (second_truth o)
second_means o m = truth_means (AreOver (words.Bool ∷ [])) o (λ b out. gives_one (Truth b) out) m (λ b out. (tt, tt))

and_means : (t : Bool) (out : List ℕ) (o : Outcome (List Value)) → Means (AreOver (words.Bool ∷ [])) o → Means (AreOver (words.Bool ∷ [])) (and_value t out o)
and_means true out o m = second_means o m
and_means false out o m = (tt, tt)

or_means : (t : Bool) (out : List ℕ) (o : Outcome (List Value)) → Means (AreOver (words.Bool ∷ [])) o → Means (AreOver (words.Bool ∷ [])) (or_value t out o)
or_means true out o m = (tt, tt)
or_means false out o m = second_means o m

-- both operands are over `bool`
short_means : (ua ub w : Word) (oa : Outcome (List Value)) (ob : List ℕ → Outcome (List Value)) (go : Bool → List ℕ → Outcome (List Value)) → BothGive words.Bool (gives.One ua) (gives.One ub) → gives.One words.Bool ≡ gives.One w → Means (AreOver (ua ∷ [])) oa → ((out : List ℕ) → Means (AreOver (ub ∷ [])) (ob out))
    → ((t : Bool) (out : List ℕ) → Means (AreOver (words.Bool ∷ [])) (ob out) → Means (AreOver (words.Bool ∷ [])) (go t out))
    → Means (AreOver (w ∷ [])) (with_truth oa go)
short_means words.Bool words.Bool w oa ob go f e ma mb k = subst (λ w. Means (AreOver (w ∷ [])) (with_truth oa go)) (given_word words.Bool w e) (truth_means (AreOver (words.Bool ∷ [])) oa go ma (λ t out. k t out (mb out)))
short_means words.Int ub w oa ob go f e ma mb k = absurd (cc f.0)
short_means words.Bool words.Int w oa ob go f e ma mb k = absurd (cc f.1)

binary_means : (op : Operator) (ua ub w : Word) (oa : Outcome (List Value)) (ob : List ℕ → Outcome (List Value)) → BinaryFits op (gives.One ua) (gives.One ub) → over (binary_word op) ≡ gives.One w → Means (AreOver (ua ∷ [])) oa → ((out : List ℕ) → Means (AreOver (ub ∷ [])) (ob out)) → Means (AreOver (w ∷ [])) (binary_meaning op oa ob)
binary_means operators.LogicalAnd ua ub w oa ob f e ma mb = short_means ua ub w oa ob (λ t out. and_value t out (ob out)) f e ma mb (λ t out m. and_means t out (ob out) m)
binary_means operators.LogicalOr ua ub w oa ob f e ma mb = short_means ua ub w oa ob (λ t out. or_value t out (ob out)) f e ma mb (λ t out m. or_means t out (ob out) m)
binary_means operators.Plus ua ub w oa ob f e ma mb = two_means operators.Plus ua ub w oa ob (ints_apply operators.Plus ua ub f (number_of operators.Plus (λ a b. result_applies (sum a b)) refl)) e ma mb
binary_means operators.Minus ua ub w oa ob f e ma mb = two_means operators.Minus ua ub w oa ob (ints_apply operators.Minus ua ub f (number_of operators.Minus (λ a b. result_applies (difference a b)) refl)) e ma mb
binary_means operators.Star ua ub w oa ob f e ma mb = two_means operators.Star ua ub w oa ob (ints_apply operators.Star ua ub f (number_of operators.Star (λ a b. result_applies (product a b)) refl)) e ma mb
binary_means operators.Slash ua ub w oa ob f e ma mb = two_means operators.Slash ua ub w oa ob (ints_apply operators.Slash ua ub f (number_of operators.Slash (λ a b. result_applies (quotient a b)) refl)) e ma mb
binary_means operators.Percent ua ub w oa ob f e ma mb = two_means operators.Percent ua ub w oa ob (ints_apply operators.Percent ua ub f (number_of operators.Percent (λ a b. result_applies (remainder a b)) refl)) e ma mb
binary_means operators.Less ua ub w oa ob f e ma mb = two_means operators.Less ua ub w oa ob (ints_apply operators.Less ua ub f (compared operators.Less (λ a b. tt) refl)) e ma mb
binary_means operators.LessEqual ua ub w oa ob f e ma mb = two_means operators.LessEqual ua ub w oa ob (ints_apply operators.LessEqual ua ub f (compared operators.LessEqual (λ a b. tt) refl)) e ma mb
binary_means operators.Greater ua ub w oa ob f e ma mb = two_means operators.Greater ua ub w oa ob (ints_apply operators.Greater ua ub f (compared operators.Greater (λ a b. tt) refl)) e ma mb
binary_means operators.GreaterEqual ua ub w oa ob f e ma mb = two_means operators.GreaterEqual ua ub w oa ob (ints_apply operators.GreaterEqual ua ub f (compared operators.GreaterEqual (λ a b. tt) refl)) e ma mb
binary_means operators.Equal ua ub w oa ob f e ma mb = two_means operators.Equal ua ub w oa ob (equals_apply operators.Equal ua ub f (compared operators.Equal (λ a b. tt) refl) (truth_of operators.Equal (λ a b. tt) refl)) e ma mb
binary_means operators.NotEqual ua ub w oa ob f e ma mb = two_means operators.NotEqual ua ub w oa ob (equals_apply operators.NotEqual ua ub f (compared operators.NotEqual (λ a b. tt) refl) (truth_of operators.NotEqual (λ a b. tt) refl)) e ma mb
binary_means _ ua ub w oa ob f e ma mb = absurd (cc e)

-- what is one value over a word

abbrev pub Is : Gives → Outcome (List Value) → Type 0
Is g o = Means (Gave g) o

over_is : (o : Option Word) → NotOther (over o) → (w : Word) × (over o ≡ gives.One w)
over_is None h = absurd h
over_is (Some w) h = (w, refl)

unary_case : (t : Bool) (op : Operator) (g : Gives) (o : Outcome (List Value)) → is_one g ≡ t → UnaryFits op g → NotOther (if t then over (unary_word op) else gives.Other) → (NotOther g → Is g o) → Is (if t then over (unary_word op) else gives.Other) (with_one o (λ x out. if_yields (unary_applied op x) out (λ v. gives_one v out)))
unary_case false op g o is f h m = absurd h
unary_case true op gives.Nothing o is f h m = absurd (cc is)
unary_case true op gives.Other o is f h m = absurd (cc is)
unary_case true op (gives.One u) o is f h m =
    let r = over_is (unary_word op) h in
    subst (λ g. Is g (with_one o (λ x out. if_yields (unary_applied op x) out (λ v. gives_one v out)))) (sym r.1)
    (one_means (AreOver (r.0 ∷ [])) u o _ (m tt) (λ x out hx. yields_means (AreOver (r.0 ∷ [])) r.0 (unary_applied op x) out (λ v. gives_one v out) (unary_applies op u r.0 x f r.1 hx) (λ v i. gave_one r.0 v i)))

binary_case : (t : Bool) (op : Operator) (ga gb : Gives) (oa : Outcome (List Value)) (ob : List ℕ → Outcome (List Value)) → (is_one ga && is_one gb) ≡ t → BinaryFits op ga gb → NotOther (if t then over (binary_word op) else gives.Other) → (NotOther ga → Is ga oa) → (NotOther gb → (out : List ℕ) → Is gb (ob out)) → Is (if t then over (binary_word op) else gives.Other) (binary_meaning op oa ob)
binary_case false op ga gb oa ob is f h ma mb = absurd h
binary_case true op (gives.One ua) (gives.One ub) oa ob is f h ma mb =
    let r = over_is (binary_word op) h in
    subst (λ g. Is g (binary_meaning op oa ob)) (sym r.1) (binary_means op ua ub r.0 oa ob f r.1 (ma tt) (mb tt))
binary_case true op gives.Nothing gb oa ob is f h ma mb = absurd (cc is)
binary_case true op gives.Other gb oa ob is f h ma mb = absurd (cc is)
binary_case true op (gives.One ua) gives.Nothing oa ob is f h ma mb = absurd (cc is)
binary_case true op (gives.One ua) gives.Other oa ob is f h ma mb = absurd (cc is)

one_letter : (g : Gives) → is_one g ≡ true → length (letter g) ≡ 1
one_letter (gives.One w) e = refl
one_letter gives.Nothing e = absurd (cc e)
one_letter gives.Other e = absurd (cc e)

pub letters_are : (f : Frame) (items : ItemTrees) → all_ones f items ≡ true → length (letters f items) ≡ item_count items
letters_are f NoItems e = refl
letters_are f (Item key t comma rest) e =
    let parts = and_both (is_one (expr_gives f t)) (all_ones f rest) e in
    let one = one_letter (expr_gives f t) parts.0 in
    let more = letters_are f rest parts.1 in
    omega (arith, length-append (letter (expr_gives f t)) (letters f rest), one, more)

-- what is called as no method has no receiver
no_receiver : (f : Frame) (e : ExprTree) → means_method (callee_meaning f.looks e) ≡ false → receiver_letters f e ≡ []
no_receiver f (Select e dot x) is = ap (λ t. if t then letter (expr_gives f e) else []) is
no_receiver f (Paren first e last) is = no_receiver f e is
no_receiver f (Integer n s) is = refl
no_receiver f (Text t) is = refl
no_receiver f (Named x) is = refl
no_receiver f (Unary op s e) is = refl
no_receiver f (Binary a op s b) is = refl
no_receiver f (Call e first items last) is = refl
no_receiver f (Literal n first items last) is = refl
no_receiver f (StructLiteral t first items last) is = refl

fitting_means : (g : Gives) (vs : List Value) (out : List ℕ) → Gave g vs → Is g (fitting g vs out)
fitting_means (gives.One w) vs out h = just_means (AreOver (w ∷ [])) w vs _ h (λ v i. gave_one w v i)
fitting_means gives.Nothing vs out h = none_means (AreOver []) vs (Done [] out) h tt
fitting_means gives.Other vs out h = absurd h

constant_over : (v : ConstantWord) → IsOver (word_of v) (constant_value v)
constant_over (constants.Int x) = tt
constant_over (constants.Bool b) = tt

-- what is called by a function means something
abbrev pub CallsMean : List SourceOf → SourceOf → Calls → Type 0
CallsMean program s calls = (reference number : ℕ) → callee_at s.callees reference ≡ Some number → (g : Gives) (ws : List Word) → IsDeclared program number g ws → (arguments : List Value) → AreOver ws arguments → (out : List ℕ) → Is g (calls number arguments out)

module _ (program : List SourceOf) (s : SourceOf) (typing : Typing) (calls : Calls) (mean : CallsMean program s calls) where
  abbrev pub Holds : List (Option ℕ) → Variables → Type 0
  Holds ds values = Sound typing (the_frame program s typing).slots ds values

  called_means : (reference : ℕ) (g : Gives) (ws : List Word) (vs : List Value) (out : List ℕ) → ((number : ℕ) × (callee_at s.callees reference ≡ Some number) × IsDeclared program number g ws) → AreOver ws vs → Is g (called calls (callee_at s.callees reference) g vs out)
  called_means reference g ws vs out fits h =
      subst (λ o. Is g (called calls o g vs out)) (sym fits.1)
      (means_then (Gave g) (Gave g) (calls fits.0 vs out) _ (mean reference fits.0 fits.1 g ws fits.2 vs h out) (λ us out h. fitting_means g us out h))

  end_means : (m : Meaning) (first : ℕ) (rs : List Word) (items : ItemTrees) (vs : List Value) (out : List ℕ) → (means_method m ≡ false → rs ≡ []) → AreOver (rs ++ letters (the_frame program s typing) items) vs → all_ones (the_frame program s typing) items ≡ true → CalleeFits program s typing m first rs (letters (the_frame program s typing) items) → NotOther (call_gives m (item_count items))
      → Is (call_gives m (item_count items)) (call_meaning calls (the_frame program s typing) m (callee_at s.callees (s.looks.reference first)) items vs out)
  end_means (meanings.Function g) first rs items vs out none over ones fits h =
      called_means (s.looks.reference first) g (letters (the_frame program s typing) items) vs out fits (subst (λ rs. AreOver (rs ++ letters (the_frame program s typing) items) vs) (none refl) over)
  end_means (meanings.Method g) first rs items vs out none over ones fits h = called_means (s.looks.reference first) g (rs ++ letters (the_frame program s typing) items) vs out fits over
  end_means (meanings.«Type» w) first rs items vs out none over ones fits h = go (nat_eq (item_count items) 1) h
    where
      one : AreOver (w ∷ []) vs
      one = subst (λ ws. AreOver ws vs) fits (subst (λ rs. AreOver (rs ++ letters (the_frame program s typing) items) vs) (none refl) over)

      go : (t : Bool) → NotOther (if t then gives.One w else gives.Other) → Is (if t then gives.One w else gives.Other) (just_one vs (λ v. gives_one v out))
      go true h = just_means (AreOver (w ∷ [])) w vs _ one (λ v i. gave_one w v i)
      go false h = absurd h
  end_means meanings.Println first rs items vs out none over ones fits h =
      let line = line_is (letters (the_frame program s typing) items) vs (subst (λ rs. AreOver (rs ++ letters (the_frame program s typing) items) vs) (none refl) over) in
      subst (λ o. Means (AreOver []) (if_some o (λ line. Done [] (out ++ line)))) (sym line.1) tt
  end_means meanings.Panic first rs items vs out none over ones fits h = go (nat_eq (item_count items) 1) refl h
    where
      given : AreOver (letters (the_frame program s typing) items) vs
      given = subst (λ rs. AreOver (rs ++ letters (the_frame program s typing) items) vs) (none refl) over

      go : (t : Bool) → nat_eq (item_count items) 1 ≡ t → NotOther (if t then gives.Nothing else gives.Other) → Is (if t then gives.Nothing else gives.Other) (if_some (panicked_with (letters (the_frame program s typing) items) vs) (λ value. Panicked value out))
      go true is h =
          let n : item_count items ≡ 1 = eqb→eq (item_count items) 1 (subst T (sym is) tt) in
          let p = panic_is (letters (the_frame program s typing) items) vs given (letters_are (the_frame program s typing) items ones ∙ n) in
          subst (λ o. Means (AreOver []) (if_some o (λ value. Panicked value out))) (sym p.1) tt
      go false is h = absurd h
  end_means (meanings.Variable at w) first rs items vs out none over ones fits h = absurd h
  end_means (meanings.Constant v) first rs items vs out none over ones fits h = absurd h
  end_means meanings.Other first rs items vs out none over ones fits h = absurd h

  name_means : (ds : List (Option ℕ)) (m : Meaning) (values : Variables) (out : List ℕ) → Holds ds values → NameFits program s typing ds m → NotOther (meaning_gives (the_frame program s typing).slots m) → Is (meaning_gives (the_frame program s typing).slots m) (name_value (the_frame program s typing).slots m values out)
  name_means ds (meanings.Variable at w) values out sound fits h = go (is_some (slot_of (the_frame program s typing).slots at)) h
    where
      go : (t : Bool) → NotOther (if t then gives.One w else gives.Other) → Is (if t then gives.One w else gives.Other) (if_some (value_of (the_frame program s typing).slots values at) (λ v. gives_one v out))
      go true h =
          let v = has_value typing (the_frame program s typing).slots ds values at w sound fits.0 fits.1 in
          subst (λ o. Means (AreOver (w ∷ [])) (if_some o (λ v. gives_one v out))) (sym v.1) (gave_one w v.0 v.2)
      go false h = absurd h
  name_means ds (meanings.Constant v) values out sound fits h = gave_one (word_of v) (constant_value v) (constant_over v)
  name_means ds (meanings.Function g) values out sound fits h = absurd h
  name_means ds (meanings.Method g) values out sound fits h = absurd h
  name_means ds (meanings.«Type» w) values out sound fits h = absurd h
  name_means ds meanings.Println values out sound fits h = absurd h
  name_means ds meanings.Panic values out sound fits h = absurd h
  name_means ds meanings.Other values out sound fits h = absurd h

  selected_means : (m : Meaning) (values : Variables) (out : List ℕ) → NotOther (selected_gives m) → Is (selected_gives m) (name_value (the_frame program s typing).slots m values out)
  selected_means (meanings.Constant v) values out h = gave_one (word_of v) (constant_value v) (constant_over v)
  selected_means (meanings.Variable at w) values out h = absurd h
  selected_means (meanings.Function g) values out h = absurd h
  selected_means (meanings.Method g) values out h = absurd h
  selected_means (meanings.«Type» w) values out h = absurd h
  selected_means meanings.Println values out h = absurd h
  selected_means meanings.Panic values out h = absurd h
  selected_means meanings.Other values out h = absurd h

  constant_gives : (ds : List (Option ℕ)) (e : ExprTree) (out : List ℕ) (v : ConstantWord) → folded s.looks e ≡ Some v → ExprFits program s typing ds e → NotOther (expr_gives (the_frame program s typing) e) → Is (expr_gives (the_frame program s typing) e) (gives_one (constant_value v) out)
  constant_gives ds e out v is fits h =
      subst (λ g. Is g (gives_one (constant_value v) out)) (sym (folded_gives program s typing ds v e fits h is)) (gave_one (word_of v) (constant_value v) (constant_over v))

  constant_means : (ds : List (Option ℕ)) (e : ExprTree) (out : List ℕ) (o : Outcome (List Value)) (v : Option ConstantWord) → folded s.looks e ≡ v → ExprFits program s typing ds e → NotOther (expr_gives (the_frame program s typing) e) → Is (expr_gives (the_frame program s typing) e) o → Is (expr_gives (the_frame program s typing) e) (constant_else v out o)
  constant_means ds e out o None is fits h m = m
  constant_means ds e out o (Some v) is fits h m = constant_gives ds e out v is fits h

  integer_means : (ds : List (Option ℕ)) (e : ExprTree) (out : List ℕ) (v : Option ConstantWord) → folded s.looks e ≡ v → ExprFits program s typing ds e → NotOther (expr_gives (the_frame program s typing) e) → IsGiven v → Is (expr_gives (the_frame program s typing) e) (constant_else v out Nonsense)
  integer_means ds e out None is fits h given = absurd given
  integer_means ds e out (Some v) is fits h given = constant_gives ds e out v is fits h

  receiver_case : (ds : List (Option ℕ)) (t : Bool) (g : Gives) (o : Outcome (List Value)) (out : List ℕ) → (not t || is_one g) ≡ true → (t ≡ true → NotOther g → Is g o) → Means (AreOver (if t then letter g else [])) (if t then with_one o gives_one else Done [] out)
  receiver_case ds true (gives.One w) o out is m = one_means (AreOver (w ∷ [])) w o gives_one (m refl tt) (λ v out h. gave_one w v h)
  receiver_case ds true gives.Nothing o out is m = absurd (cc is)
  receiver_case ds true gives.Other o out is m = absurd (cc is)
  receiver_case ds false g o out is m = tt

  bare_case : (ds : List (Option ℕ)) (m : Meaning) (out : List ℕ) → NameFits program s typing ds m → Means (AreOver []) (if means_method m then Nonsense else Done [] out)
  bare_case ds (meanings.Method g) out h = absurd h
  bare_case ds (meanings.Variable at w) out h = tt
  bare_case ds (meanings.Constant v) out h = tt
  bare_case ds (meanings.Function g) out h = tt
  bare_case ds (meanings.«Type» w) out h = tt
  bare_case ds meanings.Println out h = tt
  bare_case ds meanings.Panic out h = tt
  bare_case ds meanings.Other out h = tt

  item_case : (g : Gives) (ws : List Word) (o : Outcome (List Value)) (more : List ℕ → Outcome (List Value)) → is_one g ≡ true → (NotOther g → Is g o) → ((out : List ℕ) → Means (AreOver ws) (more out)) → Means (AreOver (letter g ++ ws)) (with_one o (λ v out. and_then (more out) (λ vs out. Done (v ∷ vs) out)))
  item_case (gives.One w) ws o more is m k = one_means (AreOver (w ∷ ws)) w o _ (m tt) (λ v out h. means_then (AreOver ws) (AreOver (w ∷ ws)) (more out) _ (k out) (λ vs out hs. (h, hs)))
  item_case gives.Nothing ws o more is m k = absurd (cc is)
  item_case gives.Other ws o more is m k = absurd (cc is)

  -- the parts of a call
  call_means : (e : ExprTree) (first : ℕ) (items : ItemTrees) (values : Variables) (out : List ℕ) (t : Bool) → (receiver_fits (the_frame program s typing) e && all_ones (the_frame program s typing) items) ≡ t → CalleeFits program s typing (callee_meaning s.looks e) first (receiver_letters (the_frame program s typing) e) (letters (the_frame program s typing) items)
      → NotOther (if t then call_gives (callee_meaning s.looks e) (item_count items) else gives.Other)
      → (receiver_fits (the_frame program s typing) e ≡ true → Means (AreOver (receiver_letters (the_frame program s typing) e)) (receiver_meaning (scene_of calls s) e values out))
      → (all_ones (the_frame program s typing) items ≡ true → (out : List ℕ) → Means (AreOver (letters (the_frame program s typing) items)) (items_meaning (scene_of calls s) items values out))
      → Is (if t then call_gives (callee_meaning s.looks e) (item_count items) else gives.Other)
      (and_then (receiver_meaning (scene_of calls s) e values out) (λ receiver out. and_then (items_meaning (scene_of calls s) items values out) (λ vs out. call_meaning calls (the_frame program s typing) (callee_meaning s.looks e) (callee_at s.callees (s.looks.reference first)) items (receiver ++ vs) out)))
  call_means e first items values out false is fits h mr mi = absurd h
  call_means e first items values out true is fits h mr mi =
      let parts = and_both (receiver_fits (the_frame program s typing) e) (all_ones (the_frame program s typing) items) is in
      let m = callee_meaning s.looks e in
      let rs = receiver_letters (the_frame program s typing) e in
      let ws = letters (the_frame program s typing) items in
      means_then (AreOver rs) (Gave (call_gives m (item_count items))) (receiver_meaning (scene_of calls s) e values out) _ (mr parts.0)
      (λ us out hu. means_then (AreOver ws) (Gave (call_gives m (item_count items))) (items_meaning (scene_of calls s) items values out) _ (mi parts.1 out)
      (λ vs out hv. end_means m first rs items (us ++ vs) out (no_receiver (the_frame program s typing) e) (over_both rs ws us vs hu hv) parts.1 fits h))

  mutual
    pub expr_means : (ds : List (Option ℕ)) (e : ExprTree) (values : Variables) (out : List ℕ) → Holds ds values → ExprFits program s typing ds e → NotOther (expr_gives (the_frame program s typing) e) → Is (expr_gives (the_frame program s typing) e) (expr_meaning (scene_of calls s) e values out)
    expr_means ds (Integer n span) values out sound fits h = integer_means ds (Integer n span) out (folded s.looks (Integer n span)) refl fits h fits
    expr_means ds (Text t) values out sound fits h = absurd h
    expr_means ds (Named x) values out sound fits h = name_means ds (s.looks.meaning x.span.start) values out sound fits h
    expr_means ds (Paren first e last) values out sound fits h = expr_means ds e values out sound fits h
    expr_means ds (Unary op span e) values out sound fits h =
        constant_means ds (Unary op span e) out _ (folded s.looks (Unary op span e)) refl fits h
        (unary_case (is_one (expr_gives (the_frame program s typing) e)) op (expr_gives (the_frame program s typing) e) (expr_meaning (scene_of calls s) e values out) refl fits.0 h (λ other. expr_means ds e values out sound fits.1 other))
    expr_means ds (Binary x op span y) values out sound fits h =
        constant_means ds (Binary x op span y) out _ (folded s.looks (Binary x op span y)) refl fits h
        (binary_case (is_one (expr_gives (the_frame program s typing) x) && is_one (expr_gives (the_frame program s typing) y)) op (expr_gives (the_frame program s typing) x) (expr_gives (the_frame program s typing) y) (expr_meaning (scene_of calls s) x values out) (expr_meaning (scene_of calls s) y values) refl fits.0 h (λ other. expr_means ds x values out sound fits.1 other) (λ other out. expr_means ds y values out sound fits.2 other))
    expr_means ds (Select e dot x) values out sound fits h = selected_means (s.looks.meaning x.span.start) values out h
    expr_means ds (Call e first items last) values out sound fits h =
        constant_means ds (Call e first items last) out _ (folded s.looks (Call e first items last)) refl fits h
        (call_means e first.start items values out (receiver_fits (the_frame program s typing) e && all_ones (the_frame program s typing) items) refl fits.0 h (λ ok. receiver_means ds e values out sound fits.1 ok) (λ ones out. items_mean ds items values out sound fits.2 ones))
    expr_means ds (Literal n first items last) values out sound fits h = absurd h
    expr_means ds (StructLiteral t first items last) values out sound fits h = absurd h

    receiver_means : (ds : List (Option ℕ)) (e : ExprTree) (values : Variables) (out : List ℕ) → Holds ds values → ExprFits program s typing ds e → receiver_fits (the_frame program s typing) e ≡ true → Means (AreOver (receiver_letters (the_frame program s typing) e)) (receiver_meaning (scene_of calls s) e values out)
    receiver_means ds (Select e dot x) values out sound fits ok = receiver_case ds (means_method (s.looks.meaning x.span.start)) (expr_gives (the_frame program s typing) e) (expr_meaning (scene_of calls s) e values out) out ok (λ is other. expr_means ds e values out sound (fits is) other)
    receiver_means ds (Paren first e last) values out sound fits ok = receiver_means ds e values out sound fits ok
    receiver_means ds (Integer n span) values out sound fits ok = tt
    receiver_means ds (Text t) values out sound fits ok = tt
    receiver_means ds (Named x) values out sound fits ok = bare_case ds (s.looks.meaning x.span.start) out fits
    receiver_means ds (Unary op span e) values out sound fits ok = tt
    receiver_means ds (Binary x op span y) values out sound fits ok = tt
    receiver_means ds (Call e first items last) values out sound fits ok = tt
    receiver_means ds (Literal n first items last) values out sound fits ok = tt
    receiver_means ds (StructLiteral t first items last) values out sound fits ok = tt

    items_mean : (ds : List (Option ℕ)) (items : ItemTrees) (values : Variables) (out : List ℕ) → Holds ds values → ItemsFit program s typing ds items → all_ones (the_frame program s typing) items ≡ true → Means (AreOver (letters (the_frame program s typing) items)) (items_meaning (scene_of calls s) items values out)
    items_mean ds NoItems values out sound fits ones = tt
    items_mean ds (Item key e comma rest) values out sound fits ones =
        let parts = and_both (is_one (expr_gives (the_frame program s typing) e)) (all_ones (the_frame program s typing) rest) ones in
        item_case (expr_gives (the_frame program s typing) e) (letters (the_frame program s typing) rest) (expr_meaning (scene_of calls s) e values out) (λ out. items_meaning (scene_of calls s) rest values out) parts.0 (λ other. expr_means ds e values out sound fits.0 other) (λ out. items_mean ds rest values out sound fits.1 parts.1)
