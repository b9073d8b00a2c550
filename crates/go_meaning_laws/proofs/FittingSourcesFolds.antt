-- A constant is over what its expression gives.
use Rattle.std.proofs.Common.{◌≡◌, ℕ, Bool, true, false, ◌&&◌, List, [], ◌∷◌, ◌++◌, ℤ, pos, Option, Some, None, refl, sym, ap, ◌∙◌, nat_eq, nat_lt, ◌^◌, if◌then◌else◌}
use Rattle.std.specs.Prelude.{◌+ℤ◌, ◌-ℤ◌, ◌*ℤ◌, neg_ℤ, int_div, int_rem}
use Rattle.go_tree_nodes.specs.token_core.declared.kind.Operator.{Operator}
use Rattle.go_tree_nodes.specs.token_core.declared.kind.Operator.TheVariants as operators
use Rattle.go_tree_nodes.specs.Trees.{ExprTree, ItemTrees, Integer, Text, Named, Paren, Unary, Binary, Select, Call, Literal, StructLiteral, NoItems, Item}
use Rattle.go_tree_nodes.specs.Counts.{item_count}
use Rattle.go_object_core.specs.declared.instructions.letters.Word.{Word}
use Rattle.go_object_core.specs.declared.instructions.letters.Word.TheVariants as words
use Rattle.go_constant_core.specs.declared.values.Constant.TheVariants as values
use Rattle.go_constant_core.specs.Values.{fits_64_bits, int_same, ranged, divided, unary, binary}
use Rattle.go_code_core.specs.declared.fragments.names.ConstantWord.{ConstantWord}
use Rattle.go_code_core.specs.declared.fragments.names.ConstantWord.TheVariants as constants
use Rattle.go_code_core.specs.declared.fragments.names.Gives.TheVariants as gives
use Rattle.go_code_core.specs.declared.fragments.names.Meaning.{Meaning}
use Rattle.go_code_core.specs.declared.fragments.names.Meaning.TheVariants as meanings
use Rattle.go_code_core.specs.fragments.Constants.{held, some_held, folded_unary, folded_binary, folded_name, converted, folded, folded_one}
use Rattle.go_code_core.specs.fragments.Fragment.{is_one, over, unary_word, binary_word, meaning_gives, selected_gives, call_gives, expr_gives, receiver_fits, all_ones}
use Rattle.go_code_core.specs.fragments.Names.{word_of, callee_meaning}
use Rattle.go_code_core.specs.Code.{letter, letters}
use Rattle.go_meaning_laws.specs.source_meaning.Meaning.{SourceOf}
use Rattle.go_meaning_laws.specs.fitting_sources.Fitting.{Typing, the_frame, CalleeFits, ExprFits, ItemsFit, receiver_letters}
use Rattle.go_meaning_laws.proofs.FittingSourcesValued.{NotOther, and_both, not_other}

-- values of operators

ranged_int : (z : ℤ) (v : ConstantWord) → some_held (ranged z) ≡ Some v → gives.One words.Int ≡ gives.One (word_of v)
ranged_int z v e = go (fits_64_bits z) e
  where
    go : (t : Bool) → some_held (if t then Some (values.Int z) else None) ≡ Some v → gives.One words.Int ≡ gives.One (word_of v)
    go true e = let same : constants.Int z ≡ v = cc e in ap (λ u. gives.One (word_of u)) same
    go false e = absurd (cc e)

divided_int : (f : ℤ → ℤ → ℤ) (a b : ℤ) (v : ConstantWord) → some_held (divided f a b) ≡ Some v → gives.One words.Int ≡ gives.One (word_of v)
divided_int f a b v e = go (int_same b (pos 0)) e
  where
    go : (t : Bool) → some_held (if t then Some values.Unknown else ranged (f a b)) ≡ Some v → gives.One words.Int ≡ gives.One (word_of v)
    go true e = absurd (cc e)
    go false e = ranged_int (f a b) v e

bool_is : (b : Bool) (v : ConstantWord) → Some (constants.Bool b) ≡ Some v → gives.One words.Bool ≡ gives.One (word_of v)
bool_is b v e = let same : constants.Bool b ≡ v = cc e in ap (λ u. gives.One (word_of u)) same

unary_int : (op : Operator) (a : ℤ) (v : ConstantWord) → some_held (unary op (values.Int a)) ≡ Some v → NotOther (over (unary_word op)) → over (unary_word op) ≡ gives.One (word_of v)
unary_int operators.Plus a v e h = let same : constants.Int a ≡ v = cc e in ap (λ u. gives.One (word_of u)) same
unary_int operators.Minus a v e h = ranged_int (neg_ℤ a) v e
unary_int operators.Not a v e h = absurd (cc e)
unary_int _ a v e h = absurd h

unary_bool : (op : Operator) (a : Bool) (v : ConstantWord) → some_held (unary op (values.Bool a)) ≡ Some v → NotOther (over (unary_word op)) → over (unary_word op) ≡ gives.One (word_of v)
unary_bool operators.Plus a v e h = absurd (cc e)
unary_bool operators.Minus a v e h = absurd (cc e)
unary_bool operators.Not a v e h = bool_is _ v e
unary_bool _ a v e h = absurd h

unary_folds : (op : Operator) (o : Option ConstantWord) (t : Bool) (v : ConstantWord) → folded_unary op o ≡ Some v → NotOther (if t then over (unary_word op) else gives.Other) → (if t then over (unary_word op) else gives.Other) ≡ gives.One (word_of v)
unary_folds op o false v e h = absurd h
unary_folds op None true v e h = absurd (cc e)
unary_folds op (Some (constants.Int a)) true v e h = unary_int op a v e h
unary_folds op (Some (constants.Bool a)) true v e h = unary_bool op a v e h

binary_int : (op : Operator) (a b : ℤ) (v : ConstantWord) → some_held (binary op (values.Int a) (values.Int b)) ≡ Some v → NotOther (over (binary_word op)) → over (binary_word op) ≡ gives.One (word_of v)
binary_int operators.Plus a b v e h = ranged_int (a +ℤ b) v e
binary_int operators.Minus a b v e h = ranged_int (a -ℤ b) v e
binary_int operators.Star a b v e h = ranged_int (a *ℤ b) v e
binary_int operators.Slash a b v e h = divided_int int_div a b v e
binary_int operators.Percent a b v e h = divided_int int_rem a b v e
binary_int operators.Equal a b v e h = bool_is _ v e
binary_int operators.NotEqual a b v e h = bool_is _ v e
binary_int operators.Less a b v e h = bool_is _ v e
binary_int operators.LessEqual a b v e h = bool_is _ v e
binary_int operators.Greater a b v e h = bool_is _ v e
binary_int operators.GreaterEqual a b v e h = bool_is _ v e
binary_int operators.LogicalAnd a b v e h = absurd (cc e)
binary_int operators.LogicalOr a b v e h = absurd (cc e)
binary_int _ a b v e h = absurd h

binary_bool : (op : Operator) (a b : Bool) (v : ConstantWord) → some_held (binary op (values.Bool a) (values.Bool b)) ≡ Some v → NotOther (over (binary_word op)) → over (binary_word op) ≡ gives.One (word_of v)
binary_bool operators.LogicalAnd a b v e h = bool_is _ v e
binary_bool operators.LogicalOr a b v e h = bool_is _ v e
binary_bool operators.Equal a b v e h = bool_is _ v e
binary_bool operators.NotEqual a b v e h = bool_is _ v e
binary_bool operators.Plus a b v e h = absurd (cc e)
binary_bool operators.Minus a b v e h = absurd (cc e)
binary_bool operators.Star a b v e h = absurd (cc e)
binary_bool operators.Slash a b v e h = absurd (cc e)
binary_bool operators.Percent a b v e h = absurd (cc e)
binary_bool operators.Less a b v e h = absurd (cc e)
binary_bool operators.LessEqual a b v e h = absurd (cc e)
binary_bool operators.Greater a b v e h = absurd (cc e)
binary_bool operators.GreaterEqual a b v e h = absurd (cc e)
binary_bool _ a b v e h = absurd h

binary_folds : (op : Operator) (o p : Option ConstantWord) (t : Bool) (v : ConstantWord) → folded_binary op o p ≡ Some v → NotOther (if t then over (binary_word op) else gives.Other) → (if t then over (binary_word op) else gives.Other) ≡ gives.One (word_of v)
binary_folds op o p false v e h = absurd h
binary_folds op None p true v e h = absurd (cc e)
binary_folds op (Some a) None true v e h = absurd (cc e)
binary_folds op (Some (constants.Int a)) (Some (constants.Int b)) true v e h = binary_int op a b v e h
binary_folds op (Some (constants.Bool a)) (Some (constants.Bool b)) true v e h = binary_bool op a b v e h
binary_folds op (Some (constants.Int a)) (Some (constants.Bool b)) true v e h = absurd (cc e)
binary_folds op (Some (constants.Bool a)) (Some (constants.Int b)) true v e h = absurd (cc e)

-- names

name_folds : (slots : List (Option ℕ)) (m : Meaning) (v : ConstantWord) → folded_name m ≡ Some v → meaning_gives slots m ≡ gives.One (word_of v)
name_folds slots (meanings.Constant c) v e = let same : c ≡ v = cc e in ap (λ u. gives.One (word_of u)) same
name_folds slots (meanings.Variable at w) v e = absurd (cc e)
name_folds slots (meanings.Function g) v e = absurd (cc e)
name_folds slots (meanings.Method g) v e = absurd (cc e)
name_folds slots (meanings.«Type» w) v e = absurd (cc e)
name_folds slots meanings.Println v e = absurd (cc e)
name_folds slots meanings.Panic v e = absurd (cc e)
name_folds slots meanings.Other v e = absurd (cc e)

selected_folds : (m : Meaning) (v : ConstantWord) → folded_name m ≡ Some v → selected_gives m ≡ gives.One (word_of v)
selected_folds (meanings.Constant c) v e = let same : c ≡ v = cc e in ap (λ u. gives.One (word_of u)) same
selected_folds (meanings.Variable at w) v e = absurd (cc e)
selected_folds (meanings.Function g) v e = absurd (cc e)
selected_folds (meanings.Method g) v e = absurd (cc e)
selected_folds (meanings.«Type» w) v e = absurd (cc e)
selected_folds meanings.Println v e = absurd (cc e)
selected_folds meanings.Panic v e = absurd (cc e)
selected_folds meanings.Other v e = absurd (cc e)

integer_folds : (n : ℕ) (v : ConstantWord) (t : Bool) → held (if t then values.Int (pos n) else values.Unknown) ≡ Some v → gives.One words.Int ≡ gives.One (word_of v)
integer_folds n v true e = let same : constants.Int (pos n) ≡ v = cc e in ap (λ u. gives.One (word_of u)) same
integer_folds n v false e = absurd (cc e)

module _ (program : List SourceOf) (s : SourceOf) (typing : Typing) (ds : List (Option ℕ)) (v : ConstantWord) where
  -- a call that is constant is a conversion
  call_folds : (m : Meaning) (first n : ℕ) (rs ws : List Word) (o : Option ConstantWord) (t : Bool) → (t ≡ true → o ≡ Some v → ws ≡ word_of v ∷ []) → converted m o ≡ Some v → CalleeFits program s typing m first rs ws → NotOther (if t then call_gives m n else gives.Other) → (if t then call_gives m n else gives.Other) ≡ gives.One (word_of v)
  call_folds m first n rs ws o false k e fits h = absurd h
  call_folds (meanings.«Type» w) first n rs ws o true k e fits h = go (nat_eq n 1) h
    where
      go : (t : Bool) → NotOther (if t then gives.One w else gives.Other) → (if t then gives.One w else gives.Other) ≡ gives.One (word_of v)
      go true h = let same : w ∷ [] ≡ word_of v ∷ [] = sym fits ∙ k refl e in let this : w ≡ word_of v = cc same in ap gives.One this
      go false h = absurd h
  call_folds (meanings.Variable at w) first n rs ws o true k e fits h = absurd (cc e)
  call_folds (meanings.Constant c) first n rs ws o true k e fits h = absurd (cc e)
  call_folds (meanings.Function g) first n rs ws o true k e fits h = absurd (cc e)
  call_folds (meanings.Method g) first n rs ws o true k e fits h = absurd (cc e)
  call_folds meanings.Println first n rs ws o true k e fits h = absurd (cc e)
  call_folds meanings.Panic first n rs ws o true k e fits h = absurd (cc e)
  call_folds meanings.Other first n rs ws o true k e fits h = absurd (cc e)

  mutual
    pub folded_gives : (e : ExprTree) → ExprFits program s typing ds e → NotOther (expr_gives (the_frame program s typing) e) → folded s.looks e ≡ Some v → expr_gives (the_frame program s typing) e ≡ gives.One (word_of v)
    folded_gives (Integer n span) fits h e = integer_folds n v (nat_lt n (2 ^ 63)) e
    folded_gives (Text t) fits h e = absurd h
    folded_gives (Named x) fits h e = name_folds (the_frame program s typing).slots (s.looks.meaning x.span.start) v e
    folded_gives (Paren first e last) fits h is = folded_gives e fits h is
    folded_gives (Unary op span e) fits h is = unary_folds op (folded s.looks e) (is_one (expr_gives (the_frame program s typing) e)) v is h
    folded_gives (Binary a op span b) fits h is = binary_folds op (folded s.looks a) (folded s.looks b) (is_one (expr_gives (the_frame program s typing) a) && is_one (expr_gives (the_frame program s typing) b)) v is h
    folded_gives (Select e dot x) fits h is = selected_folds (s.looks.meaning x.span.start) v is
    folded_gives (Call e first items last) fits h is =
        call_folds (callee_meaning s.looks e) first.start (item_count items) (receiver_letters (the_frame program s typing) e) (letters (the_frame program s typing) items) (folded_one s.looks items) (receiver_fits (the_frame program s typing) e && all_ones (the_frame program s typing) items)
        (λ t k. folded_item items fits.2 (and_both (receiver_fits (the_frame program s typing) e) (all_ones (the_frame program s typing) items) t).1 k) is fits.0 h
    folded_gives (Literal n first items last) fits h is = absurd h
    folded_gives (StructLiteral t first items last) fits h is = absurd h

    folded_item : (items : ItemTrees) → ItemsFit program s typing ds items → all_ones (the_frame program s typing) items ≡ true → folded_one s.looks items ≡ Some v → letters (the_frame program s typing) items ≡ word_of v ∷ []
    folded_item NoItems fits ones is = absurd (cc is)
    folded_item (Item key e comma NoItems) fits ones is =
        let one = (and_both (is_one (expr_gives (the_frame program s typing) e)) true ones).0 in
        ap (λ g. letter g ++ []) (folded_gives e fits.0 (not_other (expr_gives (the_frame program s typing) e) one) is)
    folded_item (Item key e comma (Item key' e' comma' rest)) fits ones is = absurd (cc is)
