-- What a test finds of all rules holds of each.
use Rattle.std.proofs.Common.{◌≡◌, ◌≢◌, ◌∙◌, Bool, true, false, cond, ◌&&◌, not, ℕ, List, [], ◌∷◌, take, Option, Some, None, refl, sym, ap, ap₂}
use Rattle.std.specs.Prelude.{filter, find}
use Rattle.std.specs.List.{list_all}
use Rattle.std.specs.Option.{option_map_or}
use Rattle.std.specs.Str.{bytes_eq}
use Rattle.std.proofs.lemmas.Slice.Eq.{bytes_eq-Decides}
use Rattle.go_text_core.specs.Rules.{rule_number}
use Rattle.go_text_core.specs.declared.rule.Rule.{Rule}
use Rattle.go_explain_core.specs.Examples.{example_of}
use Rattle.go_explain_core.specs.Laws.{ends_a_line, lies_in_a_line, needs_no_escape}
use Rattle.go_explain_core.specs.Meanings.{rule_meaning}
use Rattle.go_explain_core.specs.Mendings.{mending_of}
use Rattle.go_explain_core.specs.Naming.{all_rules, named, rule_of_number, near}
use Rattle.go_explain_core.specs.Telling.{explained_text, list_line}
use Rattle.go_explain_core.proofs.Numbers.{names_each}

-- what is found of a list passes what all of it pass
passes : (q p : Rule → Bool) (xs : List Rule) (r : Rule) → find q xs ≡ Some r → list_all p xs ≡ true → p r ≡ true
passes q p [] r e all = absurd (cc)
passes q p (x ∷ xs) r e all = by (q x) (p x) refl refl (passes q p xs r) e all
  where
    by : (b k : Bool) → q x ≡ b → p x ≡ k → (find q xs ≡ Some r → list_all p xs ≡ true → p r ≡ true) → cond b (Some x) (find q xs) ≡ Some r → (k && list_all p xs) ≡ true → p r ≡ true
    by true true h g later e' all' = cc
    by true false h g later e' all' = absurd (cc)
    by false true h g later e' all' = later e' all'
    by false false h g later e' all' = absurd (cc)

pub everywhere : (p : Rule → Bool) → list_all p all_rules ≡ true → (r : Rule) → p r ≡ true
everywhere p all r = passes (named (rule_number r)) p all_rules r (names_each r) all

some_same : {A : Type 0} (x y : A) → Some x ≡ Some y → x ≡ y
some_same x y e = cc

-- rules of one number are one
pub numbers_apart : (r s : Rule) → rule_number r ≡ rule_number s → r ≡ s
numbers_apart r s e = some_same r s (sym (names_each r) ∙ ap rule_of_number e ∙ names_each s)

-- a text in which no two rules agree
module _ (said : Rule → List ℕ) where
  -- the first rule of which a text is said
  said_by : List ℕ → Option Rule
  said_by text = find (λ s. bytes_eq (said s) text) all_rules

  -- it has the number of the rule at hand
  is_first : Rule → Bool
  is_first r = option_map_or (λ s. bytes_eq (rule_number s) (rule_number r)) (said_by (said r)) false

  first : (r : Rule) (o : Option Rule) → option_map_or (λ s. bytes_eq (rule_number s) (rule_number r)) o false ≡ true → o ≡ Some r
  first r None e = absurd (cc)
  first r (Some s) e = ap Some (numbers_apart s r ((bytes_eq-Decides (rule_number s) (rule_number r)).0 e))

  told_apart : list_all is_first all_rules ≡ true → (r s : Rule) → said r ≡ said s → r ≡ s
  unfolding said_by is_first
  told_apart all r s e =
      some_same r s (sym (first r (said_by (said r)) (everywhere is_first all r)) ∙ ap said_by e ∙ first s (said_by (said s)) (everywhere is_first all s))

pub meanings_apart : (r s : Rule) → rule_meaning r ≡ rule_meaning s → r ≡ s
unfolding said_by is_first
meanings_apart = told_apart rule_meaning refl

pub examples_apart : (r s : Rule) → example_of r ≡ example_of s → r ≡ s
unfolding said_by is_first
examples_apart = told_apart example_of refl

-- a list of one element
abbrev is_single : List Rule → Bool
is_single [] = false
is_single (x ∷ []) = true
is_single (x ∷ (y ∷ ys)) = false

single_first : (q : Rule → Bool) (xs : List Rule) (r : Rule) → find q xs ≡ Some r → is_single (filter q xs) ≡ true → filter q xs ≡ r ∷ []
single_first q [] r e one = absurd (cc)
single_first q (x ∷ xs) r e one = by (q x) refl (single_first q xs r) e one
  where
    alone : (ys : List Rule) → is_single (x ∷ ys) ≡ true → ys ≡ []
    alone [] one' = refl
    alone (y ∷ ys) one' = absurd (cc)

    by : (b : Bool) → q x ≡ b → (find q xs ≡ Some r → is_single (filter q xs) ≡ true → filter q xs ≡ r ∷ []) → cond b (Some x) (find q xs) ≡ Some r → is_single (cond b (x ∷ filter q xs) (filter q xs)) ≡ true → cond b (x ∷ filter q xs) (filter q xs) ≡ r ∷ []
    by true h later e' one' = ap₂ (λ y ys. y ∷ ys) (some_same x r e') (alone (filter q xs) one')
    by false h later e' one' = later e' one'

-- each rule stands once
pub stands_once : (r : Rule) → filter (named (rule_number r)) all_rules ≡ r ∷ []
stands_once r = single_first (named (rule_number r)) all_rules r (names_each r) (everywhere (λ x. is_single (filter (named (rule_number x)) all_rules)) refl r)

pub near_itself : (r : Rule) → near (rule_number r) r ≡ true
near_itself = everywhere (λ r. near (rule_number r) r) refl

-- a text that begins with a rule's number
begins : (text : List ℕ) (r : Rule) → bytes_eq (take 2 text) (rule_number r) ≡ true → rule_of_number (take 2 text) ≡ Some r
begins text r e = ap rule_of_number ((bytes_eq-Decides (take 2 text) (rule_number r)).0 e) ∙ names_each r

pub texts_name : (r : Rule) → rule_of_number (take 2 (explained_text r)) ≡ Some r
texts_name r = begins (explained_text r) r (everywhere (λ x. bytes_eq (take 2 (explained_text x)) (rule_number x)) refl r)

pub lines_name : (r : Rule) → rule_of_number (take 2 (list_line r)) ≡ Some r
lines_name r = begins (list_line r) r (everywhere (λ x. bytes_eq (take 2 (list_line x)) (rule_number x)) refl r)

pub texts_apart : (r s : Rule) → explained_text r ≡ explained_text s → r ≡ s
texts_apart r s e = some_same r s (sym (texts_name r) ∙ ap (λ t. rule_of_number (take 2 t)) e ∙ texts_name s)

pub meanings_lie_in_lines : (r : Rule) → lies_in_a_line (rule_meaning r) ≡ true
meanings_lie_in_lines = everywhere (λ r. lies_in_a_line (rule_meaning r)) refl

pub meanings_need_no_escape : (r : Rule) → needs_no_escape (rule_meaning r) ≡ true
meanings_need_no_escape = everywhere (λ r. needs_no_escape (rule_meaning r)) refl

pub numbers_need_no_escape : (r : Rule) → needs_no_escape (rule_number r) ≡ true
numbers_need_no_escape = everywhere (λ r. needs_no_escape (rule_number r)) refl

pub examples_end_lines : (r : Rule) → ends_a_line (example_of r) ≡ true
examples_end_lines = everywhere (λ r. ends_a_line (example_of r)) refl

pub mendings_end_lines : (r : Rule) → ends_a_line (mending_of r) ≡ true
mendings_end_lines = everywhere (λ r. ends_a_line (mending_of r)) refl

-- a test that fails does not hold
fails : (b : Bool) → not b ≡ true → b ≢ true
fails true h e = absurd (cc)
fails false h e = absurd (cc)

pub mendings_differ : (r : Rule) → mending_of r ≢ example_of r
mendings_differ r same =
    fails (bytes_eq (mending_of r) (example_of r)) (everywhere (λ x. not (bytes_eq (mending_of x) (example_of x))) refl r)
    ((bytes_eq-Decides (mending_of r) (example_of r)).1 same)
