-- Words that pass the tests are those of the grammar.
use Rattle.std.proofs.Common.{◌≡◌, ℕ, Bool, true, false, not, ◌&&◌, inl, inr, List, [], ◌∷◌, Some, refl, sym, ap, ◌∙◌}
use Rattle.std.specs.Prelude.{find}
use Rattle.std.specs.List.{AllByRecursion, list_all, list_any}
use Rattle.std.specs.Str.{bytes_eq}
use Rattle.std.proofs.lemmas.Slice.Eq.{bytes_eq-Decides}
use Rattle.go_denote_core.specs.text_core.Text.{letter}
use Rattle.go_denote_core.specs.text_core.Each.{true_or_false}
use Rattle.go_tree_nodes.specs.token_core.declared.kind.Keyword.{Keyword}
use Rattle.go_tree_nodes.specs.token_core.declared.kind.TheConstants.{KEYWORDS}
use Rattle.go_tree_nodes.specs.token_core.declared.kind.TokenKind.TheVariants as kinds
use Rattle.go_tree_nodes.specs.token_core.Characters.{first_passes, letter_or_digit}
use Rattle.go_tree_nodes.specs.token_core.Spelling.{keyword_spelling}
use Rattle.go_tree_nodes.specs.token_core.Choices.{chosen}
use Rattle.go_scan_core.specs.mirrors.Reading.{keyword_spelled}
use Rattle.go_scan_core.specs.Tokens.{IsLexeme}
use Rattle.go_scan_core.proofs.FrontLemmas.{and_true, keyword_again, not_true, or_true}
use Rattle.go_scan_core.proofs.LexemeLemmas.{all_from_test}
use Rattle.go_block_core.specs.Words.{begins_with_letter, identifier, is_keyword}
use Rattle.go_spec_laws.specs.front.WordLaws.{IdentifiersAreWords, IsSpelling}

-- ---- keywords

-- one that passes is among them, where some pass
one_passes : {X : Type 0} (p : X → Bool) (xs : List X) → list_any p xs ≡ true → (x : X) × (p x ≡ true)
one_passes p [] h = cc
one_passes p (x ∷ xs) h = elim (or_true (p x) (list_any p xs) h) [ inl a ↦ (x, a) | inr a ↦ one_passes p xs a ]

-- some pass, where one is found
found_passes : {X : Type 0} (p : X → Bool) (xs : List X) (x : X) → find p xs ≡ Some x → list_any p xs ≡ true
found_passes p [] x e = cc
found_passes p (y ∷ ys) x e = elim (chosen (p y) (Some y) (find p ys) (Some x) e) [ inl h ↦ rw h.0 refl | inr h ↦ rw h.0 (found_passes p ys x h.1) ]

keyword_is : (word : List ℕ) → is_keyword word ≡ true → IsSpelling word
keyword_is word h = let one = one_passes (λ k. bytes_eq word (keyword_spelling k)) KEYWORDS h in (one.0, (bytes_eq-Decides word (keyword_spelling one.0)).0 one.1)

keyword_listed : (k : Keyword) → is_keyword (keyword_spelling k) ≡ true
keyword_listed k = found_passes (λ j. bytes_eq (keyword_spelling k) (keyword_spelling j)) KEYWORDS k (unfold keyword_spelled in keyword_again k)

is_listed : (word : List ℕ) → IsSpelling word → is_keyword word ≡ true
is_listed word s = ap is_keyword s.1 ∙ keyword_listed s.0

-- ---- identifiers

same_test : (word : List ℕ) → begins_with_letter word ≡ first_passes letter word
same_test [] = refl
same_test (c ∷ cs) = refl

test_from_all : (p : ℕ → Bool) (w : List ℕ) → AllByRecursion (λ c. p c ≡ true) w → list_all p w ≡ true
test_from_all p [] h = refl
test_from_all p (c ∷ w) h = rw h.0 (test_from_all p w h.1)

identifier_is : (word : List ℕ) → identifier word ≡ true → IsLexeme kinds.Identifier word
identifier_is word h =
    let both = and_true (begins_with_letter word) (list_all letter_or_digit word && not (is_keyword word)) h in
    let rest = and_true (list_all letter_or_digit word) (not (is_keyword word)) both.1 in (
      record { first = sym (same_test word) ∙ both.0; all = all_from_test letter_or_digit word rest.0 },
      λ k same. let no : true ≡ false = sym (is_listed word (k, same)) ∙ not_true (is_keyword word) rest.1 in cc,
    )

is_identifier : (word : List ℕ) → IsLexeme kinds.Identifier word → identifier word ≡ true
is_identifier word h =
    let first : begins_with_letter word ≡ true = same_test word ∙ h.0.first in
    let all : list_all letter_or_digit word ≡ true = test_from_all letter_or_digit word h.0.all in
    let none : is_keyword word ≡ false = elim (true_or_false (is_keyword word)) [
      | inl a ↦ (let k = keyword_is word a in absurd (h.1 k.0 k.1))
      | inr a ↦ a
    ] in
    join (begins_with_letter word) (list_all letter_or_digit word) (is_keyword word) first all none
  where
    join : (a b c : Bool) → a ≡ true → b ≡ true → c ≡ false → (a && (b && not c)) ≡ true
    join a b c f g h = rw (f, g, h) refl

pub identifiers_are_words : IdentifiersAreWords
identifiers_are_words = record {
  identifiers = λ word. (identifier_is word, is_identifier word);
  keywords = λ word. (keyword_is word, is_listed word);
}
