-- The keyword or operator at the front is found among those that begin with its first character.
use Rattle.std.proofs.Common.{◌≡◌, ℕ, Bool, true, false, not, ◌==◌, ◌<◌, ◌≤◌, None, inl, inr, List, ◌∷◌, [], ◌++◌, length, nat_eq, refl, sym, ap, ◌∙◌, subst, arith}
use Rattle.std.specs.Prelude.{find}
use Rattle.std.specs.List.{filter, list_all, starts_with}
use Rattle.std.specs.Str.{bytes_eq}
use Rattle.std.proofs.Math.ListN.{get_or}
use Rattle.std.proofs.lemmas.Bool.Decides.{Decides-eqb, nat_tests}
use Rattle.std.proofs.lemmas.Slice.Eq.{bytes_eq-Decides, starts_is}
use Rattle.go_token_core.specs.text_core.Each.{true_or_false}
use Rattle.go_token_core.specs.declared.kind.Keyword.{Keyword}
use Rattle.go_token_core.specs.declared.kind.Operator.{Operator}
use Rattle.go_token_core.specs.declared.kind.TheConstants.{KEYWORDS, OPERATORS}
use Rattle.go_scan_core.specs.mirrors.Candidates.{keywords_with, operators_with}
use Rattle.go_token_core.specs.Spelling.{keyword_spelling, operator_spelling}
use Rattle.go_token_core.specs.Characters.{first_passes}
use Rattle.go_scan_core.specs.mirrors.Reading.{keyword_spelled, longest_operator}
use Rattle.go_scan_core.proofs.FrontLemmas.{and_true, is_mark, not_true, operator_marks, same_number}

-- what is found is found among those that pass a test which it passes
find_among : {X : Type 0} (p q : X → Bool) → ((x : X) → p x ≡ true → q x ≡ true) → (xs : List X) → find p xs ≡ find p (filter q xs)
find_among p q h [] = refl
find_among p q h (x ∷ xs) = elim (true_or_false (p x)) [
  | inl a ↦ rw (h x a, a) refl
  | inr b ↦ elim (true_or_false (q x)) [ inl a ↦ rw (a, b) (find_among p q h xs) | inr a ↦ rw (a, b) (find_among p q h xs) ]
]

filter_none : {X : Type 0} (q : X → Bool) (xs : List X) → list_all (λ x. not (q x)) xs ≡ true → filter q xs ≡ []
filter_none q [] h = refl
filter_none q (x ∷ xs) h = let both = and_true (not (q x)) _ h in rw (not_true (q x) both.0) (filter_none q xs both.1)

-- this number, or another
pub step : (c n : ℕ) (P : ℕ → Type 0) → P n → ((c == n) ≡ false → P c) → P c
step c n P here other = elim (true_or_false (c == n)) [ inl e ↦ subst P (sym (same_number c n e)) here | inr e ↦ other e ]

same_first : (c d : ℕ) (cs ds : List ℕ) → c ∷ cs ≡ d ∷ ds → (c == d) ≡ true
same_first c d cs ds e = let same : c ≡ d = cc in grind (arith, nat_tests)

-- ---- keywords

abbrev keyword_starts : ℕ → Keyword → Bool
keyword_starts c k = first_passes (λ d. c == d) (keyword_spelling k)

abbrev KeywordGroup : ℕ → Type 0
KeywordGroup c = keywords_with c ≡ filter (keyword_starts c) KEYWORDS

-- what holds of a character that begins none
keywords_left : (c : ℕ) → (c == 98) ≡ false → (c == 99) ≡ false → (c == 100) ≡ false → (c == 101) ≡ false → (c == 102) ≡ false → (c == 103) ≡ false → (c == 105) ≡ false → (c == 109) ≡ false → (c == 112) ≡ false → (c == 114) ≡ false → (c == 115) ≡ false → (c == 116) ≡ false → (c == 118) ≡ false → keywords_with c ≡ []
unfolding keywords_with
keywords_left c n98 n99 n100 n101 n102 n103 n105 n109 n112 n114 n115 n116 n118 = rw (n98, n99, n100, n101, n102, n103, n105, n109, n112, n114, n115, n116, n118) refl

keywords_apart : (c : ℕ) → (c == 98) ≡ false → (c == 99) ≡ false → (c == 100) ≡ false → (c == 101) ≡ false → (c == 102) ≡ false → (c == 103) ≡ false → (c == 105) ≡ false → (c == 109) ≡ false → (c == 112) ≡ false → (c == 114) ≡ false → (c == 115) ≡ false → (c == 116) ≡ false → (c == 118) ≡ false → list_all (λ x. not (keyword_starts c x)) KEYWORDS ≡ true
unfolding keyword_spelling
keywords_apart c n98 n99 n100 n101 n102 n103 n105 n109 n112 n114 n115 n116 n118 = rw (n98, n99, n100, n101, n102, n103, n105, n109, n112, n114, n115, n116, n118) refl

keyword_rows : KeywordGroup 98 × KeywordGroup 99 × KeywordGroup 100 × KeywordGroup 101 × KeywordGroup 102 × KeywordGroup 103 × KeywordGroup 105 × KeywordGroup 109 × KeywordGroup 112 × KeywordGroup 114 × KeywordGroup 115 × KeywordGroup 116 × KeywordGroup 118
unfolding keywords_with keyword_spelling
keyword_rows = (refl, refl, refl, refl, refl, refl, refl, refl, refl, refl, refl, refl, refl)

keyword_group : (c : ℕ) → KeywordGroup c
keyword_group c =
    let rows = keyword_rows in
    step c 98 KeywordGroup rows.0 (λ n98.
    step c 99 KeywordGroup rows.1 (λ n99.
    step c 100 KeywordGroup rows.2 (λ n100.
    step c 101 KeywordGroup rows.3 (λ n101.
    step c 102 KeywordGroup rows.4 (λ n102.
    step c 103 KeywordGroup rows.5 (λ n103.
    step c 105 KeywordGroup rows.6 (λ n105.
    step c 109 KeywordGroup rows.7 (λ n109.
    step c 112 KeywordGroup rows.8 (λ n112.
    step c 114 KeywordGroup rows.9 (λ n114.
    step c 115 KeywordGroup rows.10 (λ n115.
    step c 116 KeywordGroup rows.11 (λ n116.
    step c 118 KeywordGroup rows.12 (λ n118.
    keywords_left c n98 n99 n100 n101 n102 n103 n105 n109 n112 n114 n115 n116 n118 ∙ sym (filter_none (keyword_starts c) KEYWORDS (keywords_apart c n98 n99 n100 n101 n102 n103 n105 n109 n112 n114 n115 n116 n118)))))))))))))))

spelled_first : (c : ℕ) (cs s : List ℕ) → c ∷ cs ≡ s → first_passes (λ d. c == d) s ≡ true
spelled_first c cs [] e = cc
spelled_first c cs (d ∷ ds) e = same_first c d cs ds e

keyword_found : (c : ℕ) (w : List ℕ) → find (λ k. bytes_eq (c ∷ w) (keyword_spelling k)) (keywords_with c) ≡ keyword_spelled (c ∷ w)
unfolding keyword_spelled
keyword_found c w =
    ap (find (λ k. bytes_eq (c ∷ w) (keyword_spelling k))) (keyword_group c)
    ∙ sym (find_among (λ k. bytes_eq (c ∷ w) (keyword_spelling k)) (keyword_starts c) (λ k e. spelled_first c w (keyword_spelling k) ((bytes_eq-Decides (c ∷ w) (keyword_spelling k)).0 e)) KEYWORDS)

no_keyword : keyword_spelled [] ≡ None
unfolding keyword_spelled keyword_spelling
no_keyword = refl

-- ---- operators

abbrev operator_starts : ℕ → Operator → Bool
operator_starts c o = first_passes (λ d. c == d) (operator_spelling o)

abbrev OperatorGroup : ℕ → Type 0
OperatorGroup c = operators_with c ≡ filter (operator_starts c) OPERATORS

-- what holds of a character that begins none
operators_left : (c : ℕ) → (c == 60) ≡ false → (c == 62) ≡ false → (c == 38) ≡ false → (c == 46) ≡ false → (c == 43) ≡ false → (c == 45) ≡ false → (c == 42) ≡ false → (c == 47) ≡ false → (c == 37) ≡ false → (c == 124) ≡ false → (c == 94) ≡ false → (c == 61) ≡ false → (c == 33) ≡ false → (c == 58) ≡ false → (c == 126) ≡ false → (c == 40) ≡ false → (c == 91) ≡ false → (c == 123) ≡ false → (c == 44) ≡ false → (c == 41) ≡ false → (c == 93) ≡ false → (c == 125) ≡ false → (c == 59) ≡ false → operators_with c ≡ []
unfolding operators_with
operators_left c n60 n62 n38 n46 n43 n45 n42 n47 n37 n124 n94 n61 n33 n58 n126 n40 n91 n123 n44 n41 n93 n125 n59 = rw (n60, n62, n38, n46, n43, n45, n42, n47, n37, n124, n94, n61, n33, n58, n126, n40, n91, n123, n44, n41, n93, n125, n59) refl

operators_apart : (c : ℕ) → (c == 60) ≡ false → (c == 62) ≡ false → (c == 38) ≡ false → (c == 46) ≡ false → (c == 43) ≡ false → (c == 45) ≡ false → (c == 42) ≡ false → (c == 47) ≡ false → (c == 37) ≡ false → (c == 124) ≡ false → (c == 94) ≡ false → (c == 61) ≡ false → (c == 33) ≡ false → (c == 58) ≡ false → (c == 126) ≡ false → (c == 40) ≡ false → (c == 91) ≡ false → (c == 123) ≡ false → (c == 44) ≡ false → (c == 41) ≡ false → (c == 93) ≡ false → (c == 125) ≡ false → (c == 59) ≡ false → list_all (λ x. not (operator_starts c x)) OPERATORS ≡ true
unfolding operator_spelling
operators_apart c n60 n62 n38 n46 n43 n45 n42 n47 n37 n124 n94 n61 n33 n58 n126 n40 n91 n123 n44 n41 n93 n125 n59 = rw (n60, n62, n38, n46, n43, n45, n42, n47, n37, n124, n94, n61, n33, n58, n126, n40, n91, n123, n44, n41, n93, n125, n59) refl

operator_rows : OperatorGroup 60 × OperatorGroup 62 × OperatorGroup 38 × OperatorGroup 46 × OperatorGroup 43 × OperatorGroup 45 × OperatorGroup 42 × OperatorGroup 47 × OperatorGroup 37 × OperatorGroup 124 × OperatorGroup 94 × OperatorGroup 61 × OperatorGroup 33 × OperatorGroup 58 × OperatorGroup 126 × OperatorGroup 40 × OperatorGroup 91 × OperatorGroup 123 × OperatorGroup 44 × OperatorGroup 41 × OperatorGroup 93 × OperatorGroup 125 × OperatorGroup 59
unfolding operators_with operator_spelling
operator_rows = (refl, refl, refl, refl, refl, refl, refl, refl, refl, refl, refl, refl, refl, refl, refl, refl, refl, refl, refl, refl, refl, refl, refl)

operator_group : (c : ℕ) → OperatorGroup c
operator_group c =
    let rows = operator_rows in
    step c 60 OperatorGroup rows.0 (λ n60.
    step c 62 OperatorGroup rows.1 (λ n62.
    step c 38 OperatorGroup rows.2 (λ n38.
    step c 46 OperatorGroup rows.3 (λ n46.
    step c 43 OperatorGroup rows.4 (λ n43.
    step c 45 OperatorGroup rows.5 (λ n45.
    step c 42 OperatorGroup rows.6 (λ n42.
    step c 47 OperatorGroup rows.7 (λ n47.
    step c 37 OperatorGroup rows.8 (λ n37.
    step c 124 OperatorGroup rows.9 (λ n124.
    step c 94 OperatorGroup rows.10 (λ n94.
    step c 61 OperatorGroup rows.11 (λ n61.
    step c 33 OperatorGroup rows.12 (λ n33.
    step c 58 OperatorGroup rows.13 (λ n58.
    step c 126 OperatorGroup rows.14 (λ n126.
    step c 40 OperatorGroup rows.15 (λ n40.
    step c 91 OperatorGroup rows.16 (λ n91.
    step c 123 OperatorGroup rows.17 (λ n123.
    step c 44 OperatorGroup rows.18 (λ n44.
    step c 41 OperatorGroup rows.19 (λ n41.
    step c 93 OperatorGroup rows.20 (λ n93.
    step c 125 OperatorGroup rows.21 (λ n125.
    step c 59 OperatorGroup rows.22 (λ n59.
    operators_left c n60 n62 n38 n46 n43 n45 n42 n47 n37 n124 n94 n61 n33 n58 n126 n40 n91 n123 n44 n41 n93 n125 n59 ∙ sym (filter_none (operator_starts c) OPERATORS (operators_apart c n60 n62 n38 n46 n43 n45 n42 n47 n37 n124 n94 n61 n33 n58 n126 n40 n91 n123 n44 n41 n93 n125 n59)))))))))))))))))))))))))

begun_first : (c : ℕ) (cs s rest : List ℕ) → first_passes is_mark s ≡ true → c ∷ cs ≡ s ++ rest → first_passes (λ d. c == d) s ≡ true
begun_first c cs [] rest h e = cc
begun_first c cs (d ∷ ds) rest h e = same_first c d cs (ds ++ rest) e

operator_begins : (c : ℕ) (cs : List ℕ) (o : Operator) → starts_with nat_eq (c ∷ cs) (operator_spelling o) ≡ true → operator_starts c o ≡ true
operator_begins c cs o e = begun_first c cs (operator_spelling o) _ (and_true _ _ (and_true _ _ (operator_marks o)).0).0 ((starts_is Decides-eqb (c ∷ cs) (operator_spelling o) (starts_with nat_eq (c ∷ cs) (operator_spelling o)) refl).0 e)

operator_found : (c : ℕ) (cs : List ℕ) → find (λ o. starts_with nat_eq (c ∷ cs) (operator_spelling o)) (operators_with c) ≡ longest_operator (c ∷ cs)
unfolding longest_operator
operator_found c cs =
    ap (find (λ o. starts_with nat_eq (c ∷ cs) (operator_spelling o))) (operator_group c)
    ∙ sym (find_among (λ o. starts_with nat_eq (c ∷ cs) (operator_spelling o)) (operator_starts c) (operator_begins c cs) OPERATORS)

no_mark : longest_operator [] ≡ None
unfolding longest_operator operator_spelling
no_mark = refl

-- ---- as slices are read

pub keyword_here : (c : ℕ) (cs : List ℕ) → 1 ≤ length cs → c ≡ get_or cs 0 c → find (λ k. bytes_eq cs (keyword_spelling k)) (keywords_with c) ≡ keyword_spelled cs
keyword_here c [] some e = absurd (omega arith)
keyword_here c (d ∷ ds) some e = ap (λ x. find (λ k. bytes_eq (d ∷ ds) (keyword_spelling k)) (keywords_with x)) e ∙ keyword_found d ds

pub keyword_empty : (cs : List ℕ) → length cs < 1 → None ≡ keyword_spelled cs
keyword_empty [] none = sym no_keyword
keyword_empty (d ∷ ds) none = absurd (omega arith)

pub operator_here : (c : ℕ) (cs : List ℕ) → 1 ≤ length cs → c ≡ get_or cs 0 c → find (λ o. starts_with nat_eq cs (operator_spelling o)) (operators_with c) ≡ longest_operator cs
operator_here c [] some e = absurd (omega arith)
operator_here c (d ∷ ds) some e = ap (λ x. find (λ o. starts_with nat_eq (d ∷ ds) (operator_spelling o)) (operators_with x)) e ∙ operator_found d ds

pub operator_empty : (cs : List ℕ) → length cs < 1 → None ≡ longest_operator cs
operator_empty [] none = sym no_mark
operator_empty (d ∷ ds) none = absurd (omega arith)
