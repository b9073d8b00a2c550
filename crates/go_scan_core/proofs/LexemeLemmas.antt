-- Words, numbers and operators: what is read is what the grammar says.
use Rattle.std.proofs.Common.{◌≡◌, ℕ, zero, suc, ◌+◌, ◌<◌, ◌≤◌, Bool, true, false, cond, ◌==◌, ◌||◌, ◌&&◌, ◌⊎◌, inl, inr, List, [], ◌∷◌, ◌++◌, length, take, drop, Option, Some, None, nat_eq, nat_lt, nat_le, refl, sym, ap, ◌∙◌, subst, arith}
use Rattle.std.specs.Prelude.{find}
use Rattle.std.specs.Char.{digit_value, is_ascii_digit}
use Rattle.std.specs.List.{AllByRecursion, list_all, prefix_len, starts_with}
use Rattle.std.specs.Str.{bytes_eq}
use Rattle.std.proofs.lemmas.Bool.Decides.{Decides-eqb, nat_tests}
use Rattle.std.proofs.lemmas.List.{length-take-le}
use Rattle.std.proofs.lemmas.List.Sums.{prefix_len-le-length}
use Rattle.std.proofs.lemmas.Slice.Eq.{bytes_eq-Decides, starts_is}
use Rattle.go_token_core.specs.text_core.Text.{letter, digit}
use Rattle.go_token_core.specs.text_core.Each.{true_or_false}
use Rattle.go_token_core.specs.declared.kind.Keyword.{Keyword}
use Rattle.go_token_core.specs.declared.kind.Operator.{Operator}
use Rattle.go_token_core.specs.declared.kind.TheConstants.{KEYWORDS, OPERATORS}
use Rattle.go_token_core.specs.Spelling.{keyword_spelling, operator_spelling}
use Rattle.go_token_core.specs.Characters.{first_passes, in_line, letter_or_digit}
use Rattle.go_token_core.specs.Numbers.{first_digit, is_in_run, radix_letter}
use Rattle.go_scan_core.specs.mirrors.Numbers.{based_len, digits_run, named_radix, number_len, zero_len}
use Rattle.go_scan_core.specs.mirrors.Reading.{keyword_spelled, longest_operator, word_kind}
use Rattle.go_scan_core.specs.Tokens.{IsInteger, IsLexeme, IsRun, IsWord}
use Rattle.go_token_core.proofs.Choices.{chosen}
use Rattle.go_scan_core.proofs.FrontLemmas.{and_true, is_mark, keyword_again, keyword_letters, operator_again, operator_marks, or_true, same_number}

pub find_passes : {X : Type 0} (p : X → Bool) (xs : List X) (x : X) → find p xs ≡ Some x → p x ≡ true
find_passes p [] x e = cc
find_passes p (y ∷ ys) x e = elim (chosen (p y) (Some y) (find p ys) (Some x) e) [ inl h ↦ (let same : y ≡ x = cc in let P : _ → Type 0 = λ v. p v ≡ true in subst P same h.0) | inr h ↦ find_passes p ys x h.1 ]

pub prefix_len_some : (p : ℕ → Bool) (cs : List ℕ) → first_passes p cs ≡ true → 0 < prefix_len p cs
prefix_len_some p [] h = cc
prefix_len_some p (c ∷ cs) h = rw h (omega arith)

pub first_passes_more : (p q : ℕ → Bool) (cs : List ℕ) → first_passes p cs ≡ true → first_passes (λ c. p c || q c) cs ≡ true
first_passes_more p q [] h = cc
first_passes_more p q (c ∷ cs) h = rw h refl

pub word_within : (cs : List ℕ) → first_passes letter cs ≡ true → (0 < prefix_len letter_or_digit cs) × (prefix_len letter_or_digit cs ≤ length cs)
word_within cs h = (prefix_len_some letter_or_digit cs (first_passes_more letter digit cs h), prefix_len-le-length letter_or_digit cs)

-- ---- words

pub all_from_test : (p : ℕ → Bool) (w : List ℕ) → list_all p w ≡ true → AllByRecursion (λ c. p c ≡ true) w
all_from_test p [] h = tt
all_from_test p (c ∷ w) h = let both = and_true (p c) (list_all p w) h in (both.0, all_from_test p w both.1)

pub keyword_word : (k : Keyword) → IsWord (keyword_spelling k)
keyword_word k =
    let both = and_true (first_passes letter (keyword_spelling k)) (list_all letter_or_digit (keyword_spelling k)) (keyword_letters k) in
    record { first = both.0; all = all_from_test letter_or_digit (keyword_spelling k) both.1 }

-- what passes at the front is in the run
pub all_prefix : (p : ℕ → Bool) (v after : List ℕ) → AllByRecursion (λ c. p c ≡ true) v → length v ≤ prefix_len p (v ++ after)
all_prefix p [] after h = omega arith
all_prefix p (c ∷ v) after h = rw h.0 (omega (arith, all_prefix p v after h.1))

-- a run passes
pub all_taken : (p : ℕ → Bool) (cs : List ℕ) → AllByRecursion (λ c. p c ≡ true) (take (prefix_len p cs) cs)
all_taken p [] = tt
all_taken p (c ∷ cs) = elim (true_or_false (p c)) [
  | inl h ↦ (let e : prefix_len p (c ∷ cs) ≡ suc (prefix_len p cs) = rw h (omega arith) in
      let P : ℕ → Type 0 = λ n. AllByRecursion (λ c. p c ≡ true) (take n (c ∷ cs)) in subst P (sym e) (h, all_taken p cs))
  | inr h ↦ (let e : prefix_len p (c ∷ cs) ≡ 0 = rw h refl in
      let P : ℕ → Type 0 = λ n. AllByRecursion (λ c. p c ≡ true) (take n (c ∷ cs)) in subst P (sym e) tt)
]

pub first_taken : (p : ℕ → Bool) (n : ℕ) (cs : List ℕ) → 0 < n → first_passes p (take n cs) ≡ first_passes p cs
first_taken p zero cs h = absurd (omega arith)
first_taken p (suc n) [] h = refl
first_taken p (suc n) (c ∷ cs) h = refl

pub first_joined : (p q : ℕ → Bool) (v after : List ℕ) → first_passes q v ≡ true → first_passes p (v ++ after) ≡ first_passes p v
first_joined p q [] after h = cc
first_joined p q (c ∷ v) after h = refl

pub word_lexeme : (w : List ℕ) (r : Option Keyword) → IsWord w → keyword_spelled w ≡ r → IsLexeme (word_kind r) w
unfolding keyword_spelled
word_lexeme w None word e = (word, λ k same. let no : Some k ≡ None = sym (keyword_again k) ∙ ap keyword_spelled (sym same) ∙ e in cc)
word_lexeme w (Some k) word e = (bytes_eq-Decides w (keyword_spelling k)).0 (find_passes (λ j. bytes_eq w (keyword_spelling j)) KEYWORDS k e)

pub word_sound : (cs : List ℕ) → first_passes letter cs ≡ true → IsWord (take (prefix_len letter_or_digit cs) cs)
word_sound cs h = record { first = first_taken letter (prefix_len letter_or_digit cs) cs (word_within cs h).0 ∙ h; all = all_taken letter_or_digit cs }

-- a word's kind is read from its spelling
pub identifier_again : (w : List ℕ) (r : Option Keyword) → ((k : Keyword) → w ≡ keyword_spelling k → ⊥) → keyword_spelled w ≡ r → keyword_spelled w ≡ None
unfolding keyword_spelled
identifier_again w None h e = e
identifier_again w (Some k) h e = absurd (h k ((bytes_eq-Decides w (keyword_spelling k)).0 (find_passes (λ j. bytes_eq w (keyword_spelling j)) KEYWORDS k e)))

-- ---- numbers

first_digit_longer : (radix : ℕ) (v after : List ℕ) → first_digit radix v ≡ true → first_digit radix (v ++ after) ≡ true
first_digit_longer radix [] after h = cc
first_digit_longer radix (c ∷ v) after h = h

in_run_longer : (radix c : ℕ) (v after : List ℕ) → is_in_run radix c v ≡ true → is_in_run radix c (v ++ after) ≡ true
in_run_longer radix c v after h = elim (or_true (nat_lt (digit_value c) radix) ((c == 95) && first_digit radix v) h) [
  | inl a ↦ rw a refl
  | inr a ↦ (let both = and_true (c == 95) (first_digit radix v) a in
      let more : first_digit radix (v ++ after) ≡ true = first_digit_longer radix v after both.1 in
      join (nat_lt (digit_value c) radix) (c == 95) (first_digit radix (v ++ after)) both.0 more)
]
  where
    join : (p q r : Bool) → q ≡ true → r ≡ true → (p || (q && r)) ≡ true
    join true q r h g = refl
    join false q r h g = rw (h, g) refl

run_longest : (radix : ℕ) (v after : List ℕ) → IsRun radix v → length v ≤ digits_run radix (v ++ after)
run_longest radix [] after h = omega arith
run_longest radix (c ∷ v) after h = let here : is_in_run radix c (v ++ after) ≡ true = in_run_longer radix c v after h.0 in rw here (omega (arith, run_longest radix v after h.1))

run_within : (radix : ℕ) (cs : List ℕ) → digits_run radix cs ≤ length cs
run_within radix [] = omega arith
run_within radix (c ∷ cs) = elim (is_in_run radix c cs) as (λ b. cond b (1 + digits_run radix cs) 0 ≤ suc (length cs)) [ true ↦ omega (arith, run_within radix cs) | false ↦ omega arith ]

-- the digit that a `_` stands before is in the run too
first_taken_digit : (radix : ℕ) (cs : List ℕ) → first_digit radix cs ≡ true → first_digit radix (take (digits_run radix cs) cs) ≡ true
first_taken_digit radix [] h = cc
first_taken_digit radix (c ∷ cs) h =
    let e : digits_run radix (c ∷ cs) ≡ suc (digits_run radix cs) = rw h (omega arith) in
    let P : ℕ → Type 0 = λ n. first_digit radix (take n (c ∷ cs)) ≡ true in subst P (sym e) h

in_run_taken : (radix c : ℕ) (cs : List ℕ) → is_in_run radix c cs ≡ true → is_in_run radix c (take (digits_run radix cs) cs) ≡ true
in_run_taken radix c cs h = elim (or_true (nat_lt (digit_value c) radix) ((c == 95) && first_digit radix cs) h) [
  | inl a ↦ rw a refl
  | inr a ↦ (let both = and_true (c == 95) (first_digit radix cs) a in
      let more : first_digit radix (take (digits_run radix cs) cs) ≡ true = first_taken_digit radix cs both.1 in
      join (nat_lt (digit_value c) radix) (c == 95) (first_digit radix (take (digits_run radix cs) cs)) both.0 more)
]
  where
    join : (p q r : Bool) → q ≡ true → r ≡ true → (p || (q && r)) ≡ true
    join true q r h g = refl
    join false q r h g = rw (h, g) refl

run_taken : (radix : ℕ) (cs : List ℕ) → IsRun radix (take (digits_run radix cs) cs)
run_taken radix [] = tt
run_taken radix (c ∷ cs) = elim (true_or_false (is_in_run radix c cs)) [
  | inl h ↦ (let e : digits_run radix (c ∷ cs) ≡ suc (digits_run radix cs) = rw h (omega arith) in
      let P : ℕ → Type 0 = λ n. IsRun radix (take n (c ∷ cs)) in subst P (sym e) (in_run_taken radix c cs h, run_taken radix cs))
  | inr h ↦ (let e : digits_run radix (c ∷ cs) ≡ 0 = rw h refl in
      let P : ℕ → Type 0 = λ n. IsRun radix (take n (c ∷ cs)) in subst P (sym e) tt)
]

-- what a number of so many characters is
abbrev IsNumber : List ℕ → ℕ → Type 0
IsNumber cs n = IsInteger (take n cs) × (0 < n) × (n ≤ length cs)

octal_number : (cs : List ℕ) → IsNumber (48 ∷ cs) (1 + digits_run 8 cs)
octal_number cs =
    let e : suc (digits_run 8 cs) ≡ 1 + digits_run 8 cs = omega arith in
    let P : ℕ → Type 0 = λ n. IsNumber (48 ∷ cs) n in
    subst P e (inr (inl (take (digits_run 8 cs) cs, refl, run_taken 8 cs)), omega arith, omega (arith, run_within 8 cs))

zero_number : (cs : List ℕ) → IsNumber (48 ∷ cs) 1
zero_number cs = (inr (inl ([], refl, tt)), omega arith, omega arith)

based_number : (cs : List ℕ) (r : Option ℕ) → named_radix cs ≡ r → IsNumber (48 ∷ cs) (based_len r cs)
based_number cs None e = octal_number cs
based_number [] (Some radix) e = cc
based_number (l ∷ ds) (Some radix) e = elim (true_or_false (digits_run radix ds == 0)) [
  | inl h ↦ rw h (zero_number (l ∷ ds))
  | inr h ↦ rw h (let n = digits_run radix ds in
      let some : 0 < n = grind (arith, nat_tests) in
      let k : suc (suc n) ≡ 2 + n = omega arith in
      let inside : n ≤ length ds = run_within radix ds in
      let P : ℕ → Type 0 = λ m. IsNumber (48 ∷ l ∷ ds) m in
      subst P k (inr (inr (l, radix, take n ds, refl, e, omega (arith, length-take-le n ds inside), run_taken radix ds)), omega arith, omega arith))
]

pub number_sound : (cs : List ℕ) → first_passes is_ascii_digit cs ≡ true → IsNumber cs (number_len cs)
unfolding number_len zero_len
number_sound [] h = cc
number_sound (c ∷ cs) h = elim (true_or_false (c == 48)) [
  | inl z ↦ rw z (subst (λ d. IsNumber (d ∷ cs) (based_len (named_radix cs) cs)) (sym (same_number c 48 z)) (based_number cs (named_radix cs) refl))
  | inr z ↦ rw z (let e : suc (digits_run 10 cs) ≡ 1 + digits_run 10 cs = omega arith in
      let P : ℕ → Type 0 = λ n. IsNumber (c ∷ cs) n in
      subst P e (inl (c, take (digits_run 10 cs) cs, refl, h, z, run_taken 10 cs), omega arith, omega (arith, run_within 10 cs)))
]

-- no integer literal at the front is longer
octal_longest : (ds after : List ℕ) (r : Option ℕ) → IsRun 8 ds → named_radix (ds ++ after) ≡ r → length (48 ∷ ds) ≤ based_len r (ds ++ after)
octal_longest ds after None run e = omega (arith, run_longest 8 ds after run)
octal_longest [] after (Some radix) run e = at_least_one (digits_run radix (drop 1 after))
  where
    at_least_one : (n : ℕ) → 1 ≤ cond (n == 0) 1 (2 + n)
    at_least_one n = elim (n == 0) as (λ b. 1 ≤ cond b 1 (2 + n)) [ true ↦ omega arith | false ↦ omega arith ]
octal_longest (d ∷ ds) after (Some radix) run e = absurd (no_letter d radix (ds ++ after) e (in_run_longer 8 d ds after run.0))
  where
    -- a letter of a radix is no octal digit and no `_`
    no_letter : (d radix : ℕ) (rest : List ℕ) → radix_letter d ≡ Some radix → is_in_run 8 d rest ≡ true → ⊥
    no_letter d radix rest e h =
        elim (chosen ((d == 120) || (d == 88)) (Some 16) _ (Some radix) e) [
          | inl a ↦ elim (or_true (d == 120) (d == 88) a.0) [ inl b ↦ at 120 b refl | inr b ↦ at 88 b refl ]
          | inr a ↦ elim (chosen ((d == 98) || (d == 66)) (Some 2) _ (Some radix) a.1) [
            | inl b ↦ elim (or_true (d == 98) (d == 66) b.0) [ inl f ↦ at 98 f refl | inr f ↦ at 66 f refl ]
            | inr b ↦ elim (chosen ((d == 111) || (d == 79)) (Some 8) None (Some radix) b.1) [
              | inl f ↦ elim (or_true (d == 111) (d == 79) f.0) [ inl g ↦ at 111 g refl | inr g ↦ at 79 g refl ]
              | inr f ↦ (let no : None ≡ Some radix = f.1 in absurd (none_some radix no))
            ]
          ]
        ]
      where
        none_some : (x : ℕ) → None ≡ Some x → ⊥
        none_some x e = cc

        at : (k : ℕ) → (d == k) ≡ true → is_in_run 8 k rest ≡ false → ⊥
        at k b f = let both : true ≡ false = sym h ∙ ap (λ x. is_in_run 8 x rest) (same_number d k b) ∙ f in differ both
          where
            differ : true ≡ false → ⊥
            differ e = cc

based_longest : (l radix : ℕ) (ds after : List ℕ) (r : Option ℕ) → radix_letter l ≡ Some radix → 0 < length ds → IsRun radix ds → radix_letter l ≡ r → length (48 ∷ l ∷ ds) ≤ based_len r (l ∷ (ds ++ after))
based_longest l radix ds after None e some run g = let no : Some radix ≡ None = sym e ∙ g in absurd (none_some radix no)
  where
    none_some : (x : ℕ) → Some x ≡ None → ⊥
    none_some x e = cc
based_longest l radix ds after (Some other) e some run g =
    let both : Some radix ≡ Some other = sym e ∙ g in
    let same : radix ≡ other = cc in
    subst (λ r. length (48 ∷ l ∷ ds) ≤ based_len (Some r) (l ∷ (ds ++ after))) same (more (digits_run radix (ds ++ after)) (run_longest radix ds after run))
  where
    more : (n : ℕ) → length ds ≤ n → suc (suc (length ds)) ≤ cond (n == 0) 1 (2 + n)
    more n h = elim (true_or_false (n == 0)) [ inl z ↦ absurd (let zero_is : n ≡ 0 = same_number n 0 z in omega arith) | inr z ↦ rw z (omega arith) ]

pub number_longest : (v after : List ℕ) → IsInteger v → length v ≤ number_len (v ++ after)
unfolding number_len zero_len
number_longest v after h = elim h [
  | inl ten ↦ (let first : (ten.0 == 48) ≡ false = ten.4 in
      subst (λ x. length x ≤ number_len (x ++ after)) (sym ten.2) (rw first (omega (arith, run_longest 10 ten.1 after ten.5))))
  | inr other ↦ elim other [
    | inl eight ↦ subst (λ x. length x ≤ number_len (x ++ after)) (sym eight.1) (octal_longest eight.0 after (named_radix (eight.0 ++ after)) eight.2 refl)
    | inr based ↦ subst (λ x. length x ≤ number_len (x ++ after)) (sym based.3) (based_longest based.0 based.1 based.2 after (radix_letter based.0) based.4 based.5 based.6 refl)
  ]
]

-- an integer literal begins with a digit
pub integer_first : (v after : List ℕ) → IsInteger v → first_passes is_ascii_digit (v ++ after) ≡ true
integer_first v after h = elim h [
  | inl ten ↦ subst (λ x. first_passes is_ascii_digit (x ++ after) ≡ true) (sym ten.2) ten.3
  | inr other ↦ elim other [
    | inl eight ↦ subst (λ x. first_passes is_ascii_digit (x ++ after) ≡ true) (sym eight.1) refl
    | inr based ↦ subst (λ x. first_passes is_ascii_digit (x ++ after) ≡ true) (sym based.3) refl
  ]
]

-- ---- operators

-- an operator that is found stands at the front
pub operator_stands : (cs : List ℕ) (o : Operator) → longest_operator cs ≡ Some o → cs ≡ operator_spelling o ++ drop (length (operator_spelling o)) cs
unfolding longest_operator
operator_stands cs o e =
    (starts_is Decides-eqb cs (operator_spelling o) (starts_with nat_eq cs (operator_spelling o)) refl).0 (find_passes (λ p. starts_with nat_eq cs (operator_spelling p)) OPERATORS o e)

abbrev pub spelled : Operator → ℕ
spelled o = length (operator_spelling o)

abbrev pub In : Operator → List Operator → Type 0
In o [] = ⊥
In o (x ∷ xs) = (o ≡ x) ⊎ In o xs

abbrev pub none_longer : ℕ → List Operator → Bool
none_longer n [] = true
none_longer n (x ∷ xs) = nat_le (spelled x) n && none_longer n xs

abbrev pub descending : List Operator → Bool
descending [] = true
descending (x ∷ xs) = none_longer (spelled x) xs && descending xs

pub descending_operators : descending OPERATORS ≡ true
unfolding operator_spelling
descending_operators = refl

found_in : (p : Operator → Bool) (xs : List Operator) (o : Operator) → find p xs ≡ Some o → In o xs
found_in p [] o e = cc
found_in p (x ∷ xs) o e = elim (chosen (p x) (Some x) (find p xs) (Some o) e) [ inl h ↦ inl (cc) | inr h ↦ inr (found_in p xs o h.1) ]

pub every_operator : (o : Operator) → In o OPERATORS
unfolding longest_operator
every_operator o = found_in (λ p. starts_with nat_eq (operator_spelling o) (operator_spelling p)) OPERATORS o (operator_again o)

not_longer : (n : ℕ) (xs : List Operator) (o : Operator) → none_longer n xs ≡ true → In o xs → spelled o ≤ n
not_longer n [] o h i = absurd i
not_longer n (x ∷ xs) o h i =
    let both = and_true (nat_le (spelled x) n) (none_longer n xs) h in
    elim i [ inl e ↦ (let here : spelled x ≤ n = at_most (spelled x) n both.0 in omega (arith, ap spelled e)) | inr more ↦ not_longer n xs o both.1 more ]
  where
    at_most : (a b : ℕ) → nat_le a b ≡ true → a ≤ b
    at_most a b h = grind (arith, nat_tests)

-- the first that passes, of a list of descending lengths, is as long as any that passes
pub first_is_longest : (p : Operator → Bool) (xs : List Operator) (o q : Operator) → descending xs ≡ true → find p xs ≡ Some o → In q xs → p q ≡ true → spelled q ≤ spelled o
first_is_longest p [] o q d e i h = absurd i
first_is_longest p (x ∷ xs) o q d e i h =
    let both = and_true (none_longer (spelled x) xs) (descending xs) d in
    elim (chosen (p x) (Some x) (find p xs) (Some o) e) [
      | inl a ↦ (let same : x ≡ o = cc in elim i [ inl g ↦ omega (arith, ap spelled (g ∙ same)) | inr more ↦ omega (arith, not_longer (spelled x) xs q both.0 more, ap spelled same) ])
      | inr a ↦ elim i [ inl g ↦ absurd (let no : true ≡ false = sym h ∙ ap p g ∙ a.0 in cc) | inr more ↦ first_is_longest p xs o q both.1 a.1 more h ]
    ]

pub none_passes : (p : Operator → Bool) (xs : List Operator) (q : Operator) → find p xs ≡ None → In q xs → p q ≡ true → ⊥
none_passes p [] q e i h = i
none_passes p (x ∷ xs) q e i h = elim (chosen (p x) (Some x) (find p xs) None e) [
  | inl a ↦ cc
  | inr a ↦ elim i [ inl g ↦ (let no : true ≡ false = sym h ∙ ap p g ∙ a.0 in cc) | inr more ↦ none_passes p xs q a.1 more h ]
]

pub stands : (cs v after : List ℕ) (q : Operator) → cs ≡ v ++ after → v ≡ operator_spelling q → starts_with nat_eq cs (operator_spelling q) ≡ true
stands cs v after q e l = (starts_is Decides-eqb cs (operator_spelling q) (starts_with nat_eq cs (operator_spelling q)) refl).1 after (e ∙ ap (λ x. x ++ after) l)

pub operator_taken : (cs : List ℕ) (o : Operator) → longest_operator cs ≡ Some o → take (spelled o) cs ≡ operator_spelling o
operator_taken cs o f = (starts_front cs (operator_spelling o) (operator_stands cs o f))
  where
    starts_front : (cs w : List ℕ) → cs ≡ w ++ drop (length w) cs → take (length w) cs ≡ w
    starts_front cs w e = same_take w (drop (length w) cs) cs e
      where
        same_take : (w rest cs : List ℕ) → cs ≡ w ++ rest → take (length w) cs ≡ w
        same_take w rest cs e = ap (take (length w)) e ∙ front w rest
          where
            front : (w rest : List ℕ) → take (length w) (w ++ rest) ≡ w
            front [] rest = refl
            front (c ∷ w) rest = ap (λ x. c ∷ x) (front w rest)

pub operator_longest : (cs : List ℕ) (o q : Operator) (v after : List ℕ) → longest_operator cs ≡ Some o → cs ≡ v ++ after → v ≡ operator_spelling q → length v ≤ spelled o
unfolding longest_operator
operator_longest cs o q v after f e l = omega (arith, ap length l, first_is_longest (λ p. starts_with nat_eq cs (operator_spelling p)) OPERATORS o q descending_operators f (every_operator q) (stands cs v after q e l))

pub no_operator : (cs : List ℕ) (q : Operator) (v after : List ℕ) → longest_operator cs ≡ None → cs ≡ v ++ after → v ≡ operator_spelling q → ⊥
unfolding longest_operator
no_operator cs q v after f e l = none_passes (λ p. starts_with nat_eq cs (operator_spelling p)) OPERATORS q f (every_operator q) (stands cs v after q e l)

-- operators begin with marks, fit on a line and are short
abbrev pub FitsMark : List ℕ → Type 0
FitsMark w = (first_passes is_mark w ≡ true) × AllByRecursion (λ c. in_line c ≡ true) w × (length w ≤ 3)

pub operator_fits : (o : Operator) → FitsMark (operator_spelling o)
operator_fits o =
    let w = operator_spelling o in
    let both = and_true (first_passes is_mark w && list_all in_line w) (nat_le (length w) 3) (operator_marks o) in
    let front = and_true (first_passes is_mark w) (list_all in_line w) both.0 in
    (front.0, all_from_test in_line w front.1, at_most (length w) 3 both.1)
  where
    at_most : (a b : ℕ) → nat_le a b ≡ true → a ≤ b
    at_most a b h = grind (arith, nat_tests)

pub operator_some : (o : Operator) → 0 < length (operator_spelling o)
operator_some o = some (operator_spelling o) (operator_fits o).0
  where
    some : (w : List ℕ) → first_passes is_mark w ≡ true → 0 < length w
    some [] h = cc
    some (c ∷ w) h = omega arith
