-- What is read as an escape is one in the words of the grammar, and each is read.
use Rattle.std.proofs.Common.{◌≡◌, ℕ, zero, suc, ◌+◌, ◌*◌, ◌<◌, ◌≤◌, Bool, true, false, ◌==◌, ◌||◌, ◌&&◌, ◌⊎◌, inl, inr, nat_lt, nat_le, List, [], ◌∷◌, length, fold, Option, Some, None, refl, sym, ap, ◌∙◌, subst, arith}
use Rattle.std.specs.Char.{digit_value}
use Rattle.std.specs.List.{AllByRecursion}
use Rattle.std.proofs.lemmas.Bool.Decides.{nat_tests}
use Rattle.go_token_core.specs.text_core.Each.{true_or_false}
use Rattle.go_token_core.specs.declared.escapes.Meaning.{Meaning}
use Rattle.go_token_core.specs.declared.escapes.Meaning.TheVariants.{Byte, Char}
use Rattle.go_token_core.specs.Escapes.{byte_read, digits_at, digits_next, escape_at, scalar_read, simple_of}
use Rattle.go_token_core.specs.Numbers.{next_number, number_in}
use Rattle.go_scan_core.specs.Tokens.{AreDigits, IsEscape, IsScalar, is_escape_letter}
use Rattle.go_scan_core.proofs.CandidateLemmas.{step}
use Rattle.go_token_core.proofs.EscapeLemmas.{byte_is, scalar_is, simple_is}
use Rattle.go_token_core.proofs.Choices.{chosen}
use Rattle.go_scan_core.proofs.FrontLemmas.{and_true, or_true, same_number}
use Rattle.go_token_core.proofs.NumberLemmas.{grows}

-- what reads as one escape, to its end
abbrev pub ReadsWhole : List ℕ → Type 0
ReadsWhole w = (m : Meaning) × (escape_at w ≡ Some (m, length w))

-- ---- digits

abbrev AllDigits : ℕ → List ℕ → Type 0
AllDigits radix cs = AllByRecursion (λ c. nat_lt (digit_value c) radix ≡ true) cs

next_digit : (radix v c : ℕ) → nat_lt (digit_value c) radix ≡ true → next_number radix v c ≡ v * radix + digit_value c
next_digit radix v c h = rw h refl

within_limit : (w limit : ℕ) → nat_le w limit ≡ true → w ≤ limit
within_limit w limit h = grind (arith, nat_tests)

digits_are : (cs : List ℕ) (limit radix n v u : ℕ) → length cs ≡ n → v ≤ limit → digits_at cs limit radix n v ≡ Some u → AllDigits radix cs × (fold (next_number radix) v cs ≡ u) × (u ≤ limit)
unfolding digits_at
digits_are [] limit radix zero v u size low e = let same : v ≡ u = cc in (tt, same, subst (λ (x : ℕ). x ≤ limit) same low)
digits_are [] limit radix (suc n) v u size low e = cc
digits_are (c ∷ cs) limit radix zero v u size low e = absurd (omega arith)
digits_are (c ∷ cs) limit radix (suc n) v u size low e = here (λ w. digits_are cs limit radix n w u (omega arith)) (nat_lt (digit_value c) radix && nat_le (v * radix + digit_value c) limit) refl e
  where
    here : ((w : ℕ) → w ≤ limit → digits_at cs limit radix n w ≡ Some u → AllDigits radix cs × (fold (next_number radix) w cs ≡ u) × (u ≤ limit)) → (b : Bool) → (nat_lt (digit_value c) radix && nat_le (v * radix + digit_value c) limit) ≡ b → digits_next (v * radix + digit_value c) b (λ w. digits_at cs limit radix n w) ≡ Some u → AllDigits radix (c ∷ cs) × (fold (next_number radix) v (c ∷ cs) ≡ u) × (u ≤ limit)
    here known false h e = cc
    here known true h e =
        let both = and_true (nat_lt (digit_value c) radix) (nat_le (v * radix + digit_value c) limit) h in
        let more = known (v * radix + digit_value c) (within_limit (v * radix + digit_value c) limit both.1) e in
        ((both.0, more.0), ap (λ x. fold (next_number radix) x cs) (next_digit radix v c both.0) ∙ more.1, more.2)

digits_read : (cs : List ℕ) (limit radix n v : ℕ) → length cs ≡ n → 1 ≤ radix → AllDigits radix cs → fold (next_number radix) v cs ≤ limit → digits_at cs limit radix n v ≡ Some (fold (next_number radix) v cs)
unfolding digits_at
digits_read [] limit radix zero v size some all fits = refl
digits_read [] limit radix (suc n) v size some all fits = absurd (omega arith)
digits_read (c ∷ cs) limit radix zero v size some all fits = absurd (omega arith)
digits_read (c ∷ cs) limit radix (suc n) v size some all fits =
    let w = v * radix + digit_value c in
    let one : next_number radix v c ≡ w = next_digit radix v c all.0 in
    let fits_more : fold (next_number radix) w cs ≤ limit = subst (λ x. fold (next_number radix) x cs ≤ limit) one fits in
    let low : w ≤ limit = omega (arith, grows radix w cs some, fits_more) in
    rw (all.0, passes w limit low) (digits_read cs limit radix n w (omega arith) some all.1 fits_more)
  where
    passes : (w limit : ℕ) → w ≤ limit → nat_le w limit ≡ true
    passes w limit h = grind (arith, nat_tests)

-- ---- an escape is read

two_digits : (ds : List ℕ) → length ds ≡ 2 → AllDigits 16 ds → number_in 16 ds ≤ 255
two_digits [] size all = absurd (omega arith)
two_digits (a ∷ []) size all = absurd (omega arith)
two_digits (a ∷ b ∷ []) size all =
    let high : digit_value a < 16 = less (digit_value a) all.0 in
    let low : digit_value b < 16 = less (digit_value b) all.1.0 in
    let first : next_number 16 0 a ≡ 0 * 16 + digit_value a = next_digit 16 0 a all.0 in
    let both : number_in 16 (a ∷ b ∷ []) ≡ (0 * 16 + digit_value a) * 16 + digit_value b = ap (λ x. next_number 16 x b) first ∙ next_digit 16 (0 * 16 + digit_value a) b all.1.0 in
    omega arith
  where
    less : (d : ℕ) → nat_lt d 16 ≡ true → d < 16
    less d h = grind (arith, nat_tests)
two_digits (a ∷ b ∷ c ∷ ds) size all = absurd (omega arith)

scalar_made : (n v : ℕ) → IsScalar v → scalar_read n (Some v) ≡ Some (Char v, n)
scalar_made n v h = let passes : (nat_lt v 55296 || nat_lt 57343 v) ≡ true = test v h.1 in rw passes refl
  where
    test : (v : ℕ) → (v < 55296) ⊎ (57343 < v) → (nat_lt v 55296 || nat_lt 57343 v) ≡ true
    test v h = grind (arith, nat_tests)

-- each letter is read
no_letter : (c : ℕ) → (c == 97) ≡ false → (c == 98) ≡ false → (c == 102) ≡ false → (c == 110) ≡ false → (c == 114) ≡ false → (c == 116) ≡ false → (c == 118) ≡ false → (c == 92) ≡ false → (c == 34) ≡ false → is_escape_letter c ≡ false
no_letter c n97 n98 n102 n110 n114 n116 n118 n92 n34 = rw (n97, n98, n102, n110, n114, n116, n118, n92, n34) refl

nothing_simple : (c : ℕ) → (c == 97) ≡ false → (c == 98) ≡ false → (c == 102) ≡ false → (c == 110) ≡ false → (c == 114) ≡ false → (c == 116) ≡ false → (c == 118) ≡ false → (c == 92) ≡ false → (c == 34) ≡ false → simple_of c ≡ None
nothing_simple c n97 n98 n102 n110 n114 n116 n118 n92 n34 = rw (n97, n98, n102, n110, n114, n116, n118, n92, n34) refl

abbrev LetterReads : ℕ → Type 0
LetterReads c = is_escape_letter c ≡ true → ReadsWhole (c ∷ [])

letter_rows : LetterReads 97 × LetterReads 98 × LetterReads 102 × LetterReads 110 × LetterReads 114 × LetterReads 116 × LetterReads 118 × LetterReads 92 × LetterReads 34
unfolding escape_at
letter_rows = (λ h. (Byte 7, refl), λ h. (Byte 8, refl), λ h. (Byte 12, refl), λ h. (Byte 10, refl), λ h. (Byte 13, refl), λ h. (Byte 9, refl), λ h. (Byte 11, refl), λ h. (Byte 92, refl), λ h. (Byte 34, refl))

letter_read : (c : ℕ) → LetterReads c
letter_read c =
    let rows = letter_rows in
    step c 97 LetterReads rows.0 (λ n97.
    step c 98 LetterReads rows.1 (λ n98.
    step c 102 LetterReads rows.2 (λ n102.
    step c 110 LetterReads rows.3 (λ n110.
    step c 114 LetterReads rows.4 (λ n114.
    step c 116 LetterReads rows.5 (λ n116.
    step c 118 LetterReads rows.6 (λ n118.
    step c 92 LetterReads rows.7 (λ n92.
    step c 34 LetterReads rows.8 (λ n34.
    λ h. let no : true ≡ false = sym h ∙ no_letter c n97 n98 n102 n110 n114 n116 n118 n92 n34 in cc)))))))))

abbrev LetterKnown : ℕ → Type 0
LetterKnown c = (b : ℕ) → simple_of c ≡ Some b → is_escape_letter c ≡ true

letter_known : (c : ℕ) → LetterKnown c
letter_known c =
    step c 97 LetterKnown (λ b e. refl) (λ n97.
    step c 98 LetterKnown (λ b e. refl) (λ n98.
    step c 102 LetterKnown (λ b e. refl) (λ n102.
    step c 110 LetterKnown (λ b e. refl) (λ n110.
    step c 114 LetterKnown (λ b e. refl) (λ n114.
    step c 116 LetterKnown (λ b e. refl) (λ n116.
    step c 118 LetterKnown (λ b e. refl) (λ n118.
    step c 92 LetterKnown (λ b e. refl) (λ n92.
    step c 34 LetterKnown (λ b e. refl) (λ n34.
    λ b e. let no : None ≡ Some b = sym (nothing_simple c n97 n98 n102 n110 n114 n116 n118 n92 n34) ∙ e in cc)))))))))

-- an octal digit is none of the letters
octal_not : (c n : ℕ) → nat_lt (digit_value c) 8 ≡ true → nat_lt (digit_value n) 8 ≡ false → (c == n) ≡ false
octal_not c n h g = elim (true_or_false (c == n)) [
  | inl e ↦ (let no : true ≡ false = sym h ∙ ap (λ x. nat_lt (digit_value x) 8) (same_number c n e) ∙ g in cc)
  | inr e ↦ e
]

octal_read : (c : ℕ) (cs : List ℕ) → AreDigits 8 3 (c ∷ cs) → number_in 8 (c ∷ cs) ≤ 255 → escape_at (c ∷ cs) ≡ Some (Byte (number_in 8 (c ∷ cs)), 3)
unfolding escape_at
octal_read c cs all fits =
    let d = all.1.0 in
    rw (octal_not c 120 d refl, octal_not c 117 d refl, octal_not c 85 d refl, octal_not c 97 d refl, octal_not c 98 d refl, octal_not c 102 d refl, octal_not c 110 d refl, octal_not c 114 d refl, octal_not c 116 d refl, octal_not c 118 d refl, octal_not c 92 d refl, octal_not c 34 d refl)
    (ap (byte_read 3) (digits_read (c ∷ cs) 255 8 3 0 all.0 (omega arith) all.1 fits))

hex_read : (ds : List ℕ) → AreDigits 16 2 ds → escape_at (120 ∷ ds) ≡ Some (Byte (number_in 16 ds), 3)
unfolding escape_at
hex_read ds all = ap (byte_read 3) (digits_read ds 255 16 2 0 all.0 (omega arith) all.1 (two_digits ds all.0 all.1))

short_read : (ds : List ℕ) → AreDigits 16 4 ds → IsScalar (number_in 16 ds) → escape_at (117 ∷ ds) ≡ Some (Char (number_in 16 ds), 5)
unfolding escape_at
short_read ds all scalar = ap (scalar_read 5) (digits_read ds 1114111 16 4 0 all.0 (omega arith) all.1 scalar.0) ∙ scalar_made 5 (number_in 16 ds) scalar

long_read : (ds : List ℕ) → AreDigits 16 8 ds → IsScalar (number_in 16 ds) → escape_at (85 ∷ ds) ≡ Some (Char (number_in 16 ds), 9)
unfolding escape_at
long_read ds all scalar = ap (scalar_read 9) (digits_read ds 1114111 16 8 0 all.0 (omega arith) all.1 scalar.0) ∙ scalar_made 9 (number_in 16 ds) scalar

octal_whole : (w : List ℕ) → AreDigits 8 3 w → number_in 8 w ≤ 255 → ReadsWhole w
octal_whole [] all fits = absurd (omega (arith, all.0))
octal_whole (c ∷ cs) all fits = (Byte (number_in 8 (c ∷ cs)), octal_read c cs all fits ∙ ap (λ n. Some (Byte (number_in 8 (c ∷ cs)), n)) (sym all.0))

whole_of : (m : Meaning) (n : ℕ) (w v : List ℕ) → w ≡ v → escape_at v ≡ Some (m, n) → n ≡ length v → ReadsWhole w
whole_of m n w v same e size = subst ReadsWhole (sym same) (m, e ∙ ap (λ k. Some (m, k)) size)

pub escape_read : (w : List ℕ) → IsEscape w → ReadsWhole w
escape_read w h = elim h [
  | inl letter ↦ subst ReadsWhole (sym letter.1) (letter_read letter.0 letter.2)
  | inr other ↦ elim other [
    | inl octal ↦ octal_whole w octal.0 octal.1
    | inr more ↦ elim more [
      | inl hex ↦ whole_of _ 3 w (120 ∷ hex.0) hex.1 (hex_read hex.0 hex.2) (omega (arith, hex.2.0))
      | inr wide ↦ elim wide [
        | inl short ↦ whole_of _ 5 w (117 ∷ short.0) short.1 (short_read short.0 short.2 short.3) (omega (arith, short.2.0))
        | inr long ↦ whole_of _ 9 w (85 ∷ long.0) long.1 (long_read long.0 long.2 long.3) (omega (arith, long.2.0))
      ]
    ]
  ]
]

-- ---- what is read is an escape

scalar_value : (n v : ℕ) (x : Meaning × ℕ) → scalar_read n (Some v) ≡ Some x → (v < 55296) ⊎ (57343 < v)
scalar_value n v x e = elim (chosen (nat_lt v 55296 || nat_lt 57343 v) (Some (Char v, n)) None (Some x) e) [ inl h ↦ outside v h.0 | inr h ↦ cc ]
  where
    outside : (v : ℕ) → (nat_lt v 55296 || nat_lt 57343 v) ≡ true → (v < 55296) ⊎ (57343 < v)
    outside v h = elim (or_true (nat_lt v 55296) (nat_lt 57343 v) h) [ inl a ↦ inl (grind (arith, nat_tests)) | inr a ↦ inr (grind (arith, nat_tests)) ]

wide_is : (cs : List ℕ) (k n : ℕ) (r : Option ℕ) (x : Meaning × ℕ) → length cs ≡ n → digits_at cs 1114111 16 n 0 ≡ r → scalar_read k r ≡ Some x → AreDigits 16 n cs × IsScalar (number_in 16 cs)
wide_is cs k n None x size e h = cc
wide_is cs k n (Some v) x size e h =
    let are = digits_are cs 1114111 16 n 0 v size (omega arith) e in
    ((size, are.0), subst IsScalar (sym are.1) (are.2, scalar_value k v x h))

byte_digits : (cs : List ℕ) (k radix n : ℕ) (r : Option ℕ) (x : Meaning × ℕ) → length cs ≡ n → digits_at cs 255 radix n 0 ≡ r → byte_read k r ≡ Some x → AreDigits radix n cs × (number_in radix cs ≤ 255)
byte_digits cs k radix n None x size e h = cc
byte_digits cs k radix n (Some v) x size e h =
    let are = digits_are cs 255 radix n 0 v size (omega arith) e in
    ((size, are.0), subst (λ (y : ℕ). y ≤ 255) (sym are.1) are.2)

pub escape_words : (w : List ℕ) (m : Meaning) → escape_at w ≡ Some (m, length w) → IsEscape w
unfolding escape_at
escape_words [] m e = cc
escape_words (c ∷ cs) m e =
    let x : Meaning × ℕ = (m, suc (length cs)) in
    elim (chosen (c == 120) _ _ (Some x) e) [
      | inl g ↦ (let size : length cs ≡ 2 = omega (arith, (byte_is 3 (digits_at cs 255 16 2 0) x g.1).0) in
          inr (inr (inl (cs, ap (λ y. y ∷ cs) (same_number c 120 g.0), (byte_digits cs 3 16 2 (digits_at cs 255 16 2 0) x size refl g.1).0))))
      | inr g ↦ elim (chosen (c == 117) _ _ (Some x) g.1) [
        | inl f ↦ (let size : length cs ≡ 4 = omega (arith, (scalar_is 5 (digits_at cs 1114111 16 4 0) x f.1).0) in
            let wide = wide_is cs 5 4 (digits_at cs 1114111 16 4 0) x size refl f.1 in
            inr (inr (inr (inl (cs, ap (λ y. y ∷ cs) (same_number c 117 f.0), wide.0, wide.1)))))
        | inr f ↦ elim (chosen (c == 85) _ _ (Some x) f.1) [
          | inl d ↦ (let size : length cs ≡ 8 = omega (arith, (scalar_is 9 (digits_at cs 1114111 16 8 0) x d.1).0) in
              let wide = wide_is cs 9 8 (digits_at cs 1114111 16 8 0) x size refl d.1 in
              inr (inr (inr (inr (cs, ap (λ y. y ∷ cs) (same_number c 85 d.0), wide.0, wide.1)))))
          | inr d ↦ elim (simple_is (simple_of c) (byte_read 3 (digits_at (c ∷ cs) 255 8 3 0)) x d.1) [
            | inl h ↦ (let size : length (c ∷ cs) ≡ 3 = omega (arith, (byte_is 3 (digits_at (c ∷ cs) 255 8 3 0) x h.1).0) in
                inr (inl (byte_digits (c ∷ cs) 3 8 3 (digits_at (c ∷ cs) 255 8 3 0) x size refl h.1)))
            | inr h ↦ (let one : 1 ≡ suc (length cs) = ap (λ y. y.1) h.2 in inl (c, ap (λ y. c ∷ y) (empty cs (omega arith)), letter_known c h.0 h.1))
          ]
        ]
      ]
    ]
  where
    empty : (cs : List ℕ) → length cs ≡ 0 → cs ≡ []
    empty [] h = refl
    empty (d ∷ cs) h = absurd (omega arith)
