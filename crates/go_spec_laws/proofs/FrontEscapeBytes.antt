-- The bytes of an escape are those of what is read of it.
use Rattle.std.proofs.Common.{◌≡◌, ℕ, zero, suc, ◌+◌, ◌*◌, Bool, true, false, ◌==◌, ◌||◌, ◌&&◌, inl, inr, nat_lt, nat_le, List, [], ◌∷◌, length, fold, Option, Some, None, encode_utf8, refl, sym, ap, ◌∙◌, subst, arith}
use Rattle.std.specs.Char.{digit_value}
use Rattle.std.specs.List.{AllByRecursion}
use Rattle.go_denote_core.specs.text_core.Each.{true_or_false}
use Rattle.go_tree_nodes.specs.token_core.declared.escapes.Meaning.{Meaning}
use Rattle.go_tree_nodes.specs.token_core.declared.escapes.Meaning.TheVariants.{Byte, Char}
use Rattle.go_tree_nodes.specs.token_core.Escapes.{byte_read, digits_at, digits_next, escape_at, scalar_read}
use Rattle.go_tree_nodes.specs.token_core.Numbers.{next_number, number_in}
use Rattle.go_tree_nodes.specs.token_core.Values.{meaning_bytes}
use Rattle.go_tree_nodes.specs.token_core.Choices.{chosen}
use Rattle.go_scan_core.specs.Tokens.{AreDigits, IsEscape, is_escape_letter}
use Rattle.go_scan_core.proofs.CandidateLemmas.{step}
use Rattle.go_scan_core.proofs.EscapedLemmas.{escape_read}
use Rattle.go_scan_core.proofs.FrontLemmas.{same_number}
use Rattle.go_spec_laws.specs.front.StringLaws.{IsEscapeValue, IsLetterValue}

-- what is read as one escape, to its end, with these bytes
abbrev pub IsReadAs : List ℕ → List ℕ → Type 0
IsReadAs w bytes = (m : Meaning) × (escape_at w ≡ Some (m, length w)) × (meaning_bytes m ≡ bytes)

-- ---- each escape has bytes

abbrev HasByte : ℕ → Type 0
HasByte c = is_escape_letter c ≡ true → (byte : ℕ) × IsLetterValue c byte

no_letter : (c : ℕ) → (c == 97) ≡ false → (c == 98) ≡ false → (c == 102) ≡ false → (c == 110) ≡ false → (c == 114) ≡ false → (c == 116) ≡ false → (c == 118) ≡ false → (c == 92) ≡ false → (c == 34) ≡ false → is_escape_letter c ≡ false
no_letter c n97 n98 n102 n110 n114 n116 n118 n92 n34 = rw (n97, n98, n102, n110, n114, n116, n118, n92, n34) refl

letter_has : (c : ℕ) → HasByte c
letter_has c =
    step c 97 HasByte (λ h. (7, inl (refl, refl))) (λ n97.
    step c 98 HasByte (λ h. (8, inr (inl (refl, refl)))) (λ n98.
    step c 102 HasByte (λ h. (12, inr (inr (inl (refl, refl))))) (λ n102.
    step c 110 HasByte (λ h. (10, inr (inr (inr (inl (refl, refl)))))) (λ n110.
    step c 114 HasByte (λ h. (13, inr (inr (inr (inr (inl (refl, refl))))))) (λ n114.
    step c 116 HasByte (λ h. (9, inr (inr (inr (inr (inr (inl (refl, refl)))))))) (λ n116.
    step c 118 HasByte (λ h. (11, inr (inr (inr (inr (inr (inr (inl (refl, refl))))))))) (λ n118.
    step c 92 HasByte (λ h. (92, inr (inr (inr (inr (inr (inr (inr (inl (refl, refl)))))))))) (λ n92.
    step c 34 HasByte (λ h. (34, inr (inr (inr (inr (inr (inr (inr (inr (refl, refl)))))))))) (λ n34.
    λ h. let no : true ≡ false = sym h ∙ no_letter c n97 n98 n102 n110 n114 n116 n118 n92 n34 in cc)))))))))

pub escape_has : (w : List ℕ) → IsEscape w → (bytes : List ℕ) × IsEscapeValue w bytes
escape_has w h = elim h [
  | inl letter ↦ (let has = letter_has letter.0 letter.2 in (has.0 ∷ [], inl (letter.0, has.0, letter.1, has.1, refl)))
  | inr other ↦ elim other [
    | inl octal ↦ (number_in 8 w ∷ [], inr (inl (octal.0, octal.1, refl)))
    | inr more ↦ elim more [
      | inl hex ↦ (number_in 16 hex.0 ∷ [], inr (inr (inl (hex.0, hex.1, hex.2, refl))))
      | inr wide ↦ elim wide [
        | inl short ↦ (encode_utf8 (number_in 16 short.0), inr (inr (inr (inl (short.0, short.1, short.2, short.3, refl)))))
        | inr long ↦ (encode_utf8 (number_in 16 long.0), inr (inr (inr (inr (long.0, long.1, long.2, long.3, refl)))))
      ]
    ]
  ]
]

-- ---- digits are read as their number

abbrev AllDigits : ℕ → List ℕ → Type 0
AllDigits radix cs = AllByRecursion (λ c. nat_lt (digit_value c) radix ≡ true) cs

next_digit : (radix v c : ℕ) → nat_lt (digit_value c) radix ≡ true → next_number radix v c ≡ v * radix + digit_value c
next_digit radix v c h = rw h refl

next_is : (v u : ℕ) (b : Bool) (more : ℕ → Option ℕ) → digits_next v b more ≡ Some u → more v ≡ Some u
next_is v u true more e = e
next_is v u false more e = cc

digits_number : (cs : List ℕ) (limit radix n v u : ℕ) → length cs ≡ n → AllDigits radix cs → digits_at cs limit radix n v ≡ Some u → fold (next_number radix) v cs ≡ u
unfolding digits_at
digits_number [] limit radix zero v u size all e = cc
digits_number [] limit radix (suc n) v u size all e = cc
digits_number (c ∷ cs) limit radix zero v u size all e = absurd (omega arith)
digits_number (c ∷ cs) limit radix (suc n) v u size all e =
    let w = v * radix + digit_value c in
    ap (λ x. fold (next_number radix) x cs) (next_digit radix v c all.0)
    ∙ digits_number cs limit radix n w u (omega arith) all.1 (next_is w u (nat_lt (digit_value c) radix && nat_le w limit) (λ x. digits_at cs limit radix n x) e)

byte_number : (ds : List ℕ) (radix n k : ℕ) (r : Option ℕ) (x : Meaning × ℕ) → AreDigits radix n ds → digits_at ds 255 radix n 0 ≡ r → byte_read k r ≡ Some x → meaning_bytes x.0 ≡ number_in radix ds ∷ []
byte_number ds radix n k None x are e h = cc
byte_number ds radix n k (Some u) x are e h =
    let same : (Byte u, k) ≡ x = cc in
    sym (ap (λ y. meaning_bytes y.0) same) ∙ ap (λ y. y ∷ []) (sym (digits_number ds 255 radix n 0 u are.0 are.1 e))

scalar_number : (ds : List ℕ) (n k : ℕ) (r : Option ℕ) (x : Meaning × ℕ) → AreDigits 16 n ds → digits_at ds 1114111 16 n 0 ≡ r → scalar_read k r ≡ Some x → meaning_bytes x.0 ≡ encode_utf8 (number_in 16 ds)
scalar_number ds n k None x are e h = cc
scalar_number ds n k (Some u) x are e h = elim (chosen (nat_lt u 55296 || nat_lt 57343 u) (Some (Char u, k)) None (Some x) h) [
  | inl a ↦ (let same : (Char u, k) ≡ x = cc in
      sym (ap (λ y. meaning_bytes y.0) same) ∙ ap encode_utf8 (sym (digits_number ds 1114111 16 n 0 u are.0 are.1 e)))
  | inr a ↦ cc
]

-- ---- each escape is read as its bytes

letter_row : (c b n k : ℕ) → (c ≡ n) × (b ≡ k) → IsReadAs (n ∷ []) (k ∷ []) → IsReadAs (c ∷ []) (b ∷ [])
letter_row c b n k same h =
    let P : ℕ → Type 0 = λ x. IsReadAs (x ∷ []) (b ∷ []) in
    let Q : ℕ → Type 0 = λ x. IsReadAs (n ∷ []) (x ∷ []) in
    subst P (sym same.0) (subst Q (sym same.1) h)

abbrev Row : ℕ → ℕ → Type 0
Row letter byte = IsReadAs (letter ∷ []) (byte ∷ [])

letter_rows : Row 97 7 × Row 98 8 × Row 102 12 × Row 110 10 × Row 114 13 × Row 116 9 × Row 118 11 × Row 92 92 × Row 34 34
unfolding escape_at
letter_rows = ((Byte 7, refl, refl), (Byte 8, refl, refl), (Byte 12, refl, refl), (Byte 10, refl, refl), (Byte 13, refl, refl), (Byte 9, refl, refl), (Byte 11, refl, refl), (Byte 92, refl, refl), (Byte 34, refl, refl))

letter_read : (c b : ℕ) → IsLetterValue c b → IsReadAs (c ∷ []) (b ∷ [])
letter_read c b h =
    let rows = letter_rows in
    elim h [
      | inl e ↦ letter_row c b 97 7 e rows.0
      | inr h ↦ elim h [
        | inl e ↦ letter_row c b 98 8 e rows.1
        | inr h ↦ elim h [
          | inl e ↦ letter_row c b 102 12 e rows.2
          | inr h ↦ elim h [
            | inl e ↦ letter_row c b 110 10 e rows.3
            | inr h ↦ elim h [
              | inl e ↦ letter_row c b 114 13 e rows.4
              | inr h ↦ elim h [
                | inl e ↦ letter_row c b 116 9 e rows.5
                | inr h ↦ elim h [
                  | inl e ↦ letter_row c b 118 11 e rows.6
                  | inr h ↦ elim h [ inl e ↦ letter_row c b 92 92 e rows.7 | inr e ↦ letter_row c b 34 34 e rows.8 ]
                ]
              ]
            ]
          ]
        ]
      ]
    ]

-- an octal digit is none of the letters
octal_not : (c n : ℕ) → nat_lt (digit_value c) 8 ≡ true → nat_lt (digit_value n) 8 ≡ false → (c == n) ≡ false
octal_not c n h g = elim (true_or_false (c == n)) [
  | inl e ↦ (let no : true ≡ false = sym h ∙ ap (λ x. nat_lt (digit_value x) 8) (same_number c n e) ∙ g in cc)
  | inr e ↦ e
]

octal_at : (c : ℕ) (cs : List ℕ) → nat_lt (digit_value c) 8 ≡ true → escape_at (c ∷ cs) ≡ byte_read 3 (digits_at (c ∷ cs) 255 8 3 0)
unfolding escape_at
octal_at c cs d = rw (octal_not c 120 d refl, octal_not c 117 d refl, octal_not c 85 d refl, octal_not c 97 d refl, octal_not c 98 d refl, octal_not c 102 d refl, octal_not c 110 d refl, octal_not c 114 d refl, octal_not c 116 d refl, octal_not c 118 d refl, octal_not c 92 d refl, octal_not c 34 d refl) refl

octal_read : (w : List ℕ) (m : Meaning) (n : ℕ) → AreDigits 8 3 w → escape_at w ≡ Some (m, n) → meaning_bytes m ≡ number_in 8 w ∷ []
octal_read [] m n are e = absurd (omega (arith, are.0))
octal_read (c ∷ cs) m n are e = byte_number (c ∷ cs) 8 3 3 (digits_at (c ∷ cs) 255 8 3 0) (m, n) are refl (sym (octal_at c cs are.1.0) ∙ e)

hex_read : (ds : List ℕ) (m : Meaning) (n : ℕ) → AreDigits 16 2 ds → escape_at (120 ∷ ds) ≡ Some (m, n) → meaning_bytes m ≡ number_in 16 ds ∷ []
unfolding escape_at
hex_read ds m n are e = byte_number ds 16 2 3 (digits_at ds 255 16 2 0) (m, n) are refl e

short_read : (ds : List ℕ) (m : Meaning) (n : ℕ) → AreDigits 16 4 ds → escape_at (117 ∷ ds) ≡ Some (m, n) → meaning_bytes m ≡ encode_utf8 (number_in 16 ds)
unfolding escape_at
short_read ds m n are e = scalar_number ds 4 5 (digits_at ds 1114111 16 4 0) (m, n) are refl e

long_read : (ds : List ℕ) (m : Meaning) (n : ℕ) → AreDigits 16 8 ds → escape_at (85 ∷ ds) ≡ Some (m, n) → meaning_bytes m ≡ encode_utf8 (number_in 16 ds)
unfolding escape_at
long_read ds m n are e = scalar_number ds 8 9 (digits_at ds 1114111 16 8 0) (m, n) are refl e

-- what is read of the text is what is read of what it is
read_as : (w v bytes : List ℕ) → w ≡ v → IsEscape w → ((m : Meaning) (n : ℕ) → escape_at v ≡ Some (m, n) → meaning_bytes m ≡ bytes) → IsReadAs w bytes
read_as w v bytes same h value = let read = escape_read w h in (read.0, read.1, value read.0 (length w) (sym (ap escape_at same) ∙ read.1))

pub escape_value_read : (w bytes : List ℕ) → IsEscapeValue w bytes → IsReadAs w bytes
escape_value_read w bytes h = elim h [
  | inl letter ↦ subst (λ x. IsReadAs w x) (sym letter.4) (subst (λ x. IsReadAs x (letter.1 ∷ [])) (sym letter.2) (letter_read letter.0 letter.1 letter.3))
  | inr other ↦ elim other [
    | inl octal ↦ read_as w w bytes refl (inr (inl (octal.0, octal.1))) (λ m n e. octal_read w m n octal.0 e ∙ sym octal.2)
    | inr more ↦ elim more [
      | inl hex ↦ read_as w (120 ∷ hex.0) bytes hex.1 (inr (inr (inl (hex.0, hex.1, hex.2)))) (λ m n e. hex_read hex.0 m n hex.2 e ∙ sym hex.3)
      | inr wide ↦ elim wide [
        | inl short ↦ read_as w (117 ∷ short.0) bytes short.1 (inr (inr (inr (inl (short.0, short.1, short.2, short.3))))) (λ m n e. short_read short.0 m n short.2 e ∙ sym short.4)
        | inr long ↦ read_as w (85 ∷ long.0) bytes long.1 (inr (inr (inr (inr (long.0, long.1, long.2, long.3))))) (λ m n e. long_read long.0 m n long.2 e ∙ sym long.4)
      ]
    ]
  ]
]
