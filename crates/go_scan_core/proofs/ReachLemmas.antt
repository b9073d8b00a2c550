-- Integer literals are at most 2^63 - 1, also as they are spelled in bytes.
use Rattle.std.proofs.Common.{◌≡◌, ℕ, ◌<◌, ◌≤◌, true, ◌==◌, ◌||◌, ◌&&◌, ◌⊎◌, inl, inr, List, [], ◌∷◌, Some, None, nat_lt, refl, sym, subst, arith}
use Rattle.std.specs.Prelude.{encode_utf8_all}
use Rattle.std.specs.Char.{digit_value, is_ascii_digit}
use Rattle.std.specs.List.{AllByRecursion}
use Rattle.std.proofs.lemmas.Bool.Decides.{nat_tests}
use Rattle.std.proofs.lemmas.List.Elements.{All-from_recursion}
use Rattle.std.proofs.lemmas.Str.{encodes-IsAscii}
use Rattle.std.proofs.lemmas.Str.Ascii.{IsAscii-from_all}
use Rattle.go_token_core.specs.declared.kind.Operator.{Operator}
use Rattle.go_token_core.specs.declared.kind.Operator.TheVariants as operators
use Rattle.go_token_core.specs.declared.kind.TokenKind.{TokenKind}
use Rattle.go_token_core.specs.declared.kind.TokenKind.TheVariants as kinds
use Rattle.go_token_core.specs.Numbers.{first_digit, integer_value_of, radix_letter}
use Rattle.go_scan_core.specs.Texts.{IsInReach, IsSpelled}
use Rattle.go_scan_core.specs.Tokens.{IsGood, IsInteger, IsLexeme, IsRun}
use Rattle.go_token_core.proofs.Choices.{chosen}
use Rattle.go_scan_core.proofs.FrontLemmas.{and_true, or_true, same_number}

abbrev AreAscii : List ℕ → Type 0
AreAscii w = AllByRecursion (λ c. c < 128) w

is_digit_small : (c radix : ℕ) → radix ≤ 16 → nat_lt (digit_value c) radix ≡ true → c < 128
is_digit_small c radix h d =
    let low : digit_value c < 36 = grind (arith, nat_tests) in
    elim (chosen (nat_lt c 48) 36 _ (digit_value c) refl) [
      | inl a ↦ grind (arith, nat_tests)
      | inr a ↦ elim (nat_split c 123) [ inl b ↦ omega arith | inr b ↦ absurd (beyond c b low) ]
    ]
  where
    nat_split : (a b : ℕ) → (a < b) ⊎ (b ≤ a)
    nat_split a b = grind arith

    beyond : (c : ℕ) → 123 ≤ c → digit_value c < 36 → ⊥
    beyond c h low = absurd (grind (arith, nat_tests))

run_ascii : (radix : ℕ) (w : List ℕ) → radix ≤ 16 → IsRun radix w → AreAscii w
run_ascii radix [] h r = tt
run_ascii radix (c ∷ w) h r = (
  elim (or_true (nat_lt (digit_value c) radix) ((c == 95) && first_digit radix w) r.0) [
    | inl a ↦ is_digit_small c radix h a
    | inr a ↦ (let same : c ≡ 95 = same_number c 95 (and_true _ _ a).0 in omega arith)
  ],
  run_ascii radix w h r.1,
)

letter_small : (l radix : ℕ) → radix_letter l ≡ Some radix → (l < 128) × (radix ≤ 16)
letter_small l radix e =
    elim (chosen ((l == 120) || (l == 88)) (Some 16) _ (Some radix) e) [
      | inl a ↦ (let r : 16 ≡ radix = cc in (elim (or_true (l == 120) (l == 88) a.0) [ inl b ↦ at 120 b (omega arith) | inr b ↦ at 88 b (omega arith) ], omega arith))
      | inr a ↦ elim (chosen ((l == 98) || (l == 66)) (Some 2) _ (Some radix) a.1) [
        | inl b ↦ (let r : 2 ≡ radix = cc in (elim (or_true (l == 98) (l == 66) b.0) [ inl f ↦ at 98 f (omega arith) | inr f ↦ at 66 f (omega arith) ], omega arith))
        | inr b ↦ elim (chosen ((l == 111) || (l == 79)) (Some 8) None (Some radix) b.1) [
          | inl f ↦ (let r : 8 ≡ radix = cc in (elim (or_true (l == 111) (l == 79) f.0) [ inl g ↦ at 111 g (omega arith) | inr g ↦ at 79 g (omega arith) ], omega arith))
          | inr f ↦ absurd (nothing radix f.1)
        ]
      ]
    ]
  where
    at : (k : ℕ) → (l == k) ≡ true → k < 128 → l < 128
    at k b h = let same : l ≡ k = same_number l k b in omega arith

    nothing : (x : ℕ) → None ≡ Some x → ⊥
    nothing x e = cc

ascii_digit_small : (d : ℕ) → is_ascii_digit d ≡ true → d < 128
ascii_digit_small d h = grind (arith, nat_tests)

integer_ascii : (w : List ℕ) → IsInteger w → AreAscii w
integer_ascii w h = elim h [
  | inl ten ↦ subst AreAscii (sym ten.2) (ascii_digit_small ten.0 ten.3, run_ascii 10 ten.1 (omega arith) ten.5)
  | inr other ↦ elim other [
    | inl eight ↦ subst AreAscii (sym eight.1) (omega arith, run_ascii 8 eight.0 (omega arith) eight.2)
    | inr based ↦ (let small = letter_small based.0 based.1 based.4 in subst AreAscii (sym based.3) (omega arith, (small.0, run_ascii based.1 based.2 small.1 based.6)))
  ]
]

spelled_alike : (w : List ℕ) → IsInteger w → encode_utf8_all w ≡ w
spelled_alike w h = encodes-IsAscii w (IsAscii-from_all w (All-from_recursion (λ c. c < 128) w (integer_ascii w h)))

-- a lexeme that stands well is in reach
pub lexeme_in_reach : (kind : TokenKind) (w rest : List ℕ) → IsLexeme kind w → IsGood kind w rest → IsInReach kind (encode_utf8_all w)
lexeme_in_reach kinds.Identifier w rest h good = tt
lexeme_in_reach kinds.String w rest h good = tt
lexeme_in_reach (kinds.Keyword k) w rest h good = tt
lexeme_in_reach (kinds.Operator o) w rest h good = tt
lexeme_in_reach kinds.Integer w rest h good = subst (λ x. integer_value_of x ≤ 9223372036854775807) (sym (spelled_alike w h)) (elim (nat_split (integer_value_of w)) [ inl a ↦ a | inr a ↦ absurd (good (inr a)) ])
  where
    nat_split : (n : ℕ) → (n ≤ 9223372036854775807) ⊎ (9223372036854775807 < n)
    nat_split n = grind arith

-- the value of an integer token is at most 2^63 - 1
pub integer_in_reach : (bytes : List ℕ) → IsSpelled kinds.Integer bytes → integer_value_of bytes ≤ 9223372036854775807
integer_in_reach bytes h = elim h [ inl e ↦ e.3 | inr s ↦ absurd (apart operators.Semicolon s.0) ]
  where
    apart : (o : Operator) → kinds.Integer ≡ kinds.Operator o → ⊥
    apart o e = cc
