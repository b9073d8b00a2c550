-- Letters, digits and uppercase letters among the first 128 characters.
use Rattle.std.proofs.Common.{◌≡◌, ℕ, zero, suc, ◌<◌, ◌==◌, Bool, true, false, ◌&&◌, ◌||◌, refl, sym, subst, arith, inl, inr, nat_lt}
use Rattle.std.proofs.lemmas.Bool.{true≢false, cases_lt}
use Rattle.std.proofs.lemmas.Bool.Decides.{nat_tests}
use Rattle.std.specs.Char.{is_ascii_alphabetic, is_ascii_digit, is_ascii_uppercase}
use Rattle.unicode.specs.GeneralCategory.{general_category}
use Rattle.unicode.specs.Rows.{value_in}
use Rattle.ucd_category.specs.GeneralCategoryRows.{general_category_rows}
use Rattle.go_text_core.specs.Text.{letter, digit, uppercase}

-- both or neither
abbrev same : Bool → Bool → Bool
same true b = b
same false true = false
same false false = true

same_is : (a b : Bool) → same a b ≡ true → a ≡ b
same_is true b h = sym h
same_is false true h = absurd (true≢false (sym h))
same_is false false h = refl

both : (a b : Bool) → a && b ≡ true → (a ≡ true) × (b ≡ true)
both true b h = (refl, h)
both false b h = absurd (true≢false (sym h))

-- a test of each number below one
abbrev all_below : (ℕ → Bool) → ℕ → Bool
all_below p zero = true
all_below p (suc n) = p n && all_below p n

holds_below : (p : ℕ → Bool) (n k : ℕ) → all_below p n ≡ true → k < n → p k ≡ true
holds_below p zero k h l = absurd (omega arith)
holds_below p (suc n) k h l =
    let here = both (p n) (all_below p n) h in
    elim (cases_lt k n) [ inl a ↦ holds_below p n k here.1 a | inr a ↦ let same_k : n ≡ k = omega arith in subst (λ i. p i ≡ true) same_k here.0 ]

-- the ranges and the tables agree on a character
abbrev agree : ℕ → Bool
agree c = same (is_ascii_alphabetic c || (c == 95)) (letter c) && (same (is_ascii_digit c) (digit c) && same (is_ascii_uppercase c) (uppercase c))

all_agree : all_below agree 128 ≡ true
unfolding letter digit uppercase general_category value_in general_category_rows
all_agree = refl

agrees : (c : ℕ) → nat_lt c 128 ≡ true → agree c ≡ true
agrees c h = holds_below agree 128 c all_agree (grind (arith, nat_tests, h))

pub ascii_letter : (c : ℕ) → nat_lt c 128 ≡ true → is_ascii_alphabetic c || (c == 95) ≡ letter c
ascii_letter c h = same_is _ _ (both _ _ (agrees c h)).0

pub ascii_digit : (c : ℕ) → nat_lt c 128 ≡ true → is_ascii_digit c ≡ digit c
ascii_digit c h = same_is _ _ (both _ _ (both _ _ (agrees c h)).1).0

pub ascii_uppercase : (c : ℕ) → nat_lt c 128 ≡ true → is_ascii_uppercase c ≡ uppercase c
ascii_uppercase c h = same_is _ _ (both _ _ (both _ _ (agrees c h)).1).1
