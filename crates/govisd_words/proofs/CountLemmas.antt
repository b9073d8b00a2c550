-- The numbers that words write.
use Rattle.std.proofs.Common.{◌≡◌, ◌∙◌, ◌<◌, ◌^◌, ◌&&◌, ℕ, Bool, true, false, List, [], ◌∷◌, Some, None, Result, Ok, Err, refl, sym, ap, ap₂, arith}
use Rattle.std.specs.Prelude.{if◌then◌else◌, nat_lt}
use Rattle.std.specs.Char.{digit_value}
use Rattle.std.specs.Result.{result_ok}
use Rattle.std.specs.Str.Parse.{AllDigits, IsNumeral, ParsesUnsigned, digits_value, without_leading_plus}
use Rattle.govisd_words.specs.Counts.{all_digits, digits_number, is_number, is_numeral, number_of}
use Rattle.std.proofs.lemmas.Bool.{lt-ltb, ltb-true}

both : (a b : Bool) → a ≡ true → b ≡ true → (a && b) ≡ true
both a b h k = ap₂ (λ x y. x && y) h k

first_holds : (a b : Bool) → (a && b) ≡ true → a ≡ true
first_holds true b h = refl
first_holds false b h = h

then_holds : (a b : Bool) → (a && b) ≡ true → b ≡ true
then_holds true b h = h
then_holds false b h = absurd (cc)

digits_true : (ds : List ℕ) → AllDigits 10 ds → all_digits ds ≡ true
digits_true [] h = refl
digits_true (c ∷ cs) h = both (nat_lt (digit_value c) 10) (all_digits cs) (lt-ltb _ _ h.0) (digits_true cs h.1)

true_digits : (ds : List ℕ) → all_digits ds ≡ true → AllDigits 10 ds
true_digits [] h = tt
true_digits (c ∷ cs) h = (ltb-true _ _ (first_holds (nat_lt (digit_value c) 10) (all_digits cs) h), true_digits cs (then_holds (nat_lt (digit_value c) 10) (all_digits cs) h))

numeral_true : (ds : List ℕ) → IsNumeral 10 ds → is_numeral ds ≡ true
numeral_true [] h = absurd (omega (arith, h.0))
numeral_true (c ∷ cs) h = digits_true (c ∷ cs) h.1

true_numeral : (ds : List ℕ) → is_numeral ds ≡ true → IsNumeral 10 ds
true_numeral [] h = absurd (cc)
true_numeral (c ∷ cs) h = (omega arith, true_digits (c ∷ cs) h)

abbrev fits : List ℕ → Type 0
fits ds = IsNumeral 10 ds × (digits_value 10 ds < 2 ^ 64)

number_true : (ds : List ℕ) → fits ds → is_number ds ≡ true
number_true ds h = both (is_numeral ds) (nat_lt (digits_value 10 ds) (2 ^ 64)) (numeral_true ds h.0) (lt-ltb _ _ h.1)

true_number : (ds : List ℕ) → is_number ds ≡ true → fits ds
true_number ds h = (true_numeral ds (first_holds (is_numeral ds) (nat_lt (digits_value 10 ds) (2 ^ 64)) h), ltb-true _ _ (then_holds (is_numeral ds) (nat_lt (digits_value 10 ds) (2 ^ 64)) h))

not_number : (ds : List ℕ) → (fits ds → ⊥) → is_number ds ≡ false
not_number ds never = by (is_number ds) refl
  where
    by : (b : Bool) → is_number ds ≡ b → b ≡ false
    by true is = absurd (never (true_number ds is))
    by false is = refl

is_some_number : (ds : List ℕ) (x : ℕ) → fits ds → x ≡ digits_value 10 ds → Some x ≡ digits_number ds
is_some_number ds x h same = ap (λ n. Some n) same ∙ sym (ap (λ b. if b then Some (digits_value 10 ds) else None) (number_true ds h))

is_no_number : (ds : List ℕ) → (fits ds → ⊥) → None ≡ digits_number ds
is_no_number ds never = sym (ap (λ b. if b then Some (digits_value 10 ds) else None) (not_number ds never))

-- what `parse` reads is the number
pub number_is : {E : Type 0} (word : List ℕ) (r : Result ℕ E) → ParsesUnsigned 64 10 word r → result_ok r ≡ number_of word
number_is word (Ok x) h = is_some_number (without_leading_plus word) x h.0 h.1
number_is word (Err e) h = is_no_number (without_leading_plus word) h
