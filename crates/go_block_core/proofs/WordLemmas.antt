-- The name of a refused import.
use Rattle.std.proofs.Common.{◌≡◌, ℕ, ◌-◌, ◌<◌, ◌≤◌, ⊎_elim, Bool, true, false, not, List, length, get_or, take, drop, Some, None, cond, eq-eqb, sym, ap, ◌∙◌, arith}
use Rattle.std.specs.Prelude.{◌==◌}
use Rattle.std.specs.List.{suffix_len}
use Rattle.std.proofs.lemmas.List.{take_all, length-drop}
use Rattle.std.proofs.lemmas.List.Sums.{suffix_len_is}
use Rattle.std.proofs.lemmas.Bool.{cases_eq}
use Rattle.std.proofs.lemmas.Bool.Decides.{nat_tests}
use Rattle.std.specs.Str.{IsUtf8, IsValidUpTo}
use Rattle.std.specs.Str.Lossy.{utf8_valid_len}
use Rattle.std.proofs.lemmas.Str.{utf8_valid_len-IsUtf8, utf8_valid_len-IsValidUpTo}
use Rattle.go_block_core.specs.Words.{last_element, as_text}

-- a byte that is no slash
abbrev pub is_other : ℕ → Bool
is_other b = not (b == 47)

pub other : (b : ℕ) → (b ≡ 47 → ⊥) → is_other b ≡ true
other b h = grind (arith, nat_tests)

-- from n on there is no slash
abbrev pub NoneFrom : List ℕ → ℕ → Type 0
NoneFrom text n = (k : ℕ) → n ≤ k → k < length text → not (get_or text k 0 == 47) ≡ true

-- one byte more
pub none_from_less : (text : List ℕ) (n : ℕ) → 0 < n → (get_or text (n - 1) 0 ≡ 47 → ⊥) → NoneFrom text n → NoneFrom text (n - 1)
none_from_less text n some h none = λ k low high. ⊎_elim
    (λ (e : k ≡ n - 1). (let same : get_or text k 0 ≡ get_or text (n - 1) 0 = ap (λ i. get_or text i 0) e in other (get_or text k 0) (λ s. h (sym same ∙ s))))
    (λ (ne : k ≡ n - 1 → ⊥). none k (omega (arith, ne)) high)
    (cases_eq k (n - 1))

-- what stands from n on is the last element, where n is the start or a slash stands before it
pub element_is : (text : List ℕ) (n : ℕ) → n ≤ length text → NoneFrom text n → (0 < n → get_or text (n - 1) 0 ≡ 47) → take (length text - n) (drop n text) ≡ last_element text
element_is text n le none stop =
    let e : suffix_len is_other text ≡ length text - n = suffix_len_is is_other text n 0 le none (λ some. ap is_other (stop some)) in
    take_all (length text - n) (drop n text) (omega (arith, length-drop n text))
    ∙ ap (λ k. drop k text) (let i : n ≡ length text - suffix_len is_other text = omega arith in i)

-- bytes as a text

pub text_yes : (bytes : List ℕ) → IsUtf8 bytes → as_text bytes ≡ Some bytes
text_yes bytes h = ap (λ b. cond b (Some bytes) None) (eq-eqb (utf8_valid_len bytes) (length bytes) (utf8_valid_len-IsUtf8 bytes h))

not_all : (a n len : ℕ) → a ≡ n → n < len → (a == len) ≡ false
not_all a n len e lt = grind (arith, nat_tests)

pub text_no : (bytes : List ℕ) (n : ℕ) → IsValidUpTo bytes n → as_text bytes ≡ None
text_no bytes n h = ap (λ b. cond b (Some bytes) None) (not_all (utf8_valid_len bytes) n (length bytes) (utf8_valid_len-IsValidUpTo bytes n h) h.short)
