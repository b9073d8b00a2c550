-- The numbers that digits write.
use Rattle.std.proofs.Common.{◌≡◌, ℕ, ◌+◌, ◌*◌, ◌<◌, ◌≤◌, Bool, true, false, cond, List, [], ◌∷◌, length, map, take, drop, fold, get_or, nat_lt, Some, None, refl, sym, ap, ◌∙◌, arith}
use Rattle.std.specs.Char.{digit_value}
use Rattle.std.proofs.lemmas.Bool.Decides.{nat_tests}
use Rattle.std.proofs.Math.Nat.{mul-le-mul_left}
use Rattle.std.proofs.lemmas.List.{get_or-map, length-map, take-append-drop, take-map}
use Rattle.std.proofs.lemmas.List.Sums.{fold-append, fold_more}
use Rattle.go_token_core.specs.Numbers.{next_number, number_in, up_to_greatest}

-- a number grows with each digit behind it
next_grows : (radix n c : ℕ) → 1 ≤ radix → n ≤ next_number radix n c
next_grows radix n c h = elim (nat_lt (digit_value c) radix) as (λ b. n ≤ cond b (n * radix + digit_value c) n) [ true ↦ times radix n h | false ↦ omega arith ]
  where
    times : (radix n : ℕ) → 1 ≤ radix → n ≤ n * radix + digit_value c
    times radix n h = omega (arith, mul-le-mul_left n h)

pub grows : (radix n : ℕ) (ds : List ℕ) → 1 ≤ radix → n ≤ fold (next_number radix) n ds
grows radix n [] h = omega arith
grows radix n (d ∷ ds) h = omega (arith, next_grows radix n d h, grows radix (next_number radix n d) ds h)

pub number_in-take-le : (radix i : ℕ) (ds : List ℕ) → 1 ≤ radix → number_in radix (take i ds) ≤ number_in radix ds
number_in-take-le radix i ds h =
    let joined : number_in radix ds ≡ fold (next_number radix) (number_in radix (take i ds)) (drop i ds) = ap (number_in radix) (sym (take-append-drop i ds)) ∙ fold-append (next_number radix) 0 (take i ds) (drop i ds) in
    omega (arith, joined, grows radix (number_in radix (take i ds)) (drop i ds) h)

-- one digit more
pub number_in_more : (radix : ℕ) (ds : List ℕ) (i : ℕ) → i < length ds → number_in radix (take (i + 1) ds) ≡ next_number radix (number_in radix (take i ds)) (get_or ds i 0)
number_in_more radix ds i h = fold_more (next_number radix) 0 ds i 0 h

-- what is above the greatest stays above it
pub stays_above : (n m : ℕ) → up_to_greatest n ≡ None → n ≤ m → None ≡ up_to_greatest m
stays_above n m e h = sym (elim (nat_lt 9223372036854775807 m) as (λ b. nat_lt 9223372036854775807 m ≡ b → cond b None (Some m) ≡ None) [ true ↦ λ t. refl | false ↦ λ f. absurd (less n m f e h) ] refl)
  where
    above : (n : ℕ) (b : Bool) → nat_lt 9223372036854775807 n ≡ b → cond b None (Some n) ≡ None → 9223372036854775807 < n
    above n true t e = grind (arith, nat_tests)
    above n false t e = cc

    less : (n m : ℕ) → nat_lt 9223372036854775807 m ≡ false → up_to_greatest n ≡ None → n ≤ m → ⊥
    less n m f e h =
        let big : 9223372036854775807 < n = above n (nat_lt 9223372036854775807 n) refl e in
        let small : m ≤ 9223372036854775807 = grind (arith, nat_tests) in
        omega arith

-- where the digit of one item more is too much, so are those of all
pub above_all : {X : Type 0} (code : X → ℕ) (radix : ℕ) (text : List X) (i : ℕ) (item : X) (value d : ℕ) → i < length text → 1 ≤ radix → value ≡ number_in radix (map code (take i text)) → item ≡ get_or text i item → d ≡ code item → up_to_greatest (next_number radix value d) ≡ None → None ≡ up_to_greatest (number_in radix (map code text))
above_all code radix text i item value d inside h v read e above =
    let ds : List ℕ = map code text in
    let within : i < length ds = omega (arith, length-map text code, inside) in
    let so_far : value ≡ number_in radix (take i ds) = v ∙ ap (number_in radix) (sym (take-map code i text)) in
    let digit : d ≡ get_or ds i 0 = e ∙ ap code read ∙ sym (get_or-map code text i item 0 inside) in
    let same : next_number radix value d ≡ number_in radix (take (i + 1) ds) = ap (λ x. next_number radix x d) so_far ∙ ap (next_number radix (number_in radix (take i ds))) digit ∙ sym (number_in_more radix ds i within) in
    stays_above (number_in radix (take (i + 1) ds)) (number_in radix ds) (sym (ap up_to_greatest same) ∙ above) (number_in-take-le radix (i + 1) ds h)

-- one more character, and what is above the greatest then
lt_true : (a b : ℕ) → a < b → nat_lt a b ≡ true
lt_true a b h = grind (arith, nat_tests)

lt_false : (a b : ℕ) → (a < b → ⊥) → nat_lt a b ≡ false
lt_false a b h = grind (arith, nat_tests)

pub next_is : (radix r value c m d e : ℕ) → digit_value c < radix → r ≡ radix → m ≡ value * r → d ≡ digit_value c → e ≡ d → m + e ≡ next_number radix value c
next_is radix r value c m d e lt same product digit read =
    let yes : nat_lt (digit_value c) radix ≡ true = lt_true (digit_value c) radix lt in
    let times : value * r ≡ value * radix = ap (λ x. value * x) same in
    let total : m + e ≡ value * radix + digit_value c = omega (arith, product, times, digit, read) in
    total ∙ sym (ap (λ b. cond b (value * radix + digit_value c) value) yes)

pub no_digit : (radix value c : ℕ) → (digit_value c < radix → ⊥) → value ≡ next_number radix value c
no_digit radix value c h =
    let no : nat_lt (digit_value c) radix ≡ false = lt_false (digit_value c) radix h in
    sym (ap (λ b. cond b (value * radix + digit_value c) value) no)

pub too_great : (n k : ℕ) → n ≤ k → 9223372036854775807 < n → None ≡ up_to_greatest k
too_great n k le h =
    let yes : nat_lt 9223372036854775807 k ≡ true = lt_true 9223372036854775807 k (omega (arith, le, h)) in
    sym (ap (λ b. cond b None (Some k)) yes)

pub not_too_great : (n k : ℕ) → n ≡ k → n ≤ 9223372036854775807 → Some n ≡ up_to_greatest k
not_too_great n k e h =
    let no : nat_lt 9223372036854775807 k ≡ false = lt_false 9223372036854775807 k (λ lt. omega (arith, e, h, lt)) in
    ap Some e ∙ sym (ap (λ b. cond b None (Some k)) no)
