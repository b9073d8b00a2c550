-- Positions and offsets, byte by byte.
use Rattle.std.proofs.Common.{◌≡◌, ◌++◌, ◌+◌, ◌-◌, ◌<◌, ◌≤◌, ◌==◌, ◌&&◌, ◌∙◌, ℕ, zero, suc, Bool, true, false, cond, not, leb, nat_le, List, [], ◌∷◌, length, get_or, refl, drop, sym, ap, subst, arith, le-leb, eqb-true, IsCharBoundary, rules, ◌||◌, true≢false, ap₂, inl, inr}
use Rattle.go_lsp_core.specs.declared.positions.place.Position.{Position}
use Rattle.go_lsp_core.specs.declared.positions.place.Encoding.{Encoding}
use Rattle.go_lsp_core.specs.declared.positions.place.Encoding.TheVariants.{Utf8, Utf16}
use Rattle.go_lsp_core.specs.positions.Laws.{BoundariesLeadBack, IsBoundary, IsUpTo, PositionsGrow, PositionsLeadToBoundaries}
use Rattle.go_lsp_core.specs.positions.Positions.{at, after_byte, begins_lf, ends_line, is_end_byte, offset_at, position_at, units}

-- a first byte counts, and another counts none
pub record AreUnits (units : ℕ → ℕ) : Type 0 where
  pub first : (b : ℕ) → (128 ≤ b → 192 ≤ b) → 0 < units b
  pub other : (b : ℕ) → 128 ≤ b → b < 192 → units b ≡ 0

-- one byte more
over : (b : ℕ) (bs : List ℕ) (m : ℕ) → IsCharBoundary bs m → IsCharBoundary (b ∷ bs) (suc m)
over b bs m h = (omega (arith, h.0), λ lt k. h.1 (omega (arith, lt)) k)

stays : (units : ℕ → ℕ) → AreUnits units → (b : ℕ) (bs : List ℕ) (character m : ℕ) → IsCharBoundary bs m
    → (t : Bool) → is_end_byte b ≡ t → (z : Bool) → nat_le (units b) character ≡ z → IsCharBoundary (b ∷ bs) (cond t 0 (cond z (suc m) 0))
stays units u b bs character m h true e z f = (omega arith, λ lt k. absurd (grind (arith, e, k)))
stays units u b bs character m h false e true f = over b bs m h
stays units u b bs character m h false e false f = (omega arith, λ lt k. grind (arith, f, k, u.other b k))

pub cuts_no_character : (units : ℕ → ℕ) → AreUnits units → (bs : List ℕ) (line character : ℕ) → IsCharBoundary bs (offset_at units bs line character)
cuts_no_character units u [] line character = (omega arith, λ lt k. absurd (omega (arith, lt)))
cuts_no_character units u (b ∷ bs) zero character =
    stays units u b bs character (offset_at units bs 0 (character - units b)) (cuts_no_character units u bs 0 (character - units b)) (is_end_byte b) refl (nat_le (units b) character) refl
cuts_no_character units u (b ∷ bs) (suc line) character =
    over b bs (offset_at units bs (cond (ends_line b bs) line (suc line)) character) (cuts_no_character units u bs (cond (ends_line b bs) line (suc line)) character)

-- ---- the offset of the position of an offset

step : (units : ℕ → ℕ) (b : ℕ) (bs : List ℕ) (n l c : ℕ) → offset_at units bs l c ≡ n → (l ≡ 0 → b ≡ 13 → begins_lf bs ≡ true → ⊥)
    → offset_at units (b ∷ bs) (after_byte units b bs (at l c)).line (after_byte units b bs (at l c)).character ≡ suc n
step units b bs n l c same whole = by (ends_line b bs) refl ((l == 0) && not (b == 13)) refl
  where
    inside : (l : ℕ) → offset_at units bs l c ≡ n → ends_line b bs ≡ false → ((l == 0) && not (b == 13)) ≡ true → offset_at units (b ∷ bs) 0 (units b + c) ≡ suc n
    inside zero same e f =
        let no : is_end_byte b ≡ false = grind (arith, e, f) in
        let fits : leb (units b) (units b + c) ≡ true = le-leb (units b) (units b + c) (omega arith) in
        let back : (units b + c) - units b ≡ c = omega arith in
        subst (λ t. cond t 0 (cond (nat_le (units b) (units b + c)) (suc (offset_at units bs 0 ((units b + c) - units b))) 0) ≡ suc n) (sym no)
        (subst (λ t. cond t (suc (offset_at units bs 0 ((units b + c) - units b))) 0 ≡ suc n) (sym fits) (ap suc (ap (offset_at units bs 0) back ∙ same)))
    inside (suc l) same e f = absurd (grind (arith, f))

    beyond : (l : ℕ) → offset_at units bs l c ≡ n → (l ≡ 0 → b ≡ 13 → begins_lf bs ≡ true → ⊥) → ends_line b bs ≡ false → ((l == 0) && not (b == 13)) ≡ false → offset_at units (b ∷ bs) l c ≡ suc n
    beyond zero same whole e f =
        let cr : (b == 13) ≡ true = grind (arith, f) in
        let lf : begins_lf bs ≡ true = grind (arith, e, cr) in
        absurd (whole refl (eqb-true b 13 cr) lf)
    beyond (suc l) same whole e f = ap suc (subst (λ t. offset_at units bs (cond t l (suc l)) c ≡ n) (sym e) same)

    by : (t : Bool) → ends_line b bs ≡ t → (z : Bool) → ((l == 0) && not (b == 13)) ≡ z
        → offset_at units (b ∷ bs) (cond t (at (suc l) c) (cond z (at 0 (units b + c)) (at l c))).line (cond t (at (suc l) c) (cond z (at 0 (units b + c)) (at l c))).character ≡ suc n
    by true e z f = ap suc (subst (λ t. offset_at units bs (cond t l (suc l)) c ≡ n) (sym e) same)
    by false e true f = inside l same e f
    by false e false f = beyond l same whole e f

-- ---- laws

are_units : (e : Encoding) → AreUnits (units e)
are_units Utf8 = record { first = λ b h. search (rules, arith); other = λ b k l. grind (arith, k, l) }
are_units Utf16 = record { first = λ b h. search (rules, arith); other = λ b k l. grind (arith, k, l) }

pub no_cut : (e : Encoding) (text : List ℕ) (line character : ℕ) → IsCharBoundary text (offset_at (units e) text line character)
no_cut e text line character = cuts_no_character (units e) (are_units e) text line character

inner : (b : ℕ) (bs : List ℕ) (n : ℕ) → IsBoundary (b ∷ bs) (suc n) → IsBoundary bs n
inner b bs n h = record {
  character = (omega (arith, h.character.0), λ lt k. h.character.1 (omega (arith, lt)) k);
  line_end = λ front back e is. h.line_end (b ∷ front) back (ap (λ xs. b ∷ xs) e) (ap suc is);
}

at_lf : (units : ℕ → ℕ) (b : ℕ) (bs : List ℕ) (n : ℕ) → IsBoundary (b ∷ bs) (suc n) → b ≡ 13 → begins_lf bs ≡ true → (position_at units bs n).line ≡ 0 → ⊥
at_lf units b [] n h cr lf first = true≢false (sym lf)
at_lf units b (c ∷ bs) zero h cr lf first =
    h.line_end [] bs (ap₂ (λ x y. x ∷ y ∷ bs) cr (eqb-true c 10 lf)) refl
at_lf units b (c ∷ bs) (suc n) h cr lf first =
    let ends : ends_line c bs ≡ true = subst (λ t. (t || ((c == 13) && not (begins_lf bs))) ≡ true) (sym lf) refl in
    let p = position_at units bs n in
    let line : suc p.line ≡ 0 = subst (λ t. (cond t (at (suc p.line) p.character) (cond ((p.line == 0) && not (c == 13)) (at 0 (units c + p.character)) p)).line ≡ 0) ends first in
    omega (arith, line)

back : (units : ℕ → ℕ) → AreUnits units → (bs : List ℕ) (n : ℕ) → IsBoundary bs n → offset_at units bs (position_at units bs n).line (position_at units bs n).character ≡ n
back units u [] n h = omega (arith, h.character.0)
back units u (b ∷ bs) zero h =
    let some : 0 < units b = u.first b (h.character.1 (omega arith)) in
    let no : nat_le (units b) 0 ≡ false = grind (arith, some) in
    subst (λ t. cond (is_end_byte b) 0 (cond t (suc (offset_at units bs 0 (0 - units b))) 0) ≡ 0) (sym no) (either (is_end_byte b))
  where
    either : (t : Bool) → ◌≡◌ {A = ℕ} (cond t 0 0) 0
    either true = refl
    either false = refl
back units u (b ∷ bs) (suc n) h =
    let p = position_at units bs n in
    step units b bs n p.line p.character (back units u bs n (inner b bs n h)) (λ first cr lf. at_lf units b bs n h cr lf first)

pub boundaries_lead_back : BoundariesLeadBack
boundaries_lead_back e text n h = back (units e) (are_units e) text n h

grown : (u b : ℕ) (bs : List ℕ) (p q : Position) → IsUpTo p q → IsUpTo (after_byte (λ _. u) b bs p) (after_byte (λ _. u) b bs q)
grown u b bs p q h = by (ends_line b bs) (not (b == 13)) p.line p.character q.line q.character h
  where
    one : ℕ → Bool → ℕ → ℕ → Position
    one u z l c = cond ((l == 0) && z) (at 0 (u + c)) (at l c)

    by : (t z : Bool) (l c m d : ℕ) → IsUpTo (at l c) (at m d) → IsUpTo (cond t (at (suc l) c) (cond ((l == 0) && z) (at 0 (u + c)) (at l c))) (cond t (at (suc m) d) (cond ((m == 0) && z) (at 0 (u + d)) (at m d)))
    by true z l c m d (inl h) = inl (omega (arith, h))
    by true z l c m d (inr h) = inr (omega (arith, h.0), h.1)
    by false true zero c zero d (inl h) = absurd (omega (arith, h))
    by false true zero c zero d (inr h) = inr (refl, omega (arith, h.1))
    by false true zero c (suc m) d h = let no : (suc m == 0) ≡ false = grind arith in subst (λ t. IsUpTo (at 0 (u + c)) (cond (t && true) (at 0 (u + d)) (at (suc m) d))) (sym no) (inl (omega arith))
    by false true (suc l) c zero d (inl h) = absurd (omega (arith, h))
    by false true (suc l) c zero d (inr h) = absurd (omega (arith, h.0))
    by false true (suc l) c (suc m) d h =
        let no : (suc l == 0) ≡ false = grind arith in
        let no' : (suc m == 0) ≡ false = grind arith in
        subst (λ t. IsUpTo (cond (t && true) (at 0 (u + c)) (at (suc l) c)) (cond ((suc m == 0) && true) (at 0 (u + d)) (at (suc m) d))) (sym no)
        (subst (λ t. IsUpTo (at (suc l) c) (cond (t && true) (at 0 (u + d)) (at (suc m) d))) (sym no') h)
    by false false l c m d h = both ((l == 0) && false) ((m == 0) && false) (grind arith) (grind arith)
      where
        both : (x y : Bool) → x ≡ false → y ≡ false → IsUpTo (cond x (at 0 (u + c)) (at l c)) (cond y (at 0 (u + d)) (at m d))
        both x y e f = subst (λ x. IsUpTo (cond x (at 0 (u + c)) (at l c)) (cond y (at 0 (u + d)) (at m d))) (sym e) (subst (λ y. IsUpTo (at l c) (cond y (at 0 (u + d)) (at m d))) (sym f) h)

from_zero : (p : Position) → IsUpTo (at 0 0) p
from_zero p = by p.line refl
  where
    by : (l : ℕ) → p.line ≡ l → IsUpTo (at 0 0) p
    by zero e = inr (sym e, omega arith)
    by (suc l) e = inl (omega (arith, e))

grow : (units : ℕ → ℕ) (bs : List ℕ) (m n : ℕ) → m ≤ n → IsUpTo (position_at units bs m) (position_at units bs n)
grow units [] m n le = inr (refl, omega arith)
grow units (b ∷ bs) zero n le = from_zero (position_at units (b ∷ bs) n)
grow units (b ∷ bs) (suc m) zero le = absurd (omega (arith, le))
grow units (b ∷ bs) (suc m) (suc n) le = grown (units b) b bs (position_at units bs m) (position_at units bs n) (grow units bs m n (omega (arith, le)))

pub positions_grow : PositionsGrow
positions_grow e text m n le = grow (units e) text m n le

-- ---- no position leads between `\r` and `\n`

abbrev IsApart : List ℕ → ℕ → Type 0
IsApart bs n = (front behind : List ℕ) → bs ≡ front ++ 13 ∷ 10 ∷ behind → n ≡ suc (length front) → ⊥

head_is : (a b : ℕ) (xs ys : List ℕ) → a ∷ xs ≡ b ∷ ys → a ≡ b
head_is a b xs ys e = ap (λ l. get_or l 0 0) e

tail_is : (a b : ℕ) (xs ys : List ℕ) → a ∷ xs ≡ b ∷ ys → xs ≡ ys
tail_is a b xs ys e = ap (drop 1) e

-- one byte more, which is the first of no `\r\n`
apart_more : (b : ℕ) (bs : List ℕ) (m : ℕ) → (b ≡ 13 → begins_lf bs ≡ true → m ≡ 0 → ⊥) → IsApart bs m → IsApart (b ∷ bs) (suc m)
apart_more b bs m first rest [] behind e is = first (head_is b 13 bs (10 ∷ behind) e) (ap begins_lf (tail_is b 13 bs (10 ∷ behind) e)) (omega (arith, is))
apart_more b bs m first rest (f ∷ front) behind e is = rest front behind (tail_is b f bs (front ++ 13 ∷ 10 ∷ behind) e) (omega (arith, is))

apart_none : (bs : List ℕ) → IsApart bs 0
apart_none bs front behind e is = omega (arith, is)

apart_within : (units : ℕ → ℕ) (b : ℕ) (bs : List ℕ) (character m : ℕ) → IsApart bs m → (t : Bool) → is_end_byte b ≡ t → (z : Bool) → IsApart (b ∷ bs) (cond t 0 (cond z (suc m) 0))
apart_within units b bs character m h true e z = apart_none (b ∷ bs)
apart_within units b bs character m h false e true = apart_more b bs m (λ cr lf none. true≢false (sym (subst (λ x. is_end_byte x ≡ true) (sym cr) refl) ∙ e)) h
apart_within units b bs character m h false e false = apart_none (b ∷ bs)

-- where a `\r` and a `\n` stand, the line ends after both
some_after : (units : ℕ → ℕ) (b : ℕ) (bs : List ℕ) (line character : ℕ) → b ≡ 13 → begins_lf bs ≡ true → offset_at units bs (cond (ends_line b bs) line (suc line)) character ≡ 0 → ⊥
some_after units b [] line character cr lf none = true≢false (sym lf)
some_after units b (d ∷ bs) line character cr lf none =
    let ends : ends_line b (d ∷ bs) ≡ false = grind (arith, cr, lf) in
    let more : offset_at units (d ∷ bs) (suc line) character ≡ 0 = subst (λ t. offset_at units (d ∷ bs) (cond t line (suc line)) character ≡ 0) ends none in
    omega (arith, more)

apart : (units : ℕ → ℕ) (bs : List ℕ) (line character : ℕ) → IsApart bs (offset_at units bs line character)
apart units [] line character = apart_none []
apart units (b ∷ bs) zero character =
    apart_within units b bs character (offset_at units bs 0 (character - units b)) (apart units bs 0 (character - units b)) (is_end_byte b) refl (nat_le (units b) character)
apart units (b ∷ bs) (suc line) character =
    apart_more b bs (offset_at units bs (cond (ends_line b bs) line (suc line)) character) (some_after units b bs line character) (apart units bs (cond (ends_line b bs) line (suc line)) character)

pub lead_to_boundaries : PositionsLeadToBoundaries
lead_to_boundaries e text line character = record { character = no_cut e text line character; line_end = apart (units e) text line character }
