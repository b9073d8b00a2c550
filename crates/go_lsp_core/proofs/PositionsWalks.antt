-- One walk over a text.
use Rattle.std.proofs.Common.{◌≡◌, ◌+◌, ◌-◌, ◌/◌, ◌%◌, ◌<◌, ◌≤◌, ◌==◌, ◌&&◌, ◌∙◌, ℕ, zero, suc, Bool, true, false, cond, not, nat_lt, List, [], ◌∷◌, ◌++◌, length, get_or, refl, min, drop, drop-cons, add-one, length-drop, length-append, sym, ap, ap₂, subst, arith, eqb-true, IsUtf8}
use lib.Utf8.{encode, encodes}
use Rattle.go_lsp_core.specs.declared.positions.place.Position.{Position}
use Rattle.go_lsp_core.specs.declared.positions.place.Encoding.{Encoding}
use Rattle.go_lsp_core.specs.declared.positions.place.Encoding.TheVariants.{Utf8, Utf16}
use Rattle.go_lsp_core.specs.positions.Positions.{after_byte, at, ends_line, offset_at, position_at, units}
use Rattle.go_lsp_core.specs.positions.mirrors.Walks.{counted_from, line_start, stepped, total}

-- ---- a position, step by step

step_end : (o : Position) (l c : ℕ) (z : Bool) → (l == 0) ≡ z → counted_from o (at (suc l) c) ≡ cond z (at (o.line + 1) (0 + c)) (at (o.line + 1 + l) c)
step_end o l c true e =
    let no : (suc l == 0) ≡ false = grind arith in
    let first : l ≡ 0 = eqb-true l 0 e in
    subst (λ t. cond t (at o.line (o.character + c)) (at (o.line + suc l) c) ≡ at (o.line + 1) (0 + c)) (sym no) (ap₂ at (omega (arith, first)) (omega arith))
step_end o l c false e =
    let no : (suc l == 0) ≡ false = grind arith in
    subst (λ t. cond t (at o.line (o.character + c)) (at (o.line + suc l) c) ≡ at (o.line + 1 + l) c) (sym no) (ap₂ at (omega arith) refl)

step_none : (o : Position) (u : ℕ) (p : Position) (z : Bool) → counted_from o (cond (z && false) (at 0 u) p) ≡ counted_from o p
step_none o u p true = refl
step_none o u p false = refl

step_some : (o : Position) (u : ℕ) (p : Position) (z : Bool) → (p.line == 0) ≡ z
    → counted_from o (cond (z && true) (at 0 (u + p.character)) p) ≡ cond z (at o.line ((o.character + u) + p.character)) (at (o.line + p.line) p.character)
step_some o u p true e = ap₂ at refl (omega arith)
step_some o u p false e = subst (λ t. cond t (at o.line (o.character + p.character)) (at (o.line + p.line) p.character) ≡ at (o.line + p.line) p.character) (sym e) refl

step : (units : ℕ → ℕ) (b : ℕ) (bs : List ℕ) (o p : Position) → counted_from (stepped units b bs o) p ≡ counted_from o (after_byte units b bs p)
step units b bs o p = by (ends_line b bs) (b == 13)
  where
    by : (t z : Bool) → counted_from (cond t (at (o.line + 1) 0) (cond z o (at o.line (o.character + units b)))) p
        ≡ counted_from o (cond t (at (suc p.line) p.character) (cond ((p.line == 0) && not z) (at 0 (units b + p.character)) p))
    by true z = sym (step_end o p.line p.character (p.line == 0) refl)
    by false true = sym (step_none o (units b + p.character) p (p.line == 0))
    by false false = sym (step_some o (units b) p (p.line == 0) refl)

cut : (xs : List ℕ) (i : ℕ) → i < length xs → drop i xs ≡ get_or xs i 0 ∷ drop (i + 1) xs
cut xs i lt = drop-cons xs i 0 lt ∙ ap (λ m. get_or xs i 0 ∷ drop m xs) (sym (add-one i))

-- what is left to count, one byte further
pub walk_step : (units : ℕ → ℕ) (xs : List ℕ) (i n : ℕ) (o new : Position) → i < length xs → i < n → new ≡ stepped units (get_or xs i 0) (drop (i + 1) xs) o
    → counted_from new (position_at units (drop (i + 1) xs) (n - (i + 1))) ≡ counted_from o (position_at units (drop i xs) (n - i))
walk_step units xs i n o new lt less is =
    let left : n - i ≡ suc (n - (i + 1)) = omega (arith, less) in
    let rest = position_at units (drop (i + 1) xs) (n - (i + 1)) in
    let whole : position_at units (drop i xs) (n - i) ≡ after_byte units (get_or xs i 0) (drop (i + 1) xs) rest =
    ap (λ ys. position_at units ys (n - i)) (cut xs i lt) ∙ ap (position_at units (get_or xs i 0 ∷ drop (i + 1) xs)) left in
    ap (λ q. counted_from q rest) is ∙ (step units (get_or xs i 0) (drop (i + 1) xs) o rest ∙ ap (counted_from o) (sym whole))

-- after so many bytes, or all of them, nothing is left to count
pub walk_end : (units : ℕ → ℕ) (xs : List ℕ) (i n : ℕ) (o : Position) → min n (length xs) ≤ i → counted_from o (position_at units (drop i xs) (n - i)) ≡ o
walk_end units xs i n o le = by (drop i xs) (n - i) (omega (arith, le, length-drop i xs))
  where
    none : counted_from o (at 0 0) ≡ o
    none = ap₂ at refl (omega arith)

    by : (ys : List ℕ) (m : ℕ) → min m (length ys) ≡ 0 → counted_from o (position_at units ys m) ≡ o
    by [] m h = none
    by (y ∷ ys) zero h = none
    by (y ∷ ys) (suc m) h = absurd (omega (arith, h))

pub walk_start : (p : Position) → counted_from (at 0 0) p ≡ p
walk_start p = by (p.line == 0) refl
  where
    by : (z : Bool) → (p.line == 0) ≡ z → cond z (at 0 (0 + p.character)) (at (0 + p.line) p.character) ≡ p
    by true e = ap₂ at (sym (eqb-true p.line 0 e)) (omega arith)
    by false e = ap₂ at (omega arith) refl

pub total_step : (units : ℕ → ℕ) (xs : List ℕ) (i : ℕ) → i < length xs → total units (drop i xs) ≡ units (get_or xs i 0) + total units (drop (i + 1) xs)
total_step units xs i lt = ap (total units) (cut xs i lt)

-- what a step keeps
pub stepped_fits : (units : ℕ → ℕ) (b : ℕ) (bs : List ℕ) (o new : Position) (at' all : ℕ) → new ≡ stepped units b bs o → o.line ≤ at' → o.character + (units b + total units bs) ≤ all
    → (new.line ≤ at' + 1) × (new.character + total units bs ≤ all)
stepped_fits units b bs o new at' all is line fits =
    subst (λ q. (q.line ≤ at' + 1) × (q.character + total units bs ≤ all)) (sym is) (by (ends_line b bs) (b == 13))
  where
    by : (t z : Bool) → ((cond t (at (o.line + 1) 0) (cond z o (at o.line (o.character + units b)))).line ≤ at' + 1) × ((cond t (at (o.line + 1) 0) (cond z o (at o.line (o.character + units b)))).character + total units bs ≤ all)
    by true z = (omega (arith, line), omega (arith, fits))
    by false true = (omega (arith, line), omega (arith, fits))
    by false false = (omega (arith, line), omega (arith, fits))

-- ---- how many units a text has

total_append : (units : ℕ → ℕ) (xs ys : List ℕ) → total units (xs ++ ys) ≡ total units xs + total units ys
total_append units [] ys = omega arith
total_append units (x ∷ xs) ys = omega (arith, total_append units xs ys)

pub total_drop : (units : ℕ → ℕ) (m : ℕ) (xs : List ℕ) → total units (drop m xs) ≤ total units xs
total_drop units zero xs = omega arith
total_drop units (suc m) [] = omega arith
total_drop units (suc m) (x ∷ xs) = omega (arith, total_drop units m xs)

one : (e : Encoding) (b : ℕ) → b < 128 → units e b ≤ 1
one Utf8 b lt = grind (arith, lt)
one Utf16 b lt = grind (arith, lt)

none : (e : Encoding) (b : ℕ) → 128 ≤ b → b < 192 → units e b ≡ 0
none Utf8 b le lt = grind (arith, le, lt)
none Utf16 b le lt = grind (arith, le, lt)

two : (e : Encoding) (b : ℕ) → b < 224 → units e b ≤ 2
two Utf8 b lt = grind (arith, lt)
two Utf16 b lt = grind (arith, lt)

three : (e : Encoding) (b : ℕ) → b < 240 → units e b ≤ 3
three Utf8 b lt = grind (arith, lt)
three Utf16 b lt = grind (arith, lt)

four : (e : Encoding) (b : ℕ) → units e b ≤ 4
four Utf8 b = grind arith
four Utf16 b = grind arith

char_fits : (e : Encoding) (c : ℕ) → total (units e) (encode c) ≤ length (encode c)
unfolding encode
char_fits e c = by (nat_lt c 128) refl (nat_lt c 2048) refl (nat_lt c 65536) refl
  where
    last : ℕ → ℕ
    last m = 128 + m % 64

    no_units : (m : ℕ) → units e (128 + m % 64) ≡ 0
    no_units m = none e (128 + m % 64) (omega arith) (omega arith)

    by : (x : Bool) → nat_lt c 128 ≡ x → (y : Bool) → nat_lt c 2048 ≡ y → (z : Bool) → nat_lt c 65536 ≡ z
        → total (units e) (cond x (c ∷ []) (cond y ((192 + c / 64) ∷ (128 + c % 64) ∷ []) (cond z ((224 + c / 4096) ∷ (128 + c / 64 % 64) ∷ (128 + c % 64) ∷ []) ((240 + c / 262144) ∷ (128 + c / 4096 % 64) ∷ (128 + c / 64 % 64) ∷ (128 + c % 64) ∷ []))))
        ≤ length (cond x (c ∷ []) (cond y ((192 + c / 64) ∷ (128 + c % 64) ∷ []) (cond z ((224 + c / 4096) ∷ (128 + c / 64 % 64) ∷ (128 + c % 64) ∷ []) ((240 + c / 262144) ∷ (128 + c / 4096 % 64) ∷ (128 + c / 64 % 64) ∷ (128 + c % 64) ∷ []))))
    by true h y k z l = let small : c < 128 = grind (arith, h) in omega (arith, one e c small)
    by false h true k z l = let small : 192 + c / 64 < 224 = grind (arith, k) in omega (arith, two e (192 + c / 64) small, no_units c)
    by false h false k true l = let small : 224 + c / 4096 < 240 = grind (arith, l) in omega (arith, three e (224 + c / 4096) small, no_units (c / 64), no_units c)
    by false h false k false l = omega (arith, four e (240 + c / 262144), no_units (c / 4096), no_units (c / 64), no_units c)

chars_fit : (e : Encoding) (cs : List ℕ) → total (units e) (encodes cs) ≤ length (encodes cs)
chars_fit e [] = omega arith
chars_fit e (c ∷ cs) = omega (arith, char_fits e c, chars_fit e cs, total_append (units e) (encode c) (encodes cs), length-append (encode c) (encodes cs))

-- a text has no more units than bytes
pub text_fits : (e : Encoding) (bs : List ℕ) → IsUtf8 bs → total (units e) bs ≤ length bs
text_fits e bs u = subst (λ l. total (units e) l ≤ length l) u.1.1 (chars_fit e u.0)

-- ---- where a line starts

pub line_within : (bs : List ℕ) (line : ℕ) → line_start bs line ≤ length bs
line_within [] line = omega arith
line_within (b ∷ bs) zero = omega arith
line_within (b ∷ bs) (suc line) = omega (arith, line_within bs (cond (ends_line b bs) line (suc line)))

pub from_line : (units : ℕ → ℕ) (bs : List ℕ) (line character : ℕ) → offset_at units bs line character ≡ line_start bs line + offset_at units (drop (line_start bs line) bs) 0 character
from_line units [] line character = refl
from_line units (b ∷ bs) zero character = omega arith
from_line units (b ∷ bs) (suc line) character =
    let n = line_start bs (cond (ends_line b bs) line (suc line)) in
    ap suc (from_line units bs (cond (ends_line b bs) line (suc line)) character) ∙ omega arith

-- one byte more before the line
pub line_step : (xs : List ℕ) (i left new : ℕ) → i < length xs → 0 < left → new ≡ cond (ends_line (get_or xs i 0) (drop (i + 1) xs)) (left - 1) left
    → (i + 1) + line_start (drop (i + 1) xs) new ≡ i + line_start (drop i xs) left
line_step xs i zero new lt some is = absurd (omega (arith, some))
line_step xs i (suc left) new lt some is =
    let less : suc left - 1 ≡ left = omega arith in
    let same : new ≡ cond (ends_line (get_or xs i 0) (drop (i + 1) xs)) left (suc left) = is ∙ ap (λ m. cond (ends_line (get_or xs i 0) (drop (i + 1) xs)) m (suc left)) less in
    let whole : line_start (drop i xs) (suc left) ≡ suc (line_start (drop (i + 1) xs) new) =
    ap (λ ys. line_start ys (suc left)) (cut xs i lt) ∙ ap (λ m. suc (line_start (drop (i + 1) xs) m)) (sym same) in
    omega (arith, whole)

line_here : (xs : List ℕ) → line_start xs 0 ≡ 0
line_here [] = refl
line_here (x ∷ xs) = refl

-- the line is found
pub line_found : (i left all : ℕ) (xs : List ℕ) → left ≡ 0 → i + line_start xs left ≡ all → i ≡ all
line_found i left all xs none h = let here : line_start xs left ≡ 0 = ap (line_start xs) none ∙ line_here xs in omega (arith, here, h)

-- the offset of a position, by the start of its line
pub from_parts : (units : ℕ → ℕ) (text bytes rest : List ℕ) (line character start n : ℕ) → bytes ≡ text → start ≡ line_start bytes line → rest ≡ drop start bytes → n ≡ offset_at units rest 0 character
    → start + n ≡ offset_at units text line character
from_parts units text bytes rest line character start n whole is back reach =
    let here : start ≡ line_start text line = is ∙ ap (λ l. line_start l line) whole in
    let cut : rest ≡ drop (line_start text line) text = back ∙ ap₂ drop here whole in
    ap₂ (λ a b. a + b) here (reach ∙ ap (λ l. offset_at units l 0 character) cut) ∙ sym (from_line units text line character)
