-- Literals that are written plainly.
use Rattle.std.proofs.Common.{◌≡◌, ◌≢◌, ℕ, ◌-◌, ◌<◌, ◌≤◌, ◌==◌, false, List, [], ◌∷◌, ◌++◌, length, take, drop, get_or, All, encode_utf8, encode_utf8_all, refl, sym, ap, ◌∙◌, subst, arith}
use Rattle.std.specs.Char.{IsScalar}
use Rattle.std.specs.List.{Contains}
use Rattle.std.specs.Str.{IsUtf8, IsCharBoundary, chars}
use Rattle.std.proofs.lemmas.Bool.Decides.{nat_tests}
use Rattle.std.proofs.lemmas.List.{length-append, take-append-le, take_all}
use Rattle.std.proofs.lemmas.List.Elements.{All-contains, All-head, All-tail}
use Rattle.std.proofs.lemmas.Str.{IsCharBoundary-after_ascii, IsUtf8-encode, chars-append, encode_ascii, encodes-chars}
use Rattle.go_token_core.specs.Values.{IsBetween, IsPlainBetween, but_last, meaning_at, quoted_value, raw_value, string_value_of}

unlike : (c n : ℕ) → c ≢ n → (c == n) ≡ false
unlike c n h = grind (arith, nat_tests)

all_behind : {X : Type 0} (P : X → Type 0) (xs ys : List X) → All P (xs ++ ys) → All P ys
all_behind P [] ys h = h
all_behind P (x ∷ xs) ys h = all_behind P xs ys (All-tail P x (xs ++ ys) h)

-- where no byte is that of an ASCII character, no character is it
first_differs : (n c : ℕ) (bs : List ℕ) → encode_utf8 n ≡ n ∷ [] → All (λ b. b ≢ n) (encode_utf8 c ++ bs) → c ≢ n
first_differs n c bs one h e = All-head (λ b. b ≢ n) n bs (subst (λ x. All (λ b. b ≢ n) (x ++ bs)) (ap encode_utf8 e ∙ one) h) refl

quoted_plain : (cs : List ℕ) → All (λ b. b ≢ 92) (encode_utf8_all cs) → quoted_value cs 0 ≡ encode_utf8_all cs
unfolding quoted_value meaning_at
quoted_plain [] h = refl
quoted_plain (c ∷ cs) h =
    let other : (c == 92) ≡ false = unlike c 92 (first_differs 92 c (encode_utf8_all cs) (encode_ascii 92 (omega arith)) h) in
    rw other (ap (λ bs. encode_utf8 c ++ bs) (quoted_plain cs (all_behind (λ b. b ≢ 92) (encode_utf8 c) (encode_utf8_all cs) h)))

raw_plain : (cs : List ℕ) → All (λ b. b ≢ 13) (encode_utf8_all cs) → raw_value cs ≡ encode_utf8_all cs
raw_plain [] h = refl
raw_plain (c ∷ cs) h =
    let other : (c == 13) ≡ false = unlike c 13 (first_differs 13 c (encode_utf8_all cs) (encode_ascii 13 (omega arith)) h) in
    rw other (ap (λ bs. encode_utf8 c ++ bs) (raw_plain cs (all_behind (λ b. b ≢ 13) (encode_utf8 c) (encode_utf8_all cs) h)))

front : (cs : List ℕ) (mark : ℕ) → take (length cs) (cs ++ mark ∷ []) ≡ cs
front cs mark = take-append-le (length cs) cs (mark ∷ []) (omega arith) ∙ take_all (length cs) cs (omega arith)

last_left_out : (cs : List ℕ) (mark : ℕ) → but_last (cs ++ mark ∷ []) ≡ cs
last_left_out cs mark =
    let size : length (cs ++ mark ∷ []) - 1 ≡ length cs = omega (arith, length-append cs (mark ∷ [])) in
    ap (λ n. take n (cs ++ mark ∷ [])) size ∙ front cs mark

chars_between : (mark : ℕ) (inside text : List ℕ) → IsUtf8 (mark ∷ []) → chars (mark ∷ []) ≡ mark ∷ [] → IsUtf8 inside → text ≡ mark ∷ (inside ++ mark ∷ []) → chars text ≡ mark ∷ (chars inside ++ mark ∷ [])
chars_between mark inside text one same whole e =
    ap chars e ∙ (chars-append (mark ∷ []) (inside ++ mark ∷ []) one ∙ (ap (λ cs. cs ++ chars (inside ++ mark ∷ [])) same ∙ ap (λ cs. mark ∷ cs) (chars-append inside (mark ∷ []) whole ∙ ap (λ cs. chars inside ++ cs) same)))

one_byte : (c : ℕ) → c < 128 → IsScalar c → IsUtf8 (c ∷ [])
one_byte c low h = subst IsUtf8 (encode_ascii c low) (IsUtf8-encode c h)

one_quote : chars (34 ∷ []) ≡ 34 ∷ []
unfolding chars
one_quote = refl

one_backquote : chars (96 ∷ []) ≡ 96 ∷ []
unfolding chars
one_backquote = refl

-- what stands between the quotes of an interpreted literal without a backslash is its value
pub quoted_inside : (inside text : List ℕ) → IsUtf8 inside → IsBetween 34 92 inside text → inside ≡ string_value_of (chars text)
quoted_inside inside text whole h =
    let same = encodes-chars inside whole in
    let value = quoted_plain (chars inside) (subst (λ bs. All (λ b. b ≢ 92) bs) (sym same) h.1) in
    sym (ap string_value_of (chars_between 34 inside text (one_byte 34 (omega arith) refl) one_quote whole h.0) ∙ (ap (λ cs. quoted_value cs 0) (last_left_out (chars inside) 34) ∙ (value ∙ same)))

-- and so for a raw one without a carriage return
pub raw_inside : (inside text : List ℕ) → IsUtf8 inside → IsBetween 96 13 inside text → inside ≡ string_value_of (chars text)
raw_inside inside text whole h =
    let same = encodes-chars inside whole in
    let value = raw_plain (chars inside) (subst (λ bs. All (λ b. b ≢ 13) bs) (sym same) h.1) in
    sym (ap string_value_of (chars_between 96 inside text (one_byte 96 (omega arith) refl) one_backquote whole h.0) ∙ (ap raw_value (last_left_out (chars inside) 96) ∙ (value ∙ same)))

-- behind a first character that is ASCII a text may be cut
pub next_to_mark : (text : List ℕ) (mark : ℕ) → IsUtf8 text → get_or text 0 0 ≡ mark → mark < 128 → 2 ≤ length text → IsCharBoundary text 1
next_to_mark text mark whole first low size = IsCharBoundary-after_ascii text 0 whole (omega arith) (omega arith)

-- a text whose inside has the byte `never` is not written plainly
pub not_between : (mark never : ℕ) (inside text : List ℕ) → Contains inside never → inside ≡ take (length text - 1 - 1) (drop 1 text) → ¬ IsPlainBetween mark never text
not_between mark never inside text found e (own, (same, all)) =
    let size : length text - 1 - 1 ≡ length own = omega (arith, ap length same, length-append own (mark ∷ [])) in
    let behind : drop 1 text ≡ own ++ mark ∷ [] = ap (λ t. drop 1 t) same in
    let is : inside ≡ own = e ∙ (ap (λ t. take (length text - 1 - 1) t) behind ∙ (ap (λ n. take n (own ++ mark ∷ [])) size ∙ front own mark)) in
    All-contains (λ b. b ≢ never) own never all (subst (λ xs. Contains xs never) is found) refl
