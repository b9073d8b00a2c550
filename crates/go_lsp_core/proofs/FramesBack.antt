-- What goes out comes in.
use Rattle.std.proofs.Common.{◌≡◌, ◌∙◌, ◌≤◌, ◌<◌, ◌+◌, ◌/◌, ◌%◌, ◌==◌, ◌||◌, ◌&&◌, ℕ, suc, true, false, cond, Some, None, List, [], ◌∷◌, ◌++◌, length, take, codes, decimal, refl, sym, ap, subst, arith, append_assoc, length-append, take_all}
use Rattle.std.specs.Prelude.{⊤}
use Rattle.std.proofs.lemmas.Fmt.{decimal_by_steps, length-decimal-le}
use Rattle.std.proofs.Math.Seq.{take-append_seam}
use Rattle.go_lsp_core.specs.frames.Frames.{IsMessage, as_digit, content_length, digits, ends_head, frame_of, head_from, head_in, is_digit, most_body, most_head, number_in}
use Rattle.go_lsp_core.specs.frames.Laws.{ComesBack}
use Rattle.go_lsp_core.proofs.FramesEnds.{head_stays}

-- ---- a number and its digits

-- none of the bytes is a carriage return
abbrev NoReturns : List ℕ → Type 0
NoReturns [] = ⊤
NoReturns (b ∷ bs) = ((b == 13) ≡ false) × NoReturns bs

-- the digits of a number, before other bytes, are read as the number
record AreDigits (m : ℕ) (ds : List ℕ) : Type 0 where
  reads : m ≤ most_body → (rest : List ℕ) → digits 0 (ds ++ rest) ≡ digits m rest
  begins : (rest : List ℕ) → number_in (ds ++ rest) ≡ digits 0 (ds ++ rest)
  plain : NoReturns ds

no_returns_more : (xs ys : List ℕ) → NoReturns xs → NoReturns ys → NoReturns (xs ++ ys)
no_returns_more [] ys h k = k
no_returns_more (x ∷ xs) ys h k = (h.0, no_returns_more xs ys h.1 k)

digit_on : (n d : ℕ) (rest : List ℕ) → d < 10 → digits n ((48 + d) ∷ rest) ≡ digits (as_digit n (48 + d)) rest
digit_on n d rest lt =
    let yes : is_digit (48 + d) ≡ true = grind (arith, lt) in
    ap (λ t. cond t (digits (as_digit n (48 + d)) rest) (cond ((48 + d) == 13) (Some n) None)) yes

number_on : (d : ℕ) (rest : List ℕ) → d < 10 → number_in ((48 + d) ∷ rest) ≡ digits 0 ((48 + d) ∷ rest)
number_on d rest lt =
    let yes : is_digit (48 + d) ≡ true = grind (arith, lt) in
    let no : (((48 + d) == 32) || ((48 + d) == 9)) ≡ false = grind (arith, lt) in
    ap (λ t. cond t (number_in rest) (cond (is_digit (48 + d)) (digits 0 ((48 + d) ∷ rest)) None)) no
    ∙ ap (λ t. cond t (digits 0 ((48 + d) ∷ rest)) None) yes

one_digit : (m : ℕ) → m < 10 → AreDigits m ((48 + m) ∷ [])
one_digit m lt = record {
  reads = λ small rest. (let same : as_digit 0 (48 + m) ≡ m = omega arith in digit_on 0 m rest lt ∙ ap (λ n. digits n rest) same);
  begins = λ rest. number_on m rest lt;
  plain = ((let no : ((48 + m) == 13) ≡ false = grind (arith, lt) in no), tt);
}

more_digits : (m : ℕ) (ds : List ℕ) → 10 ≤ m → AreDigits (m / 10) ds → AreDigits m (ds ++ ((48 + m % 10) ∷ []))
more_digits m ds le h = record {
  reads = λ small rest.
      (let same : as_digit (m / 10) (48 + m % 10) ≡ m = omega (arith, small) in
      ap (digits 0) (append_assoc ds ((48 + m % 10) ∷ []) rest) ∙ (h.reads (omega (arith, small)) ((48 + m % 10) ∷ rest) ∙ (digit_on (m / 10) (m % 10) rest (omega arith) ∙ ap (λ n. digits n rest) same)));
  begins = λ rest. subst (λ l. number_in l ≡ digits 0 l) (sym (append_assoc ds ((48 + m % 10) ∷ []) rest)) (h.begins ((48 + m % 10) ∷ rest));
  plain = no_returns_more ds ((48 + m % 10) ∷ []) h.plain ((let no : ((48 + m % 10) == 13) ≡ false = grind arith in no), tt);
}

spelled : (m : ℕ) → m ≤ most_body → AreDigits m (decimal m)
spelled m small = decimal_by_steps AreDigits one_digit more_digits m (omega (arith, small))

-- ---- the head

no_end : (b : ℕ) (bs : List ℕ) → (b == 13) ≡ false → ends_head (b ∷ bs) ≡ false
no_end b [] h = refl
no_end b (c ∷ []) h = refl
no_end b (c ∷ d ∷ []) h = refl
no_end b (c ∷ d ∷ e ∷ bs) h = ap (λ t. t && ((c == 10) && ((d == 13) && (e == 10)))) h

passed : (n : ℕ) (xs ys : List ℕ) → NoReturns xs → head_from n (xs ++ ys) ≡ head_from (n + length xs) ys
passed n [] ys h = ap (λ k. head_from k ys) (omega arith)
passed n (x ∷ xs) ys h =
    ap (λ t. cond t (Some (n + 4)) (head_from (suc n) (xs ++ ys))) (no_end x (xs ++ ys) h.0) ∙ (passed (suc n) xs ys h.1 ∙ ap (λ k. head_from k ys) (omega arith))

-- the head of a message of this length
abbrev head_for : ℕ → List ℕ
head_for n = codes "Content-Length: " ++ (decimal n ++ (13 ∷ 10 ∷ 13 ∷ 10 ∷ []))

head_found : (n : ℕ) → n ≤ most_body → head_in (head_for n) ≡ Some (length (head_for n))
head_found n small =
    let ds = decimal n in
    let few : length ds ≤ 8 = length-decimal-le 8 n (omega arith) (omega (arith, small)) (omega (arith, small)) in
    let size : length (head_for n) ≡ 20 + length ds =
    let whole = length-append (codes "Content-Length: ") (ds ++ (13 ∷ 10 ∷ 13 ∷ 10 ∷ [])) in
    let rest = length-append ds (13 ∷ 10 ∷ 13 ∷ 10 ∷ []) in
    omega (arith, whole, rest) in
    let all : take most_head (head_for n) ≡ head_for n = take_all most_head (head_for n) (omega (arith, size, few)) in
    ap (head_from 0) all ∙ (passed 0 (codes "Content-Length: ") (ds ++ (13 ∷ 10 ∷ 13 ∷ 10 ∷ [])) (refl, (refl, (refl, (refl, (refl, (refl, (refl, (refl, (refl, (refl, (refl, (refl, (refl, (refl, (refl, (refl, tt))))))))))))))))
    ∙ (passed 16 ds (13 ∷ 10 ∷ 13 ∷ 10 ∷ []) (spelled n small).plain ∙ ap Some (omega (arith, size))))

long_told : (n : ℕ) → n ≤ most_body → content_length (head_for n) ≡ Some n
long_told n small =
    let rest = 13 ∷ 10 ∷ 13 ∷ 10 ∷ [] in
    let d = spelled n small in
    d.begins rest ∙ d.reads small rest

pub comes_back : ComesBack
comes_back m more small =
    let n = length m in
    let h = head_for n in
    let cut : frame_of m ++ more ≡ h ++ (m ++ more) =
    ap (λ l. codes "Content-Length: " ++ l) (append_assoc (decimal n) (13 ∷ 10 ∷ 13 ∷ 10 ∷ m) more ∙ sym (append_assoc (decimal n) (13 ∷ 10 ∷ 13 ∷ 10 ∷ []) (m ++ more))) in
    let front : take (length h) (h ++ (m ++ more)) ≡ h = take-append_seam h (m ++ more) in
    subst (λ all. IsMessage m all more) (sym cut) (record {
      head = length h;
      found = head_stays h (m ++ more) (length h) (head_found n small);
      long = ap content_length front ∙ long_told n small;
      short = small;
      whole = ap (λ l. l ++ (m ++ more)) (sym front);
    })
