-- Steps of reading digits and escapes.
use Rattle.std.proofs.Common.{◌≡◌, ℕ, zero, suc, ◌+◌, ◌*◌, ◌-◌, ◌<◌, ◌≤◌, Bool, true, false, ◌==◌, ◌||◌, ◌&&◌, ◌⊎◌, inl, inr, nat_lt, nat_le, get_or, List, [], ◌∷◌, ◌++◌, length, take, drop, Option, Some, None, refl, sym, ap, ◌∙◌, subst, arith}
use Rattle.std.specs.Char.{digit_value}
use Rattle.std.proofs.lemmas.Bool.Decides.{nat_tests}
use Rattle.go_token_core.proofs.Choices.{chosen}
use Rattle.go_token_core.specs.declared.escapes.Meaning.{Meaning}
use Rattle.go_token_core.specs.declared.escapes.Meaning.TheVariants.{Byte, Char}
use Rattle.go_token_core.specs.Escapes.{byte_read, digits_at, digits_next, escape_at, scalar_read, simple_of, simple_or}

-- steps of reading digits
pub digits_zero : (cs : List ℕ) (limit radix n v : ℕ) → n ≡ 0 → digits_at cs limit radix n v ≡ Some v
unfolding digits_at
digits_zero cs limit radix zero v e = refl
digits_zero cs limit radix (suc n) v e = absurd (omega arith)

pub digits_none : (cs : List ℕ) (limit radix n v : ℕ) → 0 < n → length cs ≡ 0 → digits_at cs limit radix n v ≡ None
unfolding digits_at
digits_none [] limit radix (suc n) v h e = refl
digits_none [] limit radix zero v h e = absurd (omega arith)
digits_none (c ∷ cs) limit radix n v h e = absurd (omega arith)

pub digits_more : (cs : List ℕ) (limit radix n v : ℕ) → 0 < n → 0 < length cs → digits_at cs limit radix n v ≡ digits_next (v * radix + digit_value (get_or cs 0 0)) (nat_lt (digit_value (get_or cs 0 0)) radix && nat_le (v * radix + digit_value (get_or cs 0 0)) limit) (λ w. digits_at (drop 1 cs) limit radix (n - 1) w)
unfolding digits_at
digits_more [] limit radix n v h e = absurd (omega arith)
digits_more (c ∷ cs) limit radix zero v h e = absurd (omega arith)
digits_more (c ∷ cs) limit radix (suc n) v h e =
    let skip : n ≡ suc n - 1 = omega arith in
    ap (λ m. digits_next (v * radix + digit_value c) (nat_lt (digit_value c) radix && nat_le (v * radix + digit_value c) limit) (λ w. digits_at cs limit radix m w)) skip

both_pass : (d radix w limit : ℕ) → d < radix → w ≤ limit → (nat_lt d radix && nat_le w limit) ≡ true
both_pass d radix w limit a b = grind (arith, nat_tests)

one_fails : (d radix w limit : ℕ) → (radix ≤ d) ⊎ (limit < w) → (nat_lt d radix && nat_le w limit) ≡ false
one_fails d radix w limit h = grind (arith, nat_tests)

next_true : (v : ℕ) (b : Bool) (more : ℕ → Option ℕ) → b ≡ true → digits_next v b more ≡ more v
next_true v true more e = refl
next_true v false more e = cc

next_false : (v : ℕ) (b : Bool) (more : ℕ → Option ℕ) → b ≡ false → digits_next v b more ≡ None
next_false v false more e = refl
next_false v true more e = cc

pub digits_taken : (cs : List ℕ) (limit radix n v c d : ℕ) → 0 < n → 0 < length cs → c ≡ get_or cs 0 0 → d ≡ digit_value c → d < radix → v * radix + d ≤ limit → digits_at cs limit radix n v ≡ digits_at (drop 1 cs) limit radix (n - 1) (v * radix + d)
digits_taken cs limit radix n v c d some there e g low fits =
    let same : d ≡ digit_value (get_or cs 0 0) = g ∙ ap digit_value e in
    let P : ℕ → Type 0 = λ x. digits_at cs limit radix n v ≡ digits_at (drop 1 cs) limit radix (n - 1) (v * radix + x) in
    let x = digit_value (get_or cs 0 0) in
    subst P (sym same) (digits_more cs limit radix n v some there ∙ next_true (v * radix + x) (nat_lt x radix && nat_le (v * radix + x) limit) (λ w. digits_at (drop 1 cs) limit radix (n - 1) w) (both_pass x radix (v * radix + x) limit (subst (λ (y : ℕ). y < radix) same low) (subst (λ (y : ℕ). v * radix + y ≤ limit) same fits)))

pub digits_refused : (cs : List ℕ) (limit radix n v c d : ℕ) → 0 < n → 0 < length cs → c ≡ get_or cs 0 0 → d ≡ digit_value c → (radix ≤ d) ⊎ (limit < v * radix + d) → digits_at cs limit radix n v ≡ None
digits_refused cs limit radix n v c d some there e g fails =
    let same : d ≡ digit_value (get_or cs 0 0) = g ∙ ap digit_value e in
    let x = digit_value (get_or cs 0 0) in
    digits_more cs limit radix n v some there ∙ next_false (v * radix + x) (nat_lt x radix && nat_le (v * radix + x) limit) (λ w. digits_at (drop 1 cs) limit radix (n - 1) w) (one_fails x radix (v * radix + x) limit (subst (λ (y : ℕ). (radix ≤ y) ⊎ (limit < v * radix + y)) same fails))

-- ---- digits that are read stand in the text, and are the same whatever follows

next_some : (v w : ℕ) (b : Bool) (more : ℕ → Option ℕ) → digits_next v b more ≡ Some w → more v ≡ Some w
next_some v w true more e = e
next_some v w false more e = cc

digits_within : (cs : List ℕ) (limit radix n v w : ℕ) → digits_at cs limit radix n v ≡ Some w → n ≤ length cs
unfolding digits_at
digits_within cs limit radix zero v w e = omega arith
digits_within [] limit radix (suc n) v w e = cc
digits_within (c ∷ cs) limit radix (suc n) v w e = omega (arith, digits_within cs limit radix n _ w (next_some _ w _ (λ u. digits_at cs limit radix n u) e))

next_same : (v w : ℕ) (b : Bool) (more others : ℕ → Option ℕ) → ((u : ℕ) → more u ≡ Some w → others u ≡ Some w) → digits_next v b more ≡ Some w → digits_next v b others ≡ Some w
next_same v w true more others h e = h v e
next_same v w false more others h e = cc

digits_longer : (cs rest : List ℕ) (limit radix n v w : ℕ) → digits_at cs limit radix n v ≡ Some w → digits_at (cs ++ rest) limit radix n v ≡ Some w
unfolding digits_at
digits_longer cs rest limit radix zero v w e = e
digits_longer [] rest limit radix (suc n) v w e = cc
digits_longer (c ∷ cs) rest limit radix (suc n) v w e = next_same (v * radix + digit_value c) w (nat_lt (digit_value c) radix && nat_le (v * radix + digit_value c) limit) (λ u. digits_at cs limit radix n u) (λ u. digits_at (cs ++ rest) limit radix n u) (λ u h. digits_longer cs rest limit radix n u w h) e

digits_shorter : (cs : List ℕ) (limit radix n v w m : ℕ) → n ≤ m → digits_at cs limit radix n v ≡ Some w → digits_at (take m cs) limit radix n v ≡ Some w
unfolding digits_at
digits_shorter cs limit radix zero v w m h e = e
digits_shorter [] limit radix (suc n) v w m h e = cc
digits_shorter (c ∷ cs) limit radix (suc n) v w zero h e = absurd (omega arith)
digits_shorter (c ∷ cs) limit radix (suc n) v w (suc m) h e = next_same (v * radix + digit_value c) w (nat_lt (digit_value c) radix && nat_le (v * radix + digit_value c) limit) (λ u. digits_at cs limit radix n u) (λ u. digits_at (take m cs) limit radix n u) (λ u g. digits_shorter cs limit radix n u w m (omega arith) g) e

-- ---- and so of escapes

abbrev Read : Type 0
Read = Meaning × ℕ

pub byte_is : (n : ℕ) (r : Option ℕ) (x : Read) → byte_read n r ≡ Some x → (n ≡ x.1) × ((w : ℕ) × (r ≡ Some w))
byte_is n None x e = cc
byte_is n (Some w) x e = (let same : (Byte w, n) ≡ x = cc in ap (λ y. y.1) same, (w, refl))

pub scalar_is : (n : ℕ) (r : Option ℕ) (x : Read) → scalar_read n r ≡ Some x → (n ≡ x.1) × ((w : ℕ) × (r ≡ Some w))
scalar_is n None x e = cc
scalar_is n (Some w) x e = elim (chosen (nat_lt w 55296 || nat_lt 57343 w) (Some (Char w, n)) None (Some x) e) [ inl h ↦ (let same : (Char w, n) ≡ x = cc in ap (λ y. y.1) same, (w, refl)) | inr h ↦ cc ]

byte_same : (n : ℕ) (r s : Option ℕ) (x : Read) → ((w : ℕ) → r ≡ Some w → s ≡ Some w) → byte_read n r ≡ Some x → byte_read n s ≡ Some x
byte_same n None s x h e = cc
byte_same n (Some w) s x h e = rw (h w refl) e

scalar_same : (n : ℕ) (r s : Option ℕ) (x : Read) → ((w : ℕ) → r ≡ Some w → s ≡ Some w) → scalar_read n r ≡ Some x → scalar_read n s ≡ Some x
scalar_same n None s x h e = cc
scalar_same n (Some w) s x h e = rw (h w refl) e

-- an escape: one of a letter, or another
pub simple_is : (o : Option ℕ) (r : Option Read) (x : Read) → simple_or o r ≡ Some x → ((o ≡ None) × (r ≡ Some x)) ⊎ ((b : ℕ) × (o ≡ Some b) × ((Byte b, 1) ≡ x))
simple_is None r x e = inl (refl, e)
simple_is (Some b) r x e = inr (b, refl, cc)

pub escape_within : (cs : List ℕ) (x : Read) → escape_at cs ≡ Some x → x.1 ≤ length cs
unfolding escape_at
escape_within [] x e = cc
escape_within (c ∷ cs) x e =
    elim (chosen (c == 120) _ _ (Some x) e) [
      | inl g ↦ (let is = byte_is 3 (digits_at cs 255 16 2 0) x g.1 in omega (arith, is.0, digits_within cs 255 16 2 0 is.1.0 is.1.1))
      | inr g ↦ elim (chosen (c == 117) _ _ (Some x) g.1) [
        | inl f ↦ (let is = scalar_is 5 (digits_at cs 1114111 16 4 0) x f.1 in omega (arith, is.0, digits_within cs 1114111 16 4 0 is.1.0 is.1.1))
        | inr f ↦ elim (chosen (c == 85) _ _ (Some x) f.1) [
          | inl d ↦ (let is = scalar_is 9 (digits_at cs 1114111 16 8 0) x d.1 in omega (arith, is.0, digits_within cs 1114111 16 8 0 is.1.0 is.1.1))
          | inr d ↦ elim (simple_is (simple_of c) (byte_read 3 (digits_at (c ∷ cs) 255 8 3 0)) x d.1) [
            | inl h ↦ (let is = byte_is 3 (digits_at (c ∷ cs) 255 8 3 0) x h.1 in omega (arith, is.0, digits_within (c ∷ cs) 255 8 3 0 is.1.0 is.1.1))
            | inr h ↦ (let one : 1 ≡ x.1 = ap (λ y. y.1) h.2 in omega arith)
          ]
        ]
      ]
    ]

pub escape_longer : (e rest : List ℕ) (x : Read) → escape_at e ≡ Some x → escape_at (e ++ rest) ≡ Some x
unfolding escape_at
escape_longer [] rest x h = cc
escape_longer (c ∷ e) rest x h =
    elim (chosen (c == 120) _ _ (Some x) h) [
      | inl b ↦ rw b.0 (byte_same 3 (digits_at e 255 16 2 0) (digits_at (e ++ rest) 255 16 2 0) x (λ w g. digits_longer e rest 255 16 2 0 w g) b.1)
      | inr b ↦ elim (chosen (c == 117) _ _ (Some x) b.1) [
        | inl d ↦ rw (b.0, d.0) (scalar_same 5 (digits_at e 1114111 16 4 0) (digits_at (e ++ rest) 1114111 16 4 0) x (λ w g. digits_longer e rest 1114111 16 4 0 w g) d.1)
        | inr d ↦ elim (chosen (c == 85) _ _ (Some x) d.1) [
          | inl f ↦ rw (b.0, d.0, f.0) (scalar_same 9 (digits_at e 1114111 16 8 0) (digits_at (e ++ rest) 1114111 16 8 0) x (λ w g. digits_longer e rest 1114111 16 8 0 w g) f.1)
          | inr f ↦ rw (b.0, d.0, f.0) (or_longer (simple_of c) (digits_at (c ∷ e) 255 8 3 0) (digits_at (c ∷ (e ++ rest)) 255 8 3 0) (λ w g. digits_longer (c ∷ e) rest 255 8 3 0 w g) f.1)
        ]
      ]
    ]
  where
    or_longer : (o r s : Option ℕ) → ((w : ℕ) → r ≡ Some w → s ≡ Some w) → simple_or o (byte_read 3 r) ≡ Some x → simple_or o (byte_read 3 s) ≡ Some x
    or_longer None r s h e = byte_same 3 r s x h e
    or_longer (Some b) r s h e = e

pub escape_shorter : (cs : List ℕ) (x : Read) → escape_at cs ≡ Some x → escape_at (take x.1 cs) ≡ Some x
unfolding escape_at
escape_shorter [] x h = cc
escape_shorter (c ∷ cs) x h =
    let P : ℕ → Type 0 = λ n. escape_at (take n (c ∷ cs)) ≡ Some x in
    elim (chosen (c == 120) _ _ (Some x) h) [
      | inl b ↦ subst P (byte_is 3 (digits_at cs 255 16 2 0) x b.1).0 (rw b.0 (byte_same 3 (digits_at cs 255 16 2 0) (digits_at (take 2 cs) 255 16 2 0) x (λ w g. digits_shorter cs 255 16 2 0 w 2 (omega arith) g) b.1))
      | inr b ↦ elim (chosen (c == 117) _ _ (Some x) b.1) [
        | inl d ↦ subst P (scalar_is 5 (digits_at cs 1114111 16 4 0) x d.1).0 (rw (b.0, d.0) (scalar_same 5 (digits_at cs 1114111 16 4 0) (digits_at (take 4 cs) 1114111 16 4 0) x (λ w g. digits_shorter cs 1114111 16 4 0 w 4 (omega arith) g) d.1))
        | inr d ↦ elim (chosen (c == 85) _ _ (Some x) d.1) [
          | inl f ↦ subst P (scalar_is 9 (digits_at cs 1114111 16 8 0) x f.1).0 (rw (b.0, d.0, f.0) (scalar_same 9 (digits_at cs 1114111 16 8 0) (digits_at (take 8 cs) 1114111 16 8 0) x (λ w g. digits_shorter cs 1114111 16 8 0 w 8 (omega arith) g) f.1))
          | inr f ↦ elim (simple_is (simple_of c) (byte_read 3 (digits_at (c ∷ cs) 255 8 3 0)) x f.1) [
            | inl g ↦ subst P (byte_is 3 (digits_at (c ∷ cs) 255 8 3 0) x g.1).0 (rw (b.0, d.0, f.0) (rw g.0 (byte_same 3 (digits_at (c ∷ cs) 255 8 3 0) (digits_at (c ∷ take 2 cs) 255 8 3 0) x (λ w i. digits_shorter (c ∷ cs) 255 8 3 0 w 3 (omega arith) i) g.1)))
            | inr g ↦ subst P (ap (λ y. y.1) g.2) (rw (b.0, d.0, f.0) (rw g.1 (ap Some g.2)))
          ]
        ]
      ]
    ]
