-- Types under stars.
use Rattle.std.proofs.Common.{◌≡◌, ◌↔◌, ℕ, zero, suc, ◌-◌, ◌<◌, ◌≤◌, Bool, true, false, IsTrue, refl, sym, ap, ◌∙◌, arith}
use Rattle.go_term_core.specs.Terms.{Term, NoType, Predeclared, ErrorType, Defined, PointerTo, StructOf, InterfaceOf}
use Rattle.go_handle_core.specs.deciding.Identity.{identical_by, identical_under_of}
use Rattle.go_handle_core.specs.Stars.{starred, star_count}

-- two tests of one thing
pub same_test : (a b : Bool) (P : Type 0) → (IsTrue a ↔ P) → (IsTrue b ↔ P) → a ≡ b
same_test true b P x y = sym (y.1 (x.0 refl))
same_test false true P x y = x.1 (y.0 refl)
same_test false false P x y = refl

-- what is under stars is a pointer type, and compared as such
pub pointer_left : (tags : Bool) (n : ℕ) (t b u : Term) → 0 < n → b ≡ PointerTo u → identical_by tags (starred (n - 1) t) u ≡ identical_by tags (starred n t) b
pointer_left tags zero t b u l e = absurd (omega (arith, l))
pointer_left tags (suc n) t b u l e =
    let less : suc n - 1 ≡ n = omega arith in
    ap (λ (k : ℕ). identical_by tags (starred k t) u) less ∙ ap (identical_by tags (PointerTo (starred n t))) (sym e)

pub pointer_right : (tags : Bool) (n : ℕ) (t a u : Term) → 0 < n → a ≡ PointerTo u → identical_by tags u (starred (n - 1) t) ≡ identical_by tags a (starred n t)
pointer_right tags zero t a u l e = absurd (omega (arith, l))
pointer_right tags (suc n) t a u l e =
    let less : suc n - 1 ≡ n = omega arith in
    ap (λ (k : ℕ). identical_by tags u (starred k t)) less ∙ ap (λ x. identical_by tags x (PointerTo (starred n t))) (sym e)

-- stars that both have do not count
pub level_right : (tags : Bool) (m n : ℕ) (a b : Term) → m ≤ n → identical_by tags a (starred (n - m) b) ≡ identical_by tags (starred m a) (starred n b)
level_right tags zero n a b l = let same : n - 0 ≡ n = omega arith in ap (λ (k : ℕ). identical_by tags a (starred k b)) same
level_right tags (suc m) zero a b l = absurd (omega (arith, l))
level_right tags (suc m) (suc n) a b l =
    let less : suc n - suc m ≡ n - m = omega arith in
    ap (λ (k : ℕ). identical_by tags a (starred k b)) less ∙ level_right tags m n a b (omega (arith, l))

pub level_left : (tags : Bool) (m n : ℕ) (a b : Term) → n ≤ m → identical_by tags (starred (m - n) a) b ≡ identical_by tags (starred m a) (starred n b)
level_left tags m zero a b l = let same : m - 0 ≡ m = omega arith in ap (λ (k : ℕ). identical_by tags (starred k a) b) same
level_left tags zero (suc n) a b l = absurd (omega (arith, l))
level_left tags (suc m) (suc n) a b l =
    let less : suc m - suc n ≡ m - n = omega arith in
    ap (λ (k : ℕ). identical_by tags (starred k a) b) less ∙ level_left tags m n a b (omega (arith, l))

-- a pointer type is no `error`, and identical to none

pointer_first : (tags : Bool) (t u : Term) → identical_by tags (PointerTo t) u ≡ identical_under_of tags (PointerTo t) u
pointer_first tags t NoType = refl
pointer_first tags t (Predeclared b) = refl
pointer_first tags t ErrorType = refl
pointer_first tags t (Defined k) = refl
pointer_first tags t (PointerTo u) = refl
pointer_first tags t (StructOf path fs) = refl
pointer_first tags t (InterfaceOf path ms) = refl

pointer_last : (tags : Bool) (t u : Term) → identical_by tags u (PointerTo t) ≡ identical_under_of tags u (PointerTo t)
pointer_last tags t NoType = refl
pointer_last tags t (Predeclared b) = refl
pointer_last tags t ErrorType = refl
pointer_last tags t (Defined k) = refl
pointer_last tags t (PointerTo u) = refl
pointer_last tags t (StructOf path fs) = refl
pointer_last tags t (InterfaceOf path ms) = refl

pub starred_first : (tags : Bool) (m : ℕ) (a u : Term) → 0 < m → identical_by tags (starred m a) u ≡ identical_under_of tags (starred m a) u
starred_first tags zero a u l = absurd (omega (arith, l))
starred_first tags (suc m) a u l = pointer_first tags (starred m a) u

pub starred_last : (tags : Bool) (n : ℕ) (t b : Term) → 0 < n → identical_by tags t (starred n b) ≡ identical_under_of tags t (starred n b)
starred_last tags zero t b l = absurd (omega (arith, l))
starred_last tags (suc n) t b l = pointer_last tags (starred n b) t

pub no_stars : (tags : Bool) (m n : ℕ) (a b : Term) → m ≤ 0 → n ≤ 0 → identical_under_of tags a b ≡ identical_under_of tags (starred m a) (starred n b)
no_stars tags zero zero a b k l = refl
no_stars tags zero (suc n) a b k l = absurd (omega (arith, l))
no_stars tags (suc m) n a b k l = absurd (omega (arith, k))

-- they are counted
pub stars_counted : (n : ℕ) (t : Term) → n ≤ star_count (starred n t)
stars_counted zero t = omega arith
stars_counted (suc n) t = let l = stars_counted n t in omega (arith, l)
