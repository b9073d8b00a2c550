-- Which occurrence covers a place.
use Rattle.std.proofs.Common.{◌≡◌, ℕ, zero, suc, ◌+◌, ◌^◌, ◌<◌, ◌≤◌, Bool, true, false, List, [], ◌∷◌, length, get_or, Some, None, refl, sym, ap, ◌∙◌, arith, cond, if◌then◌else◌}
use Rattle.std.specs.List.{fold, position_from}
use Rattle.std.proofs.lemmas.Bool.Decides.{nat_tests}
use Rattle.std.proofs.lemmas.Iterator.Adapters.{position_from-zero}
use Rattle.std.proofs.lemmas.List.Quantifiers.{position-Some}
use Rattle.go_tree_core.specs.declared.occurrence.Occ.{Occ}
use Rattle.go_tree_core.specs.declared.seek.Sought.{Sought}
use Rattle.go_tree_core.specs.declared.seek.Sought.TheVariants.{Found, Passed}
use Rattle.go_tree_core.specs.Occurrences.{covers, covering, Covers, CoversAt, NoneCovers, Follow}
use Rattle.go_tree_core.specs.mirrors.Seeking.{counted, sought_next}

covers-true : (offset : ℕ) (o : Occ) → covers offset o ≡ true → Covers offset o
covers-true offset o h = grind (arith, nat_tests)

covers-false : (offset : ℕ) (o : Occ) → covers offset o ≡ false → ¬ Covers offset o
covers-false offset o h = λ both. grind (arith, nat_tests)

-- the search by its steps
abbrev pub seek : ℕ → ℕ → List Occ → Sought
seek offset p [] = Passed p
seek offset p (o ∷ os) = if covers offset o then Found p else seek offset (counted p) os

found_stays : (offset n : ℕ) (os : List Occ) → fold (sought_next offset) (Found n) os ≡ Found n
found_stays offset n [] = refl
found_stays offset n (o ∷ os) = found_stays offset n os

fold_is : (offset p : ℕ) (os : List Occ) → fold (sought_next offset) (Passed p) os ≡ seek offset p os
fold_is offset p [] = refl
fold_is offset p (o ∷ os) = by (covers offset o) (fold_is offset (counted p) os)
  where
    by : (b : Bool) → fold (sought_next offset) (Passed (counted p)) os ≡ seek offset (counted p) os → fold (sought_next offset) (if b then Found p else Passed (counted p)) os ≡ (if b then Found p else seek offset (counted p) os)
    by true rest = found_stays offset p os
    by false rest = rest

pub seek_is : (offset : ℕ) (os : List Occ) (s : Sought) → s ≡ fold (sought_next offset) (Passed 0) os → seek offset 0 os ≡ s
seek_is offset os s e = sym (e ∙ fold_is offset 0 os)

-- the search finds the first
found_at : (offset p n : ℕ) (os : List Occ) → p + length os < 2 ^ 64 → seek offset p os ≡ Found n → position_from (covers offset) p os ≡ Some n
found_at offset p n [] h e = cc
found_at offset p n (o ∷ os) h e = by (covers offset o) e (λ next. found_at offset (p + 1) n os (omega arith) (ap (λ k. seek offset k os) (sym one_more) ∙ next))
  where
    one_more : counted p ≡ p + 1
    one_more = omega arith

    by : (b : Bool) → (if b then Found p else seek offset (counted p) os) ≡ Found n → (seek offset (counted p) os ≡ Found n → position_from (covers offset) (p + 1) os ≡ Some n) → cond b (Some p) (position_from (covers offset) (p + 1) os) ≡ Some n
    by true e rest = cc
    by false e rest = rest e

passed_all : (offset p q : ℕ) (os : List Occ) → seek offset p os ≡ Passed q → (m : ℕ) → position_from (covers offset) m os ≡ None
passed_all offset p q [] e m = refl
passed_all offset p q (o ∷ os) e m = by (covers offset o) e (λ next. passed_all offset (counted p) q os next (m + 1))
  where
    by : (b : Bool) → (if b then Found p else seek offset (counted p) os) ≡ Passed q → (seek offset (counted p) os ≡ Passed q → position_from (covers offset) (m + 1) os ≡ None) → cond b (Some m) (position_from (covers offset) (m + 1) os) ≡ None
    by true e rest = cc
    by false e rest = rest e

pub found_value : (offset n : ℕ) (os : List Occ) → length os < 2 ^ 64 → seek offset 0 os ≡ Found n → covering offset os ≡ Some n
found_value offset n os h e = position_from-zero (covers offset) os ∙ found_at offset 0 n os (omega arith) e

pub passed_value : (offset q : ℕ) (os : List Occ) → seek offset 0 os ≡ Passed q → covering offset os ≡ None
passed_value offset q os e = position_from-zero (covers offset) os ∙ passed_all offset 0 q os e 0

-- the one that is found covers the place
pub covering_covers : (offset n : ℕ) (os : List Occ) → covering offset os ≡ Some n → CoversAt offset os n
covering_covers offset n [] e = cc
covering_covers offset n (o ∷ os) e =
    let at = position-Some (covers offset) (o ∷ os) n in
    ((at o e).0, λ d. covers-true offset (get_or (o ∷ os) n d) (at d e).1)

-- where none is found, none covers it
pub none_covers : (offset p q : ℕ) (os : List Occ) → seek offset p os ≡ Passed q → NoneCovers offset os
none_covers offset p q [] e k d h = absurd (omega arith)
none_covers offset p q (o ∷ os) e k d h = by (covers offset o) refl e (λ next. none_covers offset (counted p) q os next) k h
  where
    by : (b : Bool) → covers offset o ≡ b → (if b then Found p else seek offset (counted p) os) ≡ Passed q → (seek offset (counted p) os ≡ Passed q → NoneCovers offset os) → (k : ℕ) → k < length (o ∷ os) → ¬ Covers offset (get_or (o ∷ os) k d)
    by true is e rest k h = cc
    by false is e rest zero h = covers-false offset o is
    by false is e rest (suc k) h = rest e k d (omega arith)

-- those that follow one another stand behind the first
follow_behind : (low high i : ℕ) (os : List Occ) (d : Occ) → Follow low os high → i < length os → low ≤ (get_or os i d).span.start
follow_behind low high i [] d f h = absurd (omega arith)
follow_behind low high zero (o ∷ os) d f h = f.0
follow_behind low high (suc i) (o ∷ os) d f h = let rest = follow_behind o.span.end high i os d f.2 (omega arith) in omega (arith, f.0, f.1)

-- where the occurrences follow one another, one at most covers a place
follow_only : (offset low high n i : ℕ) (os : List Occ) → Follow low os high → CoversAt offset os n → CoversAt offset os i → n ≡ i
follow_only offset low high n i [] f a b = absurd (omega arith)
follow_only offset low high zero zero (o ∷ os) f a b = refl
follow_only offset low high zero (suc i) (o ∷ os) f a b =
    let later = follow_behind o.span.end high i os o f.2 (omega arith) in
    let first = a.1 o in
    let second = b.1 o in
    absurd (omega arith)
follow_only offset low high (suc n) zero (o ∷ os) f a b =
    let later = follow_behind o.span.end high n os o f.2 (omega arith) in
    let first = a.1 o in
    let second = b.1 o in
    absurd (omega arith)
follow_only offset low high (suc n) (suc i) (o ∷ os) f a b =
    ap suc (follow_only offset o.span.end high n i os f.2 (omega arith, a.1) (omega arith, b.1))

pub only_found : (offset high n i : ℕ) (os : List Occ) → covering offset os ≡ Some n → Follow 0 os high → CoversAt offset os i → n ≡ i
only_found offset high n i os e f b = follow_only offset 0 high n i os f (covering_covers offset n os e) b

pub only_none : (offset p q i : ℕ) (os : List Occ) → seek offset p os ≡ Passed q → ¬ CoversAt offset os i
only_none offset p q i [] e = λ b. absurd (omega arith)
only_none offset p q i (o ∷ os) e = λ b. none_covers offset p q (o ∷ os) e i o b.0 (b.1 o)
