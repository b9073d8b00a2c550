-- The laws of constants.
use Rattle.std.proofs.Common.{◌≡◌, ℕ, suc, ◌<◌, ◌⊎◌, Bool, true, false, IsTrue, not, ◌&&◌, ◌||◌, List, [], ◌∷◌, ℤ, pos, negsuc, ◌<ℤ◌, neg_ℤ, int_div, int_rem, unsigned_abs, Some, None, if◌then◌else◌, ◌%◌, refl, sym, ap, subst, inl, inr, arith}
use Rattle.std.specs.Bool.{Decides}
use Rattle.std.proofs.Math.Nat.{mod-le}
use Rattle.std.proofs.lemmas.Bool.{cases_order}
use Rattle.std.proofs.lemmas.Bool.Decides.{Decides-not, Decides-and, Decides-or}
use Rattle.std.proofs.lemmas.Int.{ints, by_lt_z, quot-rem, rem_below}
use Rattle.go_token_core.specs.declared.kind.Operator.TheVariants as operators
use Rattle.go_constant_core.specs.declared.values.Constant.{Constant}
use Rattle.go_constant_core.specs.declared.values.Constant.TheVariants as constants
use Rattle.go_constant_core.specs.Values.{fits_64_bits, ranged, divided, int_same, binary, unary}
use Rattle.go_constant_core.specs.Laws.{IsExactly, IsTruthOf, IsTextBefore, IsOneOf, HaveOneSign, Divides, Compares}
use Rattle.go_constant_core.proofs.Tests.{fits_tells, same_tells, less_tells, text_same_tells, before_tells, bool_same_tells}

refuted : {P : Type 0} (r : Bool) → Decides r P → (P → ⊥) → r ≡ false
refuted true d never = absurd (never (d.0 refl))
refuted false d never = refl

pub exactly : (z : ℤ) → IsExactly (ranged z) z
exactly z = record {
  inside = λ p. subst (λ (b : Bool). (if b then Some (constants.Int z) else None) ≡ Some (constants.Int z)) (sym ((fits_tells z).1 p)) refl;
  outside = λ never. subst (λ (b : Bool). (if b then Some (constants.Int z) else None) ≡ None) (sym (refuted (fits_64_bits z) (fits_tells z) never)) refl;
}

-- a division by what is not 0
over : (f : ℤ → ℤ → ℤ) (a b : ℤ) → (b ≡ pos 0 → ⊥) → IsExactly (divided f a b) (f a b)
over f a b apart =
    subst (λ (zero : Bool). IsExactly (if zero then Some constants.Unknown else ranged (f a b)) (f a b))
    (sym (refuted (int_same b (pos 0)) (same_tells b (pos 0)) apart))
    (exactly (f a b))

not_small : (b : ℤ) → (b ≡ pos 0 → ⊥) → 0 < unsigned_abs b
not_small (pos n) apart = by_order (cases_order 0 n)
  where
    by_order : ((0 ≡ n) ⊎ ((0 < n) ⊎ (n < 0))) → 0 < n
    by_order (inl e) = absurd (apart (ap pos (sym e)))
    by_order (inr (inl h)) = h
    by_order (inr (inr h)) = absurd (omega arith)
not_small (negsuc n) apart = omega arith

above : (k : ℕ) → (pos k ≡ pos 0) ⊎ (pos 0 <ℤ pos k)
above k = by_order (cases_order 0 k)
  where
    by_order : ((0 ≡ k) ⊎ ((0 < k) ⊎ (k < 0))) → (pos k ≡ pos 0) ⊎ (pos 0 <ℤ pos k)
    by_order (inl e) = inl (ap pos (sym e))
    by_order (inr (inl h)) = inr (omega (arith, ints))
    by_order (inr (inr h)) = absurd (omega arith)

below : (k : ℕ) → (neg_ℤ (pos k) ≡ pos 0) ⊎ (neg_ℤ (pos k) <ℤ pos 0)
below k = by_order (cases_order 0 k)
  where
    by_order : ((0 ≡ k) ⊎ ((0 < k) ⊎ (k < 0))) → (neg_ℤ (pos k) ≡ pos 0) ⊎ (neg_ℤ (pos k) <ℤ pos 0)
    by_order (inl e) = inl (omega (arith, ints))
    by_order (inr (inl h)) = inr (omega (arith, ints))
    by_order (inr (inr h)) = absurd (omega arith)

-- a remainder that is not 0 leaves a dividend that is not 0
signed : (a b : ℤ) → (int_rem a b ≡ pos 0) ⊎ HaveOneSign a (int_rem a b)
signed (pos m) b = by_rest (above (m % unsigned_abs b))
  where
    by_rest : ((pos (m % unsigned_abs b) ≡ pos 0) ⊎ (pos 0 <ℤ pos (m % unsigned_abs b))) → (int_rem (pos m) b ≡ pos 0) ⊎ HaveOneSign (pos m) (int_rem (pos m) b)
    by_rest (inl e) = inl e
    by_rest (inr h) = let least = mod-le m (unsigned_abs b) in inr (inr (omega (arith, ints), h))
signed (negsuc m) b = by_rest (below (suc m % unsigned_abs b))
  where
    by_rest : ((neg_ℤ (pos (suc m % unsigned_abs b)) ≡ pos 0) ⊎ (neg_ℤ (pos (suc m % unsigned_abs b)) <ℤ pos 0)) → (int_rem (negsuc m) b ≡ pos 0) ⊎ HaveOneSign (negsuc m) (int_rem (negsuc m) b)
    by_rest (inl e) = inl e
    by_rest (inr h) = inr (inl (omega (arith, ints), h))

pub divides : (a b : ℤ) → (b ≡ pos 0 → ⊥) → Divides a b
divides a b apart = record {
  quotient = int_div a b;
  remainder = int_rem a b;
  divided = record { whole = quot-rem a b; smaller = rem_below a b (not_small b apart); sign = signed a b };
  is_quotient = over int_div a b apart;
  is_remainder = over int_rem a b apart;
}

truth : {P : Type 0} (r : Bool) → Decides r P → IsTruthOf (Some (constants.Bool r)) P
truth r d = record {
  holds = λ p. ap (λ (b : Bool). Some (constants.Bool b)) (d.1 p);
  fails = λ never. ap (λ (b : Bool). Some (constants.Bool b)) (refuted r d never);
}

pub ints_compare : (a b : ℤ) → Compares (constants.Int a) (constants.Int b) (a ≡ b) (a <ℤ b) (b <ℤ a)
ints_compare a b = record {
  equal = truth _ (same_tells a b);
  not_equal = truth _ (Decides-not _ (same_tells a b));
  less = truth _ (less_tells a b);
  less_equal = truth _ (Decides-not _ (less_tells b a));
  greater = truth _ (less_tells b a);
  greater_equal = truth _ (Decides-not _ (less_tells a b));
}

pub texts_compare : (a b : List ℕ) → Compares (constants.Text a) (constants.Text b) (a ≡ b) (IsTextBefore a b) (IsTextBefore b a)
texts_compare a b = record {
  equal = truth _ (text_same_tells a b);
  not_equal = truth _ (Decides-not _ (text_same_tells a b));
  less = truth _ (before_tells a b);
  less_equal = truth _ (Decides-not _ (before_tells b a));
  greater = truth _ (before_tells b a);
  greater_equal = truth _ (Decides-not _ (before_tells a b));
}

pub one_int : (a b : ℤ) → IsOneOf (a <ℤ b) (a ≡ b) (b <ℤ a)
one_int a b =
    by_lt_z a b
    (λ lt. inl (lt, (λ e. absurd (omega (arith, ints))), (λ gt. absurd (omega (arith, ints)))))
    (λ ge. by_lt_z b a
    (λ gt. inr (inr ((λ lt. absurd (omega (arith, ints))), (λ e. absurd (omega (arith, ints))), gt)))
    (λ le. let same : a ≡ b = omega (arith, ints) in
    inr (inl ((λ lt. absurd (omega (arith, ints))), same, (λ gt. absurd (omega (arith, ints)))))))

pub one_text : (a b : List ℕ) → IsOneOf (IsTextBefore a b) (a ≡ b) (IsTextBefore b a)
one_text [] [] = inr (inl ((λ h. h), refl, (λ h. h)))
one_text [] (y ∷ ys) = inl (tt, (λ e. absurd cc), (λ h. h))
one_text (x ∷ xs) [] = inr (inr ((λ h. h), (λ e. absurd cc), tt))
one_text (x ∷ xs) (y ∷ ys) = by_order (cases_order x y) (one_text xs ys)
  where
    below_head : x < y → ((y < x) ⊎ ((y ≡ x) × IsTextBefore ys xs)) → ⊥
    below_head lt (inl gt) = omega arith
    below_head lt (inr p) = let e : y ≡ x = p.0 in omega arith

    above_head : y < x → ((x < y) ⊎ ((x ≡ y) × IsTextBefore xs ys)) → ⊥
    above_head gt (inl lt) = omega arith
    above_head gt (inr p) = let e : x ≡ y = p.0 in omega arith

    behind : x ≡ y → (IsTextBefore xs ys → ⊥) → ((x < y) ⊎ ((x ≡ y) × IsTextBefore xs ys)) → ⊥
    behind same never (inl lt) = omega arith
    behind same never (inr p) = never p.1

    before : x ≡ y → (IsTextBefore ys xs → ⊥) → ((y < x) ⊎ ((y ≡ x) × IsTextBefore ys xs)) → ⊥
    before same never (inl gt) = omega arith
    before same never (inr p) = never p.1

    by_order : ((x ≡ y) ⊎ ((x < y) ⊎ (y < x))) → IsOneOf (IsTextBefore xs ys) (xs ≡ ys) (IsTextBefore ys xs)
        → IsOneOf ((x < y) ⊎ ((x ≡ y) × IsTextBefore xs ys)) (x ∷ xs ≡ y ∷ ys) ((y < x) ⊎ ((y ≡ x) × IsTextBefore ys xs))
    by_order (inl same) (inl p) = inl (inr (same, p.0), (λ e. p.1 cc), before same p.2)
    by_order (inl same) (inr (inl p)) = let e : xs ≡ ys = p.1 in inr (inl (behind same p.0, cc, before same p.2))
    by_order (inl same) (inr (inr p)) = inr (inr (behind same p.0, (λ e. p.1 cc), inr (sym same, p.2)))
    by_order (inr (inl lt)) rest = inl (inl lt, (λ e. let same : x ≡ y = cc in absurd (omega arith)), below_head lt)
    by_order (inr (inr gt)) rest = inr (inr (above_head gt, (λ e. let same : x ≡ y = cc in absurd (omega arith)), inl gt))

is_itself : (a : Bool) → Decides a (IsTrue a)
is_itself true = ((λ h. h), (λ h. h))
is_itself false = ((λ h. h), (λ h. h))

pub both : (a b : Bool) → IsTruthOf (binary operators.LogicalAnd (constants.Bool a) (constants.Bool b)) (IsTrue a × IsTrue b)
both a b = truth (a && b) (Decides-and a b (is_itself a) (is_itself b))

pub either : (a b : Bool) → IsTruthOf (binary operators.LogicalOr (constants.Bool a) (constants.Bool b)) (IsTrue a ⊎ IsTrue b)
either a b = truth (a || b) (Decides-or a b (is_itself a) (is_itself b))

pub neither : (a : Bool) → IsTruthOf (unary operators.Not (constants.Bool a)) (IsTrue a → ⊥)
neither a = truth (not a) (Decides-not a (is_itself a))

pub bools_same : (a b : Bool) → IsTruthOf (binary operators.Equal (constants.Bool a) (constants.Bool b)) (a ≡ b)
bools_same a b = truth _ (bool_same_tells a b)

pub bools_apart : (a b : Bool) → IsTruthOf (binary operators.NotEqual (constants.Bool a) (constants.Bool b)) (a ≡ b → ⊥)
bools_apart a b = truth _ (Decides-not _ (bool_same_tells a b))

pub unknown_right : (op : _) (a : Constant) → binary op a constants.Unknown ≡ Some constants.Unknown
unknown_right op constants.Unknown = refl
unknown_right op (constants.Int z) = refl
unknown_right op (constants.Bool b) = refl
unknown_right op (constants.Text t) = refl
