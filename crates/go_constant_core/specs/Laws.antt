-- Laws of constants, in integers, lists of bytes and truths.
use Rattle.std.specs.Prelude.{◌≡◌, ℕ, ◌<◌, ◌^◌, ◌⊎◌, ⊤, Bool, true, false, IsTrue, List, [], ◌∷◌, ◌++◌, ℤ, pos, ◌+ℤ◌, ◌-ℤ◌, ◌*ℤ◌, neg_ℤ, ◌<ℤ◌, ◌≤ℤ◌, unsigned_abs, Option, Some, None}
use Rattle.go_token_core.specs.declared.kind.Operator.{Operator}
use Rattle.go_token_core.specs.declared.kind.Operator.TheVariants as operators
use Rattle.go_constant_core.specs.declared.values.Constant.{Constant}
use Rattle.go_constant_core.specs.declared.values.Constant.TheVariants as constants
use Rattle.go_constant_core.specs.Values.{binary, unary}

-- an integer of 64 bits with a sign
abbrev pub IsInRange : ℤ → Type 0
IsInRange z = (neg_ℤ (pos (2 ^ 63)) ≤ℤ z) × (z <ℤ pos (2 ^ 63))

-- the value is this integer where it is in range, and there is none where it is not
pub record IsExactly (value : Option Constant) (z : ℤ) : Type 0 where
  pub inside : IsInRange z → value ≡ Some (constants.Int z)
  pub outside : (IsInRange z → ⊥) → value ≡ None

-- the value is the boolean that says whether this holds
pub record IsTruthOf (value : Option Constant) (P : Type 0) : Type 0 where
  pub holds : P → value ≡ Some (constants.Bool true)
  pub fails : (P → ⊥) → value ≡ Some (constants.Bool false)

abbrev pub SumsAreExact : Type 0
SumsAreExact = (a b : ℤ) → IsExactly (binary operators.Plus (constants.Int a) (constants.Int b)) (a +ℤ b)

abbrev pub DifferencesAreExact : Type 0
DifferencesAreExact = (a b : ℤ) → IsExactly (binary operators.Minus (constants.Int a) (constants.Int b)) (a -ℤ b)

abbrev pub ProductsAreExact : Type 0
ProductsAreExact = (a b : ℤ) → IsExactly (binary operators.Star (constants.Int a) (constants.Int b)) (a *ℤ b)

abbrev pub NegationIsExact : Type 0
NegationIsExact = (a : ℤ) → IsExactly (unary operators.Minus (constants.Int a)) (neg_ℤ a)

-- both below 0, or both above
abbrev pub HaveOneSign : ℤ → ℤ → Type 0
HaveOneSign a b = ((a <ℤ pos 0) × (b <ℤ pos 0)) ⊎ ((pos 0 <ℤ a) × (pos 0 <ℤ b))

-- the quotient and the remainder of a by b: what is left is smaller than b, and is 0 or has the sign of a
pub record IsDivided (a b quotient remainder : ℤ) : Type 0 where
  pub whole : (quotient *ℤ b) +ℤ remainder ≡ a
  pub smaller : unsigned_abs remainder < unsigned_abs b
  pub sign : (remainder ≡ pos 0) ⊎ HaveOneSign a remainder

-- `/` and `%` are the one quotient and the one remainder
pub record Divides (a b : ℤ) : Type 0 where
  pub quotient : ℤ
  pub remainder : ℤ
  pub divided : IsDivided a b quotient remainder
  pub is_quotient : IsExactly (binary operators.Slash (constants.Int a) (constants.Int b)) quotient
  pub is_remainder : IsExactly (binary operators.Percent (constants.Int a) (constants.Int b)) remainder

abbrev pub DivisionTruncates : Type 0
DivisionTruncates = (a b : ℤ) → (b ≡ pos 0 → ⊥) → Divides a b

-- what the six comparisons say, by what it is to be the same and to stand before
pub record Compares (a b : Constant) (Same Before After : Type 0) : Type 0 where
  pub equal : IsTruthOf (binary operators.Equal a b) Same
  pub not_equal : IsTruthOf (binary operators.NotEqual a b) (Same → ⊥)
  pub less : IsTruthOf (binary operators.Less a b) Before
  pub less_equal : IsTruthOf (binary operators.LessEqual a b) (After → ⊥)
  pub greater : IsTruthOf (binary operators.Greater a b) After
  pub greater_equal : IsTruthOf (binary operators.GreaterEqual a b) (Before → ⊥)

-- one text stands before another: it is a first part of it, or its byte is less at the first place where they differ
abbrev pub IsTextBefore : List ℕ → List ℕ → Type 0
IsTextBefore [] [] = ⊥
IsTextBefore [] (y ∷ ys) = ⊤
IsTextBefore (x ∷ xs) [] = ⊥
IsTextBefore (x ∷ xs) (y ∷ ys) = (x < y) ⊎ ((x ≡ y) × IsTextBefore xs ys)

abbrev pub TextsByBytes : Type 0
TextsByBytes = (a b : List ℕ) → Compares (constants.Text a) (constants.Text b) (a ≡ b) (IsTextBefore a b) (IsTextBefore b a)

-- one holds, and the two others do not
abbrev pub IsOneOf : Type 0 → Type 0 → Type 0 → Type 0
IsOneOf P Q R = (P × (Q → ⊥) × (R → ⊥)) ⊎ (((P → ⊥) × Q × (R → ⊥)) ⊎ ((P → ⊥) × (Q → ⊥) × R))

pub record OrdersAreTotal : Type 0 where
  pub ints : (a b : ℤ) → Compares (constants.Int a) (constants.Int b) (a ≡ b) (a <ℤ b) (b <ℤ a)
  pub ints_are_ordered : (a b : ℤ) → IsOneOf (a <ℤ b) (a ≡ b) (b <ℤ a)
  pub texts_are_ordered : (a b : List ℕ) → IsOneOf (IsTextBefore a b) (a ≡ b) (IsTextBefore b a)

abbrev pub TextsAreJoined : Type 0
TextsAreJoined = (a b : List ℕ) → binary operators.Plus (constants.Text a) (constants.Text b) ≡ Some (constants.Text (a ++ b))

pub record TruthTables : Type 0 where
  pub conjunction : (a b : Bool) → IsTruthOf (binary operators.LogicalAnd (constants.Bool a) (constants.Bool b)) (IsTrue a × IsTrue b)
  pub disjunction : (a b : Bool) → IsTruthOf (binary operators.LogicalOr (constants.Bool a) (constants.Bool b)) (IsTrue a ⊎ IsTrue b)
  pub negation : (a : Bool) → IsTruthOf (unary operators.Not (constants.Bool a)) (IsTrue a → ⊥)
  pub equal : (a b : Bool) → IsTruthOf (binary operators.Equal (constants.Bool a) (constants.Bool b)) (a ≡ b)
  pub not_equal : (a b : Bool) → IsTruthOf (binary operators.NotEqual (constants.Bool a) (constants.Bool b)) (a ≡ b → ⊥)

-- an operand whose value is not known makes the whole unknown
pub record UnknownStaysUnknown : Type 0 where
  pub left : (op : Operator) (b : Constant) → binary op constants.Unknown b ≡ Some constants.Unknown
  pub right : (op : Operator) (a : Constant) → binary op a constants.Unknown ≡ Some constants.Unknown
  pub alone : (op : Operator) → unary op constants.Unknown ≡ Some constants.Unknown
