-- Sets of numbers below a bound.
use Rattle.std.specs.Prelude.{ℕ, List, []}

-- a set: a bound, and the numbers in it, all below the bound and in rising order
pub record Numbers : Type 0 where
  pub bound : ℕ
  pub members : List ℕ

-- the set without a number
abbrev pub no_numbers : ℕ → Numbers
no_numbers bound = record { bound = bound; members = [] }
