-- Sets of numbers as words of 64 bits.
use Rattle.std.specs.Prelude.{◌≡◌, ◌≤◌, ◌+◌, ◌/◌, ◌%◌, ◌==◌, ℕ, Bool, false, List, length, filter, slice_index_or}
use Rattle.std.specs.Int.{bit_at}
use Rattle.std.specs.List.{range_with_len}
use Rattle.go_digraph_core.specs.reach.Numbers.{Numbers}

-- whether words have the bit of a number, 64 numbers to a word
abbrev pub has_bit : List ℕ → ℕ → Bool
has_bit words k = bit_at (slice_index_or words (k / 64) 0) (k % 64) == 1

-- the set of the numbers below a bound whose bits words have
abbrev pub numbers_of : ℕ → List ℕ → Numbers
numbers_of bound words = record { bound = bound; members = filter (has_bit words) (range_with_len 0 bound) }

-- there are words for all numbers below the bound, and they have the bit of no other number
pub record AreWords (bound : ℕ) (words : List ℕ) : Type 0 where
  pub len : length words ≡ bound / 64 + 1
  pub rest : (k : ℕ) → bound ≤ k → has_bit words k ≡ false
