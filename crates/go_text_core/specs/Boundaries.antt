-- Where a text may be cut.
use Rattle.std.specs.Prelude.{ℕ, Bool, ◌&&◌, ◌||◌, nat_le, nat_lt, List, length, slice_index}

-- a place between two characters of the text, or one of its ends
abbrev pub is_boundary_of : List ℕ → ℕ → Bool
is_boundary_of bytes i =
    nat_le i (length bytes) && (nat_le (length bytes) i || nat_lt (slice_index bytes i) 128 || nat_le 192 (slice_index bytes i))
