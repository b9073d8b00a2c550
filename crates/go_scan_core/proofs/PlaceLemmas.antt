-- Where a loop over the rest of a text stands.
use Rattle.std.proofs.Common.{◌≡◌, ℕ, ◌+◌, ◌<◌, ◌≤◌, arith}

-- the rest behind some elements is shorter
pub shorter : (n all back : ℕ) → (0 < n) × (n ≤ all) → back + n ≡ all → back < all
shorter n all back inside is = omega (arith, inside)

-- where a rest begins, and how far it goes
pub place_behind : (at front back rest end : ℕ) → front + back ≡ rest → at + rest ≡ end → at + front + back ≡ end
place_behind at front back rest end parts place = omega arith

pub fits_as : (a b limit : ℕ) → a ≡ b → b < limit → a < limit
fits_as a b limit is fits = omega arith
