-- Marks, and whether there is any.
use Rattle.std.specs.Prelude.{◌≡◌, ℕ, Bool, true, false, List, Some, slice_get}

abbrev pub AreCounted : List Bool → Bool → Type 0
AreCounted marks any = any ≡ false → (n : ℕ) → slice_get marks n ≡ Some true → ⊥
