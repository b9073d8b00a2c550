-- Items that stay.
use Rattle.std.specs.Prelude.{◌≡◌, ℕ, List, Bool, true, Some, slice_get}

-- where marked, the item of a number is that of this number in the earlier list
module _ {X : Type 0} where
  abbrev pub StaysWhere : List X → List X → List Bool → Type 0
  StaysWhere earlier now same = (n : ℕ) → slice_get same n ≡ Some true → (a b : X) → slice_get earlier n ≡ Some a → slice_get now n ≡ Some b → a ≡ b
