-- What is added to a list, one for one of another.
use Rattle.std.specs.Prelude.{◌≡◌, List, ◌++◌}
use Rattle.std.specs.List.{AllZip}

-- behind what was there stands one for each of these
pub record Adds {A B : Type 0} (R : A → B → Type 0) (xs : List A) (old new : List B) : Type 0 where
  pub more : List B
  pub is : new ≡ old ++ more
  pub each : AllZip R xs more
