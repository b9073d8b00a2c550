-- What reads take from a reader and add to an input.
use Rattle.std.specs.Prelude.{◌≡◌, ◌≢◌, ◌≤◌, ◌++◌, ℕ, Bool, false, List, [], length, Option}
use Rattle.std.specs.Io.KnownBytes.{Consumes, IsAtEnd}
use Rattle.std.specs.declared.io.ErrorKind.TheVariants.{Interrupted}
use Rattle.govisd_resolve.specs.declared.input.InputFault.{InputFault}
use Rattle.govisd_resolve.specs.declared.input.InputFault.TheVariants.{Reader, Memory}

-- at most so many of the first bytes were read, and those behind them remain
abbrev pub ReadsUpTo : ℕ → Option (List ℕ) → Option (List ℕ) → Type 0
ReadsUpTo most given left = (bytes : List ℕ) × Consumes given left bytes × (length bytes ≤ most)

-- the bytes that a read gave went behind those that were there, and none came only at the end
abbrev pub ReadsBehind : Option (List ℕ) → Option (List ℕ) → List ℕ → List ℕ → ℕ → Bool → Type 0
ReadsBehind given left before after room more =
    (bytes : List ℕ) × Consumes given left bytes × (after ≡ before ++ bytes) × (length bytes ≤ room) × (more ≡ false → (bytes ≡ []) × IsAtEnd left)

-- a read that was interrupted is no fault
abbrev pub IsUninterrupted : InputFault → Type 0
IsUninterrupted (Reader kind) = kind ≢ Interrupted
IsUninterrupted Memory = Unit {0}
