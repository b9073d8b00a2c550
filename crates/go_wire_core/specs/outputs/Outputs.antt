-- What is written to an output.
use Rattle.std.specs.Prelude.{◌≢◌, ◌<◌, ℕ, List, length, take, Option, Result, Ok, Err}
use Rattle.std.specs.Io.KnownBytes.{Appends, Keeps}
use Rattle.std.specs.declared.io.ErrorKind.{ErrorKind}
use Rattle.std.specs.declared.io.ErrorKind.TheVariants.{Interrupted}

-- only some of the first bytes went out, and not all
abbrev pub IsCutShort : Option (List ℕ) → Option (List ℕ) → List ℕ → Type 0
IsCutShort old new bytes = (count : ℕ) × (count < length bytes) × Appends old new (take count bytes)

-- all bytes went out, or a write failed for good before the last did
abbrev pub IsWrittenOut : {A : Type 0} → Option (List ℕ) → Option (List ℕ) → List ℕ → Result A ErrorKind → Type 0
IsWrittenOut old new bytes (Ok done) = Appends old new bytes
IsWrittenOut old new bytes (Err kind) = (kind ≢ Interrupted) × IsCutShort old new bytes

-- nothing more went out; a flush that failed did for good
abbrev pub IsFlushed : {A : Type 0} → Option (List ℕ) → Option (List ℕ) → Result A ErrorKind → Type 0
IsFlushed old new (Ok done) = Keeps old new
IsFlushed old new (Err kind) = (kind ≢ Interrupted) × Keeps old new
