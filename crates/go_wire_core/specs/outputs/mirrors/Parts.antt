-- What one write does.
use Rattle.std.specs.Prelude.{◌≢◌, ◌≤◌, ℕ, List, length, take, Option, Result, Ok, Err}
use Rattle.std.specs.Io.KnownBytes.{Appends, Keeps}
use Rattle.std.specs.declared.io.ErrorKind.{ErrorKind}
use Rattle.std.specs.declared.io.ErrorKind.TheVariants.{Interrupted}

-- one write took as many of the first bytes as it says, or it failed for good and took none
abbrev pub IsPartWritten : Option (List ℕ) → Option (List ℕ) → List ℕ → Result ℕ ErrorKind → Type 0
IsPartWritten old new bytes (Ok count) = (count ≤ length bytes) × Appends old new (take count bytes)
IsPartWritten old new bytes (Err kind) = (kind ≢ Interrupted) × Keeps old new
