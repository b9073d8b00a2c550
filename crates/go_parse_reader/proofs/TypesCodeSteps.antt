-- What fails, and what an option holds, in the words of the program.
use Rattle.std.proofs.Common.{◌≡◌, true, false, Option, Some, None, Result, Err, sym}
use Rattle.std.specs.Prelude.{is_some}
use Rattle.go_parse_reader.specs.declared.types.stop.Stop.{Stop}
use Rattle.go_parse_reader.specs.declared.types.stop.Stop.TheVariants as stop
use Rattle.go_parse_reader.specs.types.mirrors.Giving.{Fails}
use Rattle.go_parse_reader.specs.types.mirrors.Marks.{Stuck, Grammar, TooHigh}

-- what fails with a part of it, fails for the same reason
pub fails_along : {X Y : Type 0} (r : Result X Stuck) (s : Result Y Stuck) (e : Stop) → ((f : Stuck) → r ≡ Err f → s ≡ Err f) → Fails e r → Fails e s
fails_along r s stop.Memory h f = tt
fails_along r s (stop.Grammar at) h f = h Grammar f
fails_along r s (stop.TooHigh at) h f = h TooHigh f

-- a test of what a call returned, as a fact of the option that it shows
pub none_of : {T : Type 0} (o : Option T) (m : Option T) → is_some o ≡ false → o ≡ m → None ≡ m
none_of (Some x) m e is = cc
none_of None m e is = is

pub some_of : {T : Type 0} (o : Option T) (m : Option T) → is_some o ≡ true → o ≡ m → (x : T) × (m ≡ Some x)
some_of (Some x) m e is = (x, sym is)
some_of None m e is = cc
