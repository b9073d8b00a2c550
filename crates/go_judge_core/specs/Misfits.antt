-- The first value that does not fit.
--
-- The Go specification, "Assignability", "Calls".
use Rattle.std.specs.Prelude.{◌≡◌, ◌<◌, ℕ, Bool, true, false, List, Option, Some, None, slice_get}
use Rattle.std.specs.Borrow.{Bor}
use Rattle.go_stmt_core.specs.operand_core.TypeRules.{TypeRules}
use Rattle.go_stmt_core.specs.denote_core.Arguments.{fits_type}
use Rattle.go_stmt_core.specs.denote_core.declared.things.Argument.{Argument}
use Rattle.go_stmt_core.specs.denote_core.declared.things.Argument.TheVariants as arguments
use Rattle.go_stmt_core.specs.operand_core.declared.types.ValueType.TheVariants as value_types
use Rattle.go_term_core.specs.Terms.{Term}
use Rattle.go_term_core.specs.Shapes.{shape}
use Rattle.go_term_core.specs.declared.term.TypeTerm.{TypeTerm}
use Rattle.go_env_core.specs.declared_core.Faces.{operand_shown}
use Rattle.go_judge_core.specs.declared.fitting.Given.{Given}
use Rattle.go_judge_core.specs.declared.fitting.Given.TheVariants as givens

-- a value where a type is wanted; where one of the two is not known nothing is amiss
abbrev pub fits_there : {T : Type 0} → TypeRules T → Option (Argument T) → Option (Option T) → Bool
fits_there rules (Some v) (Some (Some t)) = fits_type rules t v
fits_there rules (Some v) (Some None) = true
fits_there rules (Some v) None = true
fits_there rules None wanted = true

-- the value of a number, where the type of this number is wanted
abbrev pub fits_number : {T : Type 0} → TypeRules T → List (Argument T) → List (Option T) → ℕ → Bool
fits_number rules values wanted n = fits_there rules (slice_get values n) (slice_get wanted n)

-- the number of the first value that does not fit: those in front of it do; none where all do
abbrev pub IsFirstMisfit : {T : Type 0} → TypeRules T → List (Argument T) → List (Option T) → Option ℕ → Type 0
IsFirstMisfit rules values wanted None = (n : ℕ) → fits_number rules values wanted n ≡ true
IsFirstMisfit rules values wanted (Some k) = (fits_number rules values wanted k ≡ false) × ((n : ℕ) → n < k → fits_number rules values wanted n ≡ true)

-- a value that is given, where one is wanted: of a result of a call its type is known alone
abbrev pub given_shown : Given → Argument Term
given_shown (givens.«Value» o) = arguments.«Value» (operand_shown o.now)
given_shown (givens.«Result» t) = arguments.«Value» (record { value_type = value_types.Typed (shape t.now); constant = None; addressable = false })
given_shown givens.Unknown = arguments.Refused

-- a type that is wanted, where one is
abbrev pub wanted_shown : Option (Bor TypeTerm) → Option Term
wanted_shown None = None
wanted_shown (Some t) = Some (shape t.now)
