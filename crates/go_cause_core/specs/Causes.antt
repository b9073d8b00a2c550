-- Which faults follow from which.
use Rattle.std.specs.Prelude.{◌≡◌, ◌≢◌, ◌<◌, ℕ, Bool, false, IsTrue, List, Option, Some, None, Contains, length, slice_get, nat_eq, if◌then◌else◌}
use Rattle.go_digraph_core.specs.chain.Laws.{counted_end}
use Rattle.go_snap_core.specs.declared.fault.PlacedFault.{PlacedFault}
use Rattle.go_cause_core.specs.Pairs.{may_follow}
use Rattle.go_cause_core.specs.declared.cause.Cause.{Cause}
use Rattle.go_cause_core.specs.declared.cause.Cause.TheVariants.{Root, Follows}

-- what stands at the fault of a number whose chain of causes ends there: it follows where the end is another fault
abbrev pub cause_at : ℕ → Option ℕ → Cause
cause_at number None = Root
cause_at number (Some root) = if nat_eq root number then Root else Follows root

-- a fault follows just where its chain of direct causes ends at another fault, and its root is that end
pub record AreRoots (direct : List (Option ℕ)) (causes : List Cause) : Type 0 where
  pub as_many : length causes ≡ length direct
  pub each : (i : ℕ) → i < length direct → slice_get causes i ≡ Some (cause_at i (counted_end (length direct) direct i))

-- each that follows names another that follows from none; and where there is a fault, one follows from none
pub record HaveRoots (causes : List Cause) : Type 0 where
  pub named : (i root : ℕ) → slice_get causes i ≡ Some (Follows root) → (root ≢ i) × (slice_get causes root ≡ Some Root)
  pub never_silent : 0 < length causes → Contains causes Root

-- both faults are there, and the rules allow that the one follows from the other
abbrev pub fits : Option PlacedFault → Option PlacedFault → Bool
fits None follower = false
fits (Some cause) None = false
fits (Some cause) (Some follower) = may_follow cause.rule follower.rule

-- the fault of a number may follow directly from that of another
abbrev pub IsDirect : List PlacedFault → ℕ → ℕ → Type 0
IsDirect faults number cause = (cause ≢ number) × IsTrue (fits (slice_get faults cause) (slice_get faults number))

-- of each fault what it follows from directly: another fault, of a rule from which its own may follow
pub record AreDirect (faults : List PlacedFault) (direct : List (Option ℕ)) : Type 0 where
  pub as_many : length direct ≡ length faults
  pub each : (number cause : ℕ) → slice_get direct number ≡ Some (Some cause) → IsDirect faults number cause

-- where each fault stands, by what each follows from directly; each that follows names another that follows from none, and where there is a fault, one
-- follows from none
pub record AreCauses (faults : List PlacedFault) (causes : List Cause) : Type 0 where
  pub as_many : length causes ≡ length faults
  pub direct : List (Option ℕ)
  pub allowed : AreDirect faults direct
  pub exact : AreRoots direct causes
  pub named : (i root : ℕ) → slice_get causes i ≡ Some (Follows root) → (root ≢ i) × (slice_get causes root ≡ Some Root)
  pub never_silent : 0 < length faults → Contains causes Root
