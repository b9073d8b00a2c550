-- What refuses an open and a build.
use Rattle.std.specs.Prelude.{◌≡◌, ◌⊎◌, ℕ, Bool, List, [], ◌∷◌, Contains, Option, Some}
use Rattle.go_path_core.specs.text_core.declared.rule.Rule.{Rule}
use Rattle.go_path_core.specs.text_core.declared.rule.Rule.TheVariants.{E1, H1, H2, M0, O1, O3, O4, O5}
use Rattle.go_hall_core.specs.sched_core.Service.{Service, empty, open_rule, submit_rule}
use Rattle.go_hall_core.specs.sched_core.Steps.{Replay}
use Rattle.go_hall_core.specs.sched_core.declared.event.Event.{Event}
use Rattle.go_hall_core.specs.sched_core.declared.event.SessionId.{SessionId}
use Rattle.go_hall_core.specs.submit_core.Trees.{TreeModel}
use Rattle.go_hall_core.specs.Kept.{hall_rule}

-- the rules by which an open is refused, want of memory among them
abbrev pub open_rules : List Rule
open_rules = O1 ∷ O3 ∷ O4 ∷ H1 ∷ H2 ∷ M0 ∷ []

-- the rules by which a build is refused, want of memory among them
abbrev pub build_rules : List Rule
build_rules = O5 ∷ E1 ∷ H1 ∷ H2 ∷ M0 ∷ []

-- in some state of a hall, running or stopped, to which the events in its history lead, this is the first rule that is broken
pub record IsBrokenSomewhere (broken : Service → Option Rule) (rule : Rule) : Type 0 where
  pub history : List Event
  pub service : Service
  pub replays : Replay empty history service
  pub stopped : Bool
  pub first : hall_rule stopped (broken service) ≡ Some rule

-- what refuses an open of the module: want of memory, or the first rule that it breaks in some state
abbrev pub IsOpenRefusal : List ℕ → Rule → Type 0
IsOpenRefusal own rule = (rule ≡ M0) ⊎ IsBrokenSomewhere (λ s. open_rule s own) rule

-- the same of a submission of the tree by the session
abbrev pub IsSubmitRefusal : SessionId → TreeModel → Rule → Type 0
IsSubmitRefusal id tree rule = (rule ≡ M0) ⊎ IsBrokenSomewhere (λ s. submit_rule s id tree) rule

-- what refuses a build of the draft by the session: what refuses its submission; or while it waits the hall is stopped, or its batch given back, which
-- is want of memory
abbrev pub IsBuildRefusal : SessionId → TreeModel → Rule → Type 0
IsBuildRefusal id tree rule = IsSubmitRefusal id tree rule ⊎ (rule ≡ H2)

-- nothing but these rules refuses an open or a build
pub record RefusalsAreListed : Type 0 where
  pub opens : (own : List ℕ) (rule : Rule) → IsOpenRefusal own rule → Contains open_rules rule
  pub builds : (id : SessionId) (tree : TreeModel) (rule : Rule) → IsBuildRefusal id tree rule → Contains build_rules rule
