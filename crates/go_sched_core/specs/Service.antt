-- The state of the service.
use Rattle.std.specs.Prelude.{◌≡◌, ℕ, ◌+◌, Bool, true, false, not, ◌&&◌, ◌||◌, nat_eq, nat_le, nat_lt, if◌then◌else◌, List, [], length, Option, Some, None}
use Rattle.std.specs.List.{fold, find, list_any}
use Rattle.std.specs.Str.{bytes_eq}
use Rattle.go_path_core.specs.text_core.declared.rule.Rule.{Rule}
use Rattle.go_path_core.specs.text_core.declared.rule.Rule.TheVariants.{E1, H1, O1, O3, O4, O5}
use Rattle.go_path_core.specs.Path.{overlap}
use Rattle.go_submit_core.specs.Modules.{is_among, with_module, with_trees}
use Rattle.go_submit_core.specs.Published.{modules_of, number_of}
use Rattle.go_submit_core.specs.Submitted.{has_ticket}
use Rattle.go_submit_core.specs.Trees.{TreeModel}
use Rattle.go_submit_core.specs.declared.published.PublishedBatch.{PublishedBatch}
use Rattle.go_submit_core.specs.declared.submission.Submission.{Submission}
use Rattle.go_sched_core.specs.declared.event.Held.{Held}
use Rattle.go_sched_core.specs.declared.event.SessionId.{SessionId}
use Rattle.go_sched_core.specs.declared.event.TicketState.{TicketState}
use Rattle.go_sched_core.specs.declared.event.TicketState.TheVariants as state
use Rattle.go_sched_core.specs.declared.running.Running.{Running}

-- the counts of accepted events, as far as the history goes, of sessions, tickets, generations and actions; the modules held by sessions, what waits, the
-- batch that runs, and the published batches
pub record Service : Type 0 where
  pub accepted : ℕ
  pub opened : ℕ
  pub held : List Held
  pub tickets : ℕ
  pub waiting : List Submission
  pub generations : ℕ
  pub actions : ℕ
  pub running : Option Running
  pub published : List PublishedBatch

abbrev pub empty : Service
empty = record { accepted = 0; opened = 0; held = []; tickets = 0; waiting = []; generations = 0; actions = 0; running = None; published = [] }

abbrev pub most_events : ℕ
most_events = 1048576

-- the count after one more accepted event
abbrev pub counted : ℕ → ℕ
counted n = if nat_lt n most_events then n + 1 else n

abbrev pub counts : Service → Service
counts s = record s { accepted = counted s.accepted }

-- the module of an open session
abbrev pub module_held : List Held → SessionId → Option Held
module_held hs id = find (λ h. nat_eq h.session.0 id.0) hs

-- the modules that are taken: while they are published, a submission of them runs or waits, or a session holds them

abbrev pub with_running : List (List ℕ) → Option Running → List (List ℕ)
with_running ms None = ms
with_running ms (Some r) = with_trees ms r.submissions

abbrev pub with_held : List (List ℕ) → List Held → List (List ℕ)
with_held ms hs = fold (λ l h. with_module l h.own) ms hs

-- each once
abbrev pub taken_modules : Service → List (List ℕ)
taken_modules s = with_held (with_trees (with_running (modules_of s.published) s.running) s.waiting) s.held

abbrev pub is_history_full : Service → Bool
is_history_full s = nat_le most_events s.accepted

abbrev pub history_rule : Service → Option Rule
history_rule s = if is_history_full s then Some H1 else None

abbrev pub is_held : List Held → List ℕ → Bool
is_held hs m = list_any (λ h. bytes_eq h.own m) hs

abbrev pub is_other_overlap : List ℕ → List ℕ → Bool
is_other_overlap m t = not (bytes_eq t m) && overlap t m

abbrev pub clashes : List (List ℕ) → List ℕ → Bool
clashes ts m = list_any (is_other_overlap m) ts

abbrev pub is_full : List Held → List (List ℕ) → List ℕ → Bool
is_full hs ts m = nat_le 32 (length hs) || (not (is_among m ts) && nat_le 32 (length ts))

-- the same where no session holds the module and these are taken
abbrev pub taken_rule : Service → List (List ℕ) → List ℕ → Option Rule
taken_rule s ts m =
    if clashes ts m then Some O3
    else (if is_full s.held ts m then Some O4
    else history_rule s)

-- the first rule that an open of this module breaks
abbrev pub open_rule : Service → List ℕ → Option Rule
open_rule s m = if is_held s.held m then Some O1 else taken_rule s (taken_modules s) m

-- the first rule that a submission of this tree by this session breaks
abbrev pub submit_rule_of : Option Held → Service → TreeModel → Option Rule
submit_rule_of None s tree = Some O5
submit_rule_of (Some h) s tree = if bytes_eq h.own tree.own then history_rule s else Some E1

abbrev pub submit_rule : Service → SessionId → TreeModel → Option Rule
submit_rule s id tree = submit_rule_of (module_held s.held id) s tree

-- where a submission stands

abbrev pub is_in_running : ℕ → Option Running → Bool
is_in_running n None = false
is_in_running n (Some r) = has_ticket n r.submissions

abbrev pub given_back : Service → ℕ → Option TicketState
given_back s n = if nat_le 1 n && nat_le n s.tickets then Some state.GivenBack else None

abbrev pub published_or : Option ℕ → Option TicketState → Option TicketState
published_or (Some k) other = Some (state.Published k)
published_or None other = other

abbrev pub ticket_of : Service → ℕ → Option TicketState
ticket_of s n =
    if has_ticket n s.waiting then Some state.Waiting
    else (if is_in_running n s.running then Some state.Running
    else published_or (number_of n s.published) (given_back s n))
