-- What each step leaves of the published batches, of the open sessions, and of the room that is kept in the history.
use Rattle.std.proofs.Common.{◌≡◌, ◌≢◌, ℕ, zero, suc, ◌+◌, ◌≤◌, ◌<◌, Bool, true, false, cond, true≢false, List, [], ◌∷◌, length, Option, Some, None, refl, sym, ap, ◌∙◌, subst, arith}
use Rattle.std.specs.Prelude.{nat_lt, nat_eq, slice_get, position, find}
use Rattle.std.specs.List.{position_or_len}
use Rattle.std.proofs.lemmas.List.{length_push}
use Rattle.std.proofs.lemmas.List.Folds.{find_at}
use Rattle.std.proofs.lemmas.List.Edits.{length-remove}
use Rattle.go_sched_core.specs.Prepared.{IsAllowed}
use Rattle.go_path_core.specs.text_core.declared.rule.Rule.TheVariants.{M0, O5, Z1}
use Rattle.go_package_core.specs.package_part.Parts.{PartModel}
use Rattle.go_board_core.specs.submit_core.Trees.{TreeModel}
use Rattle.go_sched_core.specs.Service.{Service, module_held}
use Rattle.go_sched_core.specs.Steps.{Finishes, Step, Takes, TakesNew, TakesOf, runs, without_at}
use Rattle.go_sched_core.specs.declared.event.Event.{Event}
use Rattle.go_sched_core.specs.declared.event.Event.TheVariants.{Open, Close, Submit, Take, Finish, GiveBack}
use Rattle.go_sched_core.specs.declared.event.Held.{Held}
use Rattle.go_sched_core.specs.declared.event.SessionId.{SessionId}
use Rattle.go_sched_core.specs.declared.event.Reply.{Reply}
use Rattle.go_sched_core.specs.declared.event.Reply.TheVariants.{Opened, Closed, Submitted, Act, Idle, Finished, Published, GaveBack, Refused}
use Rattle.go_board_core.specs.submit_core.declared.submission.Submission.{Submission}
use Rattle.go_sched_core.specs.declared.running.Running.{Running}
use Rattle.go_hall_core.specs.Kept.{owed, owed_batch}

pub owed_batch_le : (o : Option Running) → owed_batch o ≤ 1
owed_batch_le None = omega arith
owed_batch_le (Some r) = omega arith

takes_hold : (s : Service) (r : Running) (reply : Reply) (t : Service) → Takes s r reply t → t.held ≡ s.held
takes_hold s r (Act a) t x = ap (λ y. y.held) x.state
takes_hold s r Idle t x = ap (λ y. y.held) x.1
takes_hold s r _ t x = absurd x

takes_new_hold : (ws : List Submission) (s : Service) (reply : Reply) (t : Service) → TakesNew ws s reply t → t.held ≡ s.held
takes_new_hold [] s Idle t x = ap (λ y. y.held) x
takes_new_hold [] s _ t x = absurd x
takes_new_hold (w ∷ ws) s (Published n) t x = ap (λ y. y.held) x.2.state
takes_new_hold (w ∷ ws) s (Act a) t x = ap (λ y. y.held) x.2.state
takes_new_hold (w ∷ ws) s _ t x = absurd x

takes_of_hold : (o : Option Running) (s : Service) (reply : Reply) (t : Service) → TakesOf o s reply t → t.held ≡ s.held
takes_of_hold None s reply t x = takes_new_hold s.waiting s reply t x
takes_of_hold (Some r) s reply t x = takes_hold s r reply t x

pub take_holds : (s : Service) (reply : Reply) (t : Service) → Step s Take reply t → t.held ≡ s.held
take_holds s (Refused M0) t x = ap (λ y. y.held) x
take_holds s reply t x = takes_of_hold s.running s reply t x

finishes_hold : (o : Option Running) (number : ℕ) (part : PartModel) (s : Service) (reply : Reply) (t : Service) → Finishes o number part s reply t → t.held ≡ s.held
finishes_hold None number part s (Refused Z1) t x = ap (λ y. y.held) x
finishes_hold None number part s _ t x = absurd x
finishes_hold (Some r) number part s (Refused Z1) t x = ap (λ y. y.held) x.1
finishes_hold (Some r) number part s Finished t x = ap (λ y. y.held) x.3
finishes_hold (Some r) number part s (Published n) t x = ap (λ y. y.held) x.2.state
finishes_hold (Some r) number part s _ t x = absurd x

pub finish_holds : (s : Service) (number : ℕ) (part : PartModel) (reply : Reply) (t : Service) → Step s (Finish number part) reply t → t.held ≡ s.held
finish_holds s number part (Refused M0) t x = ap (λ y. y.held) x
finish_holds s number part reply t x = finishes_hold s.running number part s reply t x

pub open_keeps : (s : Service) (m : List ℕ) (reply : Reply) (t : Service) → Step s (Open m) reply t → (t.published ≡ s.published) × (length t.held ≤ length s.held + 1)
open_keeps s m (Opened id) t x = (ap (λ y. y.published) x.2, (let e : length t.held ≡ length s.held + 1 = ap (λ y. length y.held) x.2 ∙ length_push s.held _ in omega arith))
open_keeps s m (Refused M0) t x = (ap (λ y. y.published) x, (let e : length t.held ≡ length s.held = ap (λ y. length y.held) x in omega arith))
open_keeps s m (Refused rule) t x = (ap (λ y. y.published) x.1, (let e : length t.held ≡ length s.held = ap (λ y. length y.held) x.1 in omega arith))
open_keeps s m _ t x = absurd x

pub submit_keeps : (s : Service) (id : SessionId) (tree : TreeModel) (reply : Reply) (t : Service) → Step s (Submit id tree) reply t → (t.published ≡ s.published) × (t.held ≡ s.held)
submit_keeps s id tree (Submitted n) t x = (ap (λ y. y.published) x.2, ap (λ y. y.held) x.2)
submit_keeps s id tree (Refused M0) t x = (ap (λ y. y.published) x, ap (λ y. y.held) x)
submit_keeps s id tree (Refused rule) t x = (ap (λ y. y.published) x.1, ap (λ y. y.held) x.1)
submit_keeps s id tree _ t x = absurd x

beyond : {X : Type 0} (xs : List X) (k : ℕ) → length xs ≤ k → slice_get xs k ≡ None
beyond [] k e = refl
beyond (x ∷ xs) zero e = absurd (omega arith)
beyond (x ∷ xs) (suc k) e = beyond xs k (omega arith)

nat_lt_true : (k n : ℕ) → nat_lt k n ≡ true → k < n
nat_lt_true k n e = grind arith

nat_lt_false : (k n : ℕ) → nat_lt k n ≡ false → n ≤ k
nat_lt_false k n e = grind arith

shorter_at : (hs : List Held) (k : ℕ) (b : Bool) → nat_lt k (length hs) ≡ b → slice_get hs k ≢ None → length (without_at hs (cond b (Some k) None)) + 1 ≡ length hs
shorter_at hs k true e some = length-remove hs k (nat_lt_true k (length hs) e)
shorter_at hs k false e some = absurd (some (beyond hs k (nat_lt_false k (length hs) e)))

shorter : (p : Held → Bool) (hs : List Held) → find p hs ≢ None → length (without_at hs (position p hs)) + 1 ≡ length hs
shorter p hs some = shorter_at hs (position_or_len p hs) (nat_lt (position_or_len p hs) (length hs)) refl (λ e. some (find_at p hs ∙ e))

-- a session that is closed had its room in the history, and needs it no more
pub close_room : (s : Service) (id : SessionId) (reply : Reply) (t : Service) → Step s (Close id) reply t → module_held s.held id ≢ None → (t.published ≡ s.published) × (owed t + 1 ≡ owed s)
close_room s id Closed t x there = (ap (λ y. y.published) x.1, (let h : length t.held + 1 ≡ length s.held = ap (λ y. length y.held + 1) x.1 ∙ shorter (λ h. nat_eq h.session.0 id.0) s.held there in let r : owed_batch t.running ≡ owed_batch s.running = ap (λ y. owed_batch y.running) x.1 in omega arith))
close_room s id (Refused O5) t x there = absurd (there x.0)
close_room s id _ t x there = absurd x

runs_owed : (o : Option Running) (g : ℕ) → runs o g ≡ true → owed_batch o ≡ 1
runs_owed None g is = absurd (true≢false (sym is))
runs_owed (Some r) g is = refl

-- a batch that is given back had its room in the history, and needs it no more
pub give_back_room : (s : Service) (g : ℕ) (reply : Reply) (t : Service) → Step s (GiveBack g) reply t → runs s.running g ≡ true → (t.published ≡ s.published) × (owed t + 1 ≡ owed s)
give_back_room s g GaveBack t x running = (ap (λ y. y.published) x.1, (let h : length t.held ≡ length s.held = ap (λ y. length y.held) x.1 in let r : owed_batch t.running ≡ 0 = ap (λ y. owed_batch y.running) x.1 in let w = runs_owed s.running g running in omega arith))
give_back_room s g (Refused Z1) t x running = absurd (true≢false (sym running ∙ x.0))
give_back_room s g _ t x running = absurd x

-- the same of a close that was prepared
pub closed_room : (s from : Service) (id : SessionId) (event : Event) (reply : Reply) (t : Service) → Step s (Close id) reply t → IsAllowed from event → from ≡ s → event ≡ Close id → (t.published ≡ s.published) × (owed t + 1 ≡ owed s)
closed_room s from id event reply t step allowed same is = close_room s id reply t step (subst (λ (x : Service). IsAllowed x (Close id)) same (subst (λ (x : Event). IsAllowed from x) is allowed))

-- an open publishes nothing, and the history must have room for the close of one session more
pub open_room : (s : Service) (m : List ℕ) (reply : Reply) (t : Service) → Step s (Open m) reply t → (t.published ≡ s.published) × (owed t ≤ length s.held + 2)
open_room s m reply t x = (let kept = open_keeps s m reply t x in let h = kept.1 in let b = owed_batch_le t.running in (kept.0, omega arith))
