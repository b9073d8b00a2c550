-- The core counts the events that the history holds.
use Rattle.std.proofs.Common.{◌≡◌, ◌⊎◌, ℕ, suc, ◌+◌, ◌≤◌, ◌<◌, Bool, true, false, true≢false, List, [], ◌∷◌, ◌++◌, length, Option, Some, None, refl, sym, ap, ◌∙◌, subst, inl, inr, ⊎_elim, arith}
use Rattle.std.specs.Prelude.{nat_lt, nat_le, if◌then◌else◌}
use Rattle.std.proofs.lemmas.List.{length_push}
use Rattle.go_path_core.specs.text_core.declared.rule.Rule.TheVariants.{O1, O3, O4, H1}
use Rattle.go_package_core.specs.package_part.Parts.{PartModel}
use Rattle.go_board_core.specs.submit_core.Trees.{TreeModel}
use Rattle.go_sched_core.specs.Service.{Service, counted, empty, is_full, is_history_full, is_held, clashes, history_rule, most_events, open_rule, taken_modules}
use Rattle.go_sched_core.specs.Steps.{Finishes, Replay, Step, Takes, TakesNew, TakesOf, accepts}
use Rattle.go_sched_core.specs.declared.event.Event.{Event}
use Rattle.go_sched_core.specs.declared.event.Event.TheVariants.{Open, Close, Submit, Take, Finish, GiveBack}
use Rattle.go_sched_core.specs.declared.event.SessionId.{SessionId}
use Rattle.go_sched_core.specs.declared.event.Reply.{Reply}
use Rattle.go_sched_core.specs.declared.event.Reply.TheVariants.{Opened, Closed, Submitted, Act, Idle, Finished, Published, GaveBack, Refused}
use Rattle.go_board_core.specs.submit_core.declared.submission.Submission.{Submission}
use Rattle.go_sched_core.specs.declared.running.Running.{Running}
use Rattle.go_hall_core.specs.Kept.{IsCountOf}

takes_count : (s : Service) (r : Running) (reply : Reply) (t : Service) → Takes s r reply t → accepts reply ≡ true → t.accepted ≡ counted s.accepted
takes_count s r (Act a) t x is = ap (λ y. y.accepted) x.state
takes_count s r Idle t x is = absurd (true≢false (sym is))
takes_count s r _ t x is = absurd x

takes_new_count : (ws : List Submission) (s : Service) (reply : Reply) (t : Service) → TakesNew ws s reply t → accepts reply ≡ true → t.accepted ≡ counted s.accepted
takes_new_count [] s Idle t x is = absurd (true≢false (sym is))
takes_new_count [] s _ t x is = absurd x
takes_new_count (w ∷ ws) s (Published n) t x is = ap (λ y. y.accepted) x.2.state
takes_new_count (w ∷ ws) s (Act a) t x is = ap (λ y. y.accepted) x.2.state
takes_new_count (w ∷ ws) s _ t x is = absurd x

takes_of_count : (o : Option Running) (s : Service) (reply : Reply) (t : Service) → TakesOf o s reply t → accepts reply ≡ true → t.accepted ≡ counted s.accepted
takes_of_count None s reply t x is = takes_new_count s.waiting s reply t x is
takes_of_count (Some r) s reply t x is = takes_count s r reply t x is

take_count : (s : Service) (reply : Reply) (t : Service) → Step s Take reply t → accepts reply ≡ true → t.accepted ≡ counted s.accepted
take_count s (Refused rule) t x is = absurd (true≢false (sym is))
take_count s reply t x is = takes_of_count s.running s reply t x is

finishes_count : (o : Option Running) (number : ℕ) (part : PartModel) (s : Service) (reply : Reply) (t : Service) → Finishes o number part s reply t → accepts reply ≡ true → t.accepted ≡ counted s.accepted
finishes_count None number part s (Refused rule) t x is = absurd (true≢false (sym is))
finishes_count None number part s _ t x is = absurd x
finishes_count (Some r) number part s (Refused rule) t x is = absurd (true≢false (sym is))
finishes_count (Some r) number part s Finished t x is = ap (λ y. y.accepted) x.3
finishes_count (Some r) number part s (Published n) t x is = ap (λ y. y.accepted) x.2.state
finishes_count (Some r) number part s _ t x is = absurd x

finish_count : (s : Service) (number : ℕ) (part : PartModel) (reply : Reply) (t : Service) → Step s (Finish number part) reply t → accepts reply ≡ true → t.accepted ≡ counted s.accepted
finish_count s number part (Refused rule) t x is = absurd (true≢false (sym is))
finish_count s number part reply t x is = finishes_count s.running number part s reply t x is

open_count : (s : Service) (m : List ℕ) (reply : Reply) (t : Service) → Step s (Open m) reply t → accepts reply ≡ true → t.accepted ≡ counted s.accepted
open_count s m (Opened id) t x is = ap (λ y. y.accepted) x.2
open_count s m (Refused rule) t x is = absurd (true≢false (sym is))
open_count s m _ t x is = absurd x

submit_count : (s : Service) (id : SessionId) (tree : TreeModel) (reply : Reply) (t : Service) → Step s (Submit id tree) reply t → accepts reply ≡ true → t.accepted ≡ counted s.accepted
submit_count s id tree (Submitted n) t x is = ap (λ y. y.accepted) x.2
submit_count s id tree (Refused rule) t x is = absurd (true≢false (sym is))
submit_count s id tree _ t x is = absurd x

close_count : (s : Service) (id : SessionId) (reply : Reply) (t : Service) → Step s (Close id) reply t → accepts reply ≡ true → t.accepted ≡ counted s.accepted
close_count s id Closed t x is = ap (λ y. y.accepted) x.1
close_count s id (Refused rule) t x is = absurd (true≢false (sym is))
close_count s id _ t x is = absurd x

give_back_count : (s : Service) (g : ℕ) (reply : Reply) (t : Service) → Step s (GiveBack g) reply t → accepts reply ≡ true → t.accepted ≡ counted s.accepted
give_back_count s g GaveBack t x is = ap (λ y. y.accepted) x.1
give_back_count s g (Refused rule) t x is = absurd (true≢false (sym is))
give_back_count s g _ t x is = absurd x

step_count : (s : Service) (e : Event) (reply : Reply) (t : Service) → Step s e reply t → accepts reply ≡ true → t.accepted ≡ counted s.accepted
step_count s (Open m) reply t x is = open_count s m reply t x is
step_count s (Close id) reply t x is = close_count s id reply t x is
step_count s (Submit id tree) reply t x is = submit_count s id tree reply t x is
step_count s Take reply t x is = take_count s reply t x is
step_count s (Finish number part) reply t x is = finish_count s number part reply t x is
step_count s (GiveBack g) reply t x is = give_back_count s g reply t x is

nat_lt_true : (k n : ℕ) → nat_lt k n ≡ true → k < n
nat_lt_true k n e = grind arith

nat_lt_false : (k n : ℕ) → nat_lt k n ≡ false → n ≤ k
nat_lt_false k n e = grind arith

nat_le_false : (k n : ℕ) → nat_le k n ≡ false → n < k
nat_le_false k n e = grind arith

counted_by : (n : ℕ) (b : Bool) → nat_lt n most_events ≡ b → n ≤ most_events → ((n < most_events) × (counted n ≡ n + 1)) ⊎ ((n ≡ most_events) × (counted n ≡ most_events))
counted_by n true e le = inl (nat_lt_true n most_events e, ap (λ b. if b then n + 1 else n) e)
counted_by n false e le = (let over = nat_lt_false n most_events e in let same : n ≡ most_events = omega arith in inr (same, ap (λ b. if b then n + 1 else n) e ∙ same))

-- the count goes on from a to b over n events
abbrev Fills : ℕ → ℕ → ℕ → Type 0
Fills a n b = ((b ≡ a + n) × (a + n ≤ most_events)) ⊎ ((b ≡ most_events) × (most_events ≤ a + n))

fills_more : (a m n b : ℕ) → ((a < most_events) × (m ≡ a + 1)) ⊎ ((a ≡ most_events) × (m ≡ most_events)) → Fills m n b → Fills a (suc n) b
fills_more a m n b first rest =
    ⊎_elim
    (λ (f : (a < most_events) × (m ≡ a + 1)). ⊎_elim
    (λ (r : (b ≡ m + n) × (m + n ≤ most_events)). let p = f.0 in let q = f.1 in let u = r.0 in let v = r.1 in inl (omega arith, omega arith))
    (λ (r : (b ≡ most_events) × (most_events ≤ m + n)). let q = f.1 in let v = r.1 in inr (r.0, omega arith))
    rest)
    (λ (f : (a ≡ most_events) × (m ≡ most_events)). ⊎_elim
    (λ (r : (b ≡ m + n) × (m + n ≤ most_events)). let p = f.0 in let q = f.1 in let u = r.0 in let v = r.1 in inr (omega arith, omega arith))
    (λ (r : (b ≡ most_events) × (most_events ≤ m + n)). let p = f.0 in inr (r.0, omega arith))
    rest)
    first

fills_le : (a n b : ℕ) → Fills a n b → b ≤ most_events
fills_le a n b f = ⊎_elim (λ (r : (b ≡ a + n) × (a + n ≤ most_events)). let u = r.0 in let v = r.1 in omega arith) (λ (r : (b ≡ most_events) × (most_events ≤ a + n)). let u = r.0 in omega arith) f

counted_le : (n : ℕ) → n ≤ most_events → counted n ≤ most_events
counted_le n le = ⊎_elim (λ (f : (n < most_events) × (counted n ≡ n + 1)). let p = f.0 in let q = f.1 in omega arith) (λ (f : (n ≡ most_events) × (counted n ≡ most_events)). let q = f.1 in omega arith) (counted_by n (nat_lt n most_events) refl le)

replay_fills : (s : Service) (h : List Event) (t : Service) → Replay s h t → s.accepted ≤ most_events → Fills s.accepted (length h) t.accepted
replay_fills s [] t same le = (let e : t.accepted ≡ s.accepted = ap (λ y. y.accepted) same in inl (omega arith, omega arith))
replay_fills s (e ∷ es) t run le =
    let count : run.1.accepted ≡ counted s.accepted = step_count s e run.0 run.1 run.3 run.2 in
    let first = counted_by s.accepted (nat_lt s.accepted most_events) refl le in
    let mine : ((s.accepted < most_events) × (run.1.accepted ≡ s.accepted + 1)) ⊎ ((s.accepted ≡ most_events) × (run.1.accepted ≡ most_events)) =
    ⊎_elim (λ (f : (s.accepted < most_events) × (counted s.accepted ≡ s.accepted + 1)). inl (f.0, count ∙ f.1)) (λ (f : (s.accepted ≡ most_events) × (counted s.accepted ≡ most_events)). inr (f.0, count ∙ f.1)) first in
    let within : run.1.accepted ≤ most_events = subst (λ (n : ℕ). n ≤ most_events) (sym count) (counted_le s.accepted le) in
    fills_more s.accepted run.1.accepted (length es) t.accepted mine (replay_fills run.1 es t run.4 within)

-- the core counts the events of the history, as far as it goes
pub replay_counts : (h : List Event) (s : Service) → Replay empty h s → IsCountOf (length h) s.accepted
replay_counts h s run =
    ⊎_elim
    (λ (r : (s.accepted ≡ 0 + length h) × (0 + length h ≤ most_events)). let u = r.0 in let v = r.1 in inl (omega arith, omega arith))
    (λ (r : (s.accepted ≡ most_events) × (most_events ≤ 0 + length h)). let v = r.1 in inr (r.0, omega arith))
    (replay_fills empty h s run (omega arith))

unless : {X : Type 0} (b : Bool) (x : X) (o : Option X) → (if b then Some x else o) ≡ None → o ≡ None
unless true x o e = absurd (cc)
unless false x o e = e

not_so : (b : Bool) → (if b then Some H1 else None) ≡ None → b ≡ false
not_so true e = absurd (cc)
not_so false e = refl

-- where an open breaks no rule, the history has room for its event
pub open_few : (h : List Event) (s : Service) (m : List ℕ) → Replay empty h s → open_rule s m ≡ None → length h < 1048576
open_few h s m run none =
    let ts = taken_modules s in
    let here : history_rule s ≡ None = unless (is_full s.held ts m) O4 (history_rule s) (unless (clashes ts m) O3 _ (unless (is_held s.held m) O1 _ none)) in
    let below : s.accepted < most_events = nat_le_false most_events s.accepted (not_so (is_history_full s) here) in
    ⊎_elim
    (λ (r : (s.accepted ≡ length h) × (length h ≤ most_events)). let e = r.0 in omega arith)
    (λ (r : (s.accepted ≡ most_events) × (most_events ≤ length h)). let e = r.0 in omega arith)
    (replay_counts h s run)

-- the same after the open
pub opened_few : (h new : List Event) (e : Event) (s : Service) (m : List ℕ) → Replay empty h s → open_rule s m ≡ None → new ≡ h ++ e ∷ [] → length new ≤ 1048576
opened_few h new e s m run none is = (let few = open_few h s m run none in let n = ap length is ∙ length_push h e in omega arith)
