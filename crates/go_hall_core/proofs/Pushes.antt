-- One more event in a history.
use Rattle.std.proofs.Common.{◌≡◌, ℕ, ◌+◌, ◌≤◌, ◌<◌, Bool, true, false, List, [], ◌∷◌, ◌++◌, length, Option, Some, None, refl, ap, ◌∙◌, arith}
use Rattle.std.specs.Prelude.{MatchOption}
use Rattle.go_package_core.specs.package_part.Parts.{PartModel}
use Rattle.go_sched_core.specs.Steps.{accepts}
use Rattle.go_sched_core.specs.declared.event.Event.{Event}
use Rattle.go_sched_core.specs.declared.event.Event.TheVariants.{Finish, Open}
use Rattle.go_sched_core.specs.declared.event.Reply.{Reply}
use Rattle.go_sched_core.specs.declared.event.Reply.TheVariants.{Opened}
use Rattle.go_sched_core.specs.declared.event.SessionId.{SessionId}
use Rattle.go_hall_core.specs.Counts.{opens_in, submits_in, open_count, submit_count}
use Rattle.go_hall_core.specs.Kept.{Kept, Recorded}

pub opens_push : (es : List Event) (e : Event) → opens_in (es ++ e ∷ []) ≡ opens_in es + open_count e
opens_push [] e = omega arith
opens_push (x ∷ es) e = omega (arith, opens_push es e)

pub submits_push : (es : List Event) (e : Event) → submits_in (es ++ e ∷ []) ≡ submits_in es + submit_count e
submits_push [] e = omega arith
submits_push (x ∷ es) e = omega (arith, submits_push es e)

open_count_le : (e : Event) → open_count e ≤ 1
open_count_le (Open m) = omega arith
open_count_le _ = omega arith

pub opens_le : (es : List Event) → opens_in es ≤ length es
opens_le [] = omega arith
opens_le (e ∷ es) = omega (arith, opens_le es, open_count_le e)

same_by : (h n : List Event) (e : Event) (b : Bool) → (b ≡ true → n ≡ h ++ e ∷ []) → (b ≡ false → n ≡ h) → open_count e ≡ 0 → submit_count e ≡ 0 → (opens_in n ≡ opens_in h) × (submits_in n ≡ submits_in h)
same_by h n e true on off none never = (let p = ap opens_in (on refl) in let q = opens_push h e in omega arith, let p = ap submits_in (on refl) in let q = submits_push h e in omega arith)
same_by h n e false on off none never = (ap opens_in (off refl), ap submits_in (off refl))

-- an event that is neither an open nor a submit leaves the counts
pub recorded_counts : (old new : Kept) (e : Event) (reply : Reply) → Recorded old e reply new → open_count e ≡ 0 → submit_count e ≡ 0 → (opens_in new.history ≡ opens_in old.history) × (submits_in new.history ≡ submits_in old.history)
recorded_counts old new e reply r none never = same_by old.history new.history e (accepts reply) r.1 r.2 none never

-- the same where an action is finished by its earlier part, if it is
pub kept_counts : (old new : Kept) (number : ℕ) (o : Option Reply) → MatchOption o (new ≡ old) (λ reply. (part : PartModel) × (accepts reply ≡ true) × Recorded old (Finish number part) reply new) → (opens_in new.history ≡ opens_in old.history) × (submits_in new.history ≡ submits_in old.history)
kept_counts old new number None same = (ap (λ (k : Kept). opens_in k.history) same, ap (λ (k : Kept). submits_in k.history) same)
kept_counts old new number (Some reply) r = recorded_counts old new (Finish number r.0) reply r.2 refl refl

-- an open that was accepted: there is a part for it
pub opened_room : (old new : Kept) (m : List ℕ) (id : SessionId) (parts all : ℕ) → ((old.stopped ≡ false) × Recorded old (Open m) (Opened id) new) → length new.history ≤ 1048576 → parts + opens_in old.history ≡ all → 1048576 < all → (1 ≤ parts) × (opens_in new.history ≡ opens_in old.history + 1) × (submits_in new.history ≡ submits_in old.history)
opened_room old new m id parts all p few cut enough =
    let r : Recorded old (Open m) (Opened id) new = p.1 in
    let here = r.1 refl in
    let o : opens_in new.history ≡ opens_in old.history + 1 = ap opens_in here ∙ opens_push old.history (Open m) in
    let le = opens_le new.history in
    (omega arith, o, (let n = ap submits_in here in let q = submits_push old.history (Open m) in omega arith))
