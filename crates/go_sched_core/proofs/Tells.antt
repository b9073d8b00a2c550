-- What the steps leave of what the actions of the batch that runs are told.
use Rattle.std.proofs.Common.{◌≡◌, ◌≢◌, ◌⊎◌, inl, inr, ℕ, zero, suc, ◌+◌, ◌≤◌, ◌<◌, List, [], ◌∷◌, length, refl, sym, ap, subst, ◌∙◌, arith, Option, Some, None}
use Rattle.std.specs.Prelude.{Contains, get_or, slice_get, slice_set}
use Rattle.std.specs.List.{AllZip}
use Rattle.std.proofs.lemmas.Bool.{cases_eq}
use Rattle.std.proofs.lemmas.Option.{slice_get_within}
use Rattle.go_path_core.specs.text_core.declared.rule.Rule.TheVariants.{M0, O5, Z1}
use Rattle.go_batch_core.specs.summary_core.Summaries.{SummaryModel, path_of}
use Rattle.go_submit_core.specs.package_core.PackagePartInputs.{InputModel, path_in}
use Rattle.go_submit_core.specs.package_core.PackagePartParts.{ContentOf, IsPart, PartModel}
use Rattle.go_submit_core.specs.snap_core.WholeWorkspaceInputs.{IsInputAt, Tells}
use Rattle.go_batch_core.specs.seen.Sights.{IsOf}
use Rattle.go_batch_core.specs.Batches.{BatchModel, with_part}
use Rattle.go_batch_core.specs.Telling.{IsToldOnce}
use Rattle.go_batch_core.specs.declared.slot.Slot.{Slot}
use Rattle.go_batch_core.specs.declared.slot.Slot.TheVariants.{Untaken, Taken, Finished}
use Rattle.go_submit_core.specs.Trees.{TreeModel}
use Rattle.go_submit_core.specs.declared.submission.Submission.{Submission}
use Rattle.go_sched_core.specs.Service.{Service}
use Rattle.go_sched_core.specs.Sights.{AgreeOf, IsEndedAt, IsGeneration, IsToldAt, IsToldIn, RunsOnce, WhileRuns}
use Rattle.go_sched_core.specs.Steps.{Acts, Finishes, IsFormed, Step, Takes, TakesNew, TakesOf, with_batch, with_formed}
use Rattle.go_sched_core.specs.declared.event.Action.{Action}
use Rattle.go_sched_core.specs.declared.event.Event.{Event}
use Rattle.go_sched_core.specs.declared.event.Event.TheVariants.{Open, Close, Submit, Take, Finish, GiveBack}
use Rattle.go_sched_core.specs.declared.event.Reply.{Reply}
use Rattle.go_sched_core.specs.declared.event.Reply.TheVariants.{Opened, Closed, Submitted, Act, Idle, Finished as Ended, Published, GaveBack, Refused}
use Rattle.go_sched_core.specs.declared.event.SessionId.{SessionId}
use Rattle.go_sched_core.specs.declared.running.Running.{Running}

-- lists with one entry set

set_apart : {X : Type 0} (xs : List X) (p q : ℕ) (y : X) → q ≢ p → slice_get (slice_set xs p y) q ≡ slice_get xs q
set_apart [] p q y ne = refl
set_apart (x ∷ xs) zero zero y ne = absurd (ne refl)
set_apart (x ∷ xs) zero (suc q) y ne = refl
set_apart (x ∷ xs) (suc p) zero y ne = refl
set_apart (x ∷ xs) (suc p) (suc q) y ne = set_apart xs p q y (λ e. ne (ap suc e))

set_at : {X : Type 0} (xs : List X) (p : ℕ) (y : X) → p < length xs → slice_get (slice_set xs p y) p ≡ Some y
set_at [] p y lt = absurd (omega (arith, lt))
set_at (x ∷ xs) zero y lt = refl
set_at (x ∷ xs) (suc p) y lt = set_at xs p y (omega (arith, lt))

set_long : {X : Type 0} (xs : List X) (p : ℕ) (y : X) → length (slice_set xs p y) ≡ length xs
set_long [] p y = refl
set_long (x ∷ xs) zero y = refl
set_long (x ∷ xs) (suc p) y = ap suc (set_long xs p y)

-- two entries that differ stand apart
apart_at : {X : Type 0} (xs : List X) (p q : ℕ) (x y : X) → slice_get xs p ≡ Some x → slice_get xs q ≡ Some y → (y ≡ x → ⊥) → q ≢ p
apart_at xs p q x y a b ne same = ne (let both : Some y ≡ Some x = sym b ∙ (ap (slice_get xs) same ∙ a) in cc)

-- an action is handed out

module _ (b : BatchModel) (place k : ℕ) (j : InputModel) (ready : slice_get b.slots place ≡ Some Untaken) where
  abbrev handed : BatchModel
  handed = record b { slots = slice_set b.slots place (Taken k j) }

  stays_handed : (q : ℕ) (x : Slot) → slice_get b.slots q ≡ Some x → (x ≡ Untaken → ⊥) → slice_get handed.slots q ≡ Some x
  stays_handed q x at ne = set_apart b.slots place q (Taken k j) (apart_at b.slots place q Untaken x ready at ne) ∙ at

  own_handed : (q n : ℕ) (i : InputModel) → (slice_get b.slots q ≡ Some (Taken n i)) ⊎ IsEndedAt b q i → (slice_get handed.slots q ≡ Some (Taken n i)) ⊎ IsEndedAt handed q i
  own_handed q n i (inl taken) = inl (stays_handed q (Taken n i) taken (λ e. cc (e)))
  own_handed q n i (inr ended) = inr (record { slot = stays_handed q Finished ended.slot (λ e. cc (e)); part = ended.part; there = ended.there; made = ended.made })

  told_handed : (n : ℕ) (i : InputModel) → IsToldIn b n i → IsToldIn handed n i
  told_handed n i t = record {
    reached = λ s h. (let r = t.reached s h in record { place = r.place; slot = stays_handed r.place Finished r.slot (λ e. cc (e)); tells = r.tells });
    place = t.place;
    own = record { within = t.own.within; is = own_handed t.place n i t.own.is };
  }

-- an action is finished

module _ (b : BatchModel) (place k : ℕ) (p : PartModel) (taken : slice_get b.slots place ≡ Some (Taken k p.input)) where
  abbrev ended : BatchModel
  ended = with_part b place p

  apart_finished : (q : ℕ) → slice_get b.slots q ≡ Some Finished → q ≢ place
  apart_finished q at = apart_at b.slots place q (Taken k p.input) Finished taken at (λ e. cc (e))

  slot_stays : (q : ℕ) → slice_get b.slots q ≡ Some Finished → slice_get ended.slots q ≡ Some Finished
  slot_stays q at = set_apart b.slots place q Finished (apart_finished q at) ∙ at

  part_stays : (q : ℕ) (o : Option PartModel) → slice_get b.slots q ≡ Some Finished → slice_get b.parts q ≡ Some o → slice_get ended.parts q ≡ Some o
  part_stays q o at there = set_apart b.parts place q (Some p) (apart_finished q at) ∙ there

  own_ended : (q n : ℕ) (i : InputModel) → q < length b.parts → (slice_get b.slots q ≡ Some (Taken n i)) ⊎ IsEndedAt b q i → (q ≡ place) ⊎ (q ≢ place) → (slice_get ended.slots q ≡ Some (Taken n i)) ⊎ IsEndedAt ended q i
  own_ended q n i lt (inl at) (inl same) =
      let both : Some (Taken n i) ≡ Some (Taken k p.input) = sym at ∙ (ap (slice_get b.slots) same ∙ taken) in
      let input : p.input ≡ i = cc (both) in
      let here : q < length b.slots = slice_get_within b.slots q (Taken n i) at in
      inr (record {
        slot = subst (λ r. slice_get (slice_set b.slots r Finished) q ≡ Some Finished) same (set_at b.slots q Finished here);
        part = p;
        there = subst (λ r. slice_get (slice_set b.parts r (Some p)) q ≡ Some (Some p)) same (set_at b.parts q (Some p) lt);
        made = input;
      })
  own_ended q n i lt (inl at) (inr ne) = inl (set_apart b.slots place q Finished ne ∙ at)
  own_ended q n i lt (inr e) side = inr (record { slot = slot_stays q e.slot; part = e.part; there = part_stays q (Some e.part) e.slot e.there; made = e.made })

  told_ended : (n : ℕ) (i : InputModel) → IsToldIn b n i → IsToldIn ended n i
  told_ended n i t = record {
    reached = λ s h. (let r = t.reached s h in record {
      place = r.place;
      slot = slot_stays r.place r.slot;
      tells = record { of_part = r.tells.of_part; there = part_stays r.place (Some r.tells.of_part) r.slot r.tells.there; is = r.tells.is };
    });
    place = t.place;
    own = record {
      within = (let long : length ended.parts ≡ length b.parts = set_long b.parts place (Some p) in let lt = t.own.within in omega (arith, long, lt));
      is = own_ended t.place n i t.own.within t.own.is (cases_eq t.place place);
    };
  }

-- step by step

-- generations that were given stay so, and what the actions of them are told in the batch that runs
pub record Keeps (s t : Service) : Type 0 where
  pub more : s.generations ≤ t.generations
  pub given : IsGeneration t.running t.generations
  pub told : (g n : ℕ) (i : InputModel) → g ≤ s.generations → WhileRuns s.running g n i → WhileRuns t.running g n i

generation_of : (o : Option Running) (n : ℕ) (r : Running) → o ≡ Some r → IsGeneration o n → r.generation ≤ n
generation_of o n r is given = subst (λ (x : Option Running). IsGeneration x n) is given

same_running : (s t : Service) → t.generations ≡ s.generations → t.running ≡ s.running → IsGeneration s.running s.generations → Keeps s t
same_running s t same running given = record {
  more = omega (arith, same);
  given = subst (λ (n : ℕ). IsGeneration t.running n) (sym same) (subst (λ (o : Option Running). IsGeneration o s.generations) (sym running) given);
  told = λ g n i le told. subst (λ (o : Option Running). WhileRuns o g n i) (sym running) told;
}

none_runs : (s t : Service) → s.generations ≤ t.generations → t.running ≡ None → Keeps s t
none_runs s t le none = record {
  more = le;
  given = subst (λ (o : Option Running). IsGeneration o t.generations) (sym none) tt;
  told = λ g n i lt told. subst (λ (o : Option Running). WhileRuns o g n i) (sym none) tt;
}

acts_keep : (s : Service) (r : Running) (a : Action) (t : Service) → s.running ≡ Some r → Acts s r a t → IsGeneration s.running s.generations → Keeps s t
acts_keep s r a t runs x given =
    let same : t.generations ≡ s.generations = ap (λ (y : Service). y.generations) x.state in
    let running : t.running ≡ Some (with_batch r x.after) = ap (λ (y : Service). y.running) x.state in
    let own = generation_of s.running s.generations r runs given in
    record {
      more = omega (arith, same);
      given = subst (λ (o : Option Running). IsGeneration o t.generations) (sym running) (subst (λ (n : ℕ). r.generation ≤ n) (sym same) own);
      told = λ g n i le told.
          (let before : WhileRuns (Some r) g n i = subst (λ (o : Option Running). WhileRuns o g n i) runs told in
          let after : WhileRuns (Some (with_batch r x.after)) g n i = λ is. subst (λ (b : BatchModel). IsToldIn b n i) (sym x.handed.slots) (told_handed r.batch x.handed.place a.number a.input x.handed.ready.untaken n i (before is)) in
          subst (λ (o : Option Running). WhileRuns o g n i) (sym running) after);
    }

formed_keeps : (s : Service) (r : Running) → IsFormed s r → Keeps s (with_formed s r)
formed_keeps s r formed = record {
  more = omega arith;
  given = (let is = formed.generation in omega (arith, is));
  told = λ g n i le told same. (let is = formed.generation in absurd (omega (arith, is, same, le)));
}

keeps_on : (s m t : Service) → Keeps s m → Keeps m t → Keeps s t
keeps_on s m t one two = record {
  more = (let a = one.more in let b = two.more in omega (arith, a, b));
  given = two.given;
  told = λ g n i le told. (let a = one.more in two.told g n i (omega (arith, le, a)) (one.told g n i le told));
}

takes_keep : (s : Service) (r : Running) (reply : Reply) (t : Service) → s.running ≡ Some r → Takes s r reply t → IsGeneration s.running s.generations → Keeps s t
takes_keep s r (Act a) t runs x given = acts_keep s r a t runs x given
takes_keep s r Idle t runs x given = same_running s t (ap (λ (y : Service). y.generations) x.1) (ap (λ (y : Service). y.running) x.1) given
takes_keep s r _ t runs x given = absurd x

takes_new_keep : (ws : List Submission) (s : Service) (reply : Reply) (t : Service) → TakesNew ws s reply t → IsGeneration s.running s.generations → Keeps s t
takes_new_keep [] s Idle t x given = same_running s t (ap (λ (y : Service). y.generations) x) (ap (λ (y : Service). y.running) x) given
takes_new_keep [] s _ t x given = absurd x
takes_new_keep (w ∷ ws) s (Published n) t x given = (let more : t.generations ≡ s.generations + 1 = ap (λ (y : Service). y.generations) x.2.state in none_runs s t (omega (arith, more)) (ap (λ (y : Service). y.running) x.2.state))
takes_new_keep (w ∷ ws) s (Act a) t x given = let first = formed_keeps s x.0 x.1 in keeps_on s (with_formed s x.0) t first (acts_keep (with_formed s x.0) x.0 a t refl x.2 first.given)
takes_new_keep (w ∷ ws) s _ t x given = absurd x

takes_of_keep : (o : Option Running) (s : Service) (reply : Reply) (t : Service) → s.running ≡ o → TakesOf o s reply t → IsGeneration s.running s.generations → Keeps s t
takes_of_keep None s reply t is x given = takes_new_keep s.waiting s reply t x given
takes_of_keep (Some r) s reply t is x given = takes_keep s r reply t is x given

take_keeps : (s : Service) (reply : Reply) (t : Service) → Step s Take reply t → IsGeneration s.running s.generations → Keeps s t
take_keeps s (Refused M0) t x given = same_running s t (ap (λ (y : Service). y.generations) x) (ap (λ (y : Service). y.running) x) given
take_keeps s reply t x given = takes_of_keep s.running s reply t refl x given

none_after : (s t : Service) → t.generations ≡ s.generations → t.running ≡ None → Keeps s t
none_after s t same none = none_runs s t (omega (arith, same)) none

finishes_keep : (o : Option Running) (number : ℕ) (part : PartModel) (s : Service) (reply : Reply) (t : Service) → s.running ≡ o → Finishes o number part s reply t → IsGeneration s.running s.generations → Keeps s t
finishes_keep None number part s (Refused Z1) t is x given = same_running s t (ap (λ (y : Service). y.generations) x) (ap (λ (y : Service). y.running) x) given
finishes_keep None number part s _ t is x given = absurd x
finishes_keep (Some r) number part s (Refused Z1) t is x given = same_running s t (ap (λ (y : Service). y.generations) x.1) (ap (λ (y : Service). y.running) x.1) given
finishes_keep (Some r) number part s Ended t is x given =
    let same : t.generations ≡ s.generations = ap (λ (y : Service). y.generations) x.3 in
    let running : t.running ≡ Some (with_batch r x.0) = ap (λ (y : Service). y.running) x.3 in
    let own = generation_of s.running s.generations r is given in
    record {
      more = omega (arith, same);
      given = subst (λ (o : Option Running). IsGeneration o t.generations) (sym running) (subst (λ (n : ℕ). r.generation ≤ n) (sym same) own);
      told = λ g n i le told.
          (let before : WhileRuns (Some r) g n i = subst (λ (o : Option Running). WhileRuns o g n i) is told in
          let after : WhileRuns (Some (with_batch r x.0)) g n i = λ e. subst (λ (b : BatchModel). IsToldIn b n i) (sym x.1.slots) (told_ended r.batch x.1.place number part x.1.awaits n i (before e)) in
          subst (λ (o : Option Running). WhileRuns o g n i) (sym running) after);
    }
finishes_keep (Some r) number part s (Published n) t is x given = none_after s t (ap (λ (y : Service). y.generations) x.2.state) (ap (λ (y : Service). y.running) x.2.state)
finishes_keep (Some r) number part s _ t is x given = absurd x

finish_keeps : (s : Service) (number : ℕ) (part : PartModel) (reply : Reply) (t : Service) → Step s (Finish number part) reply t → IsGeneration s.running s.generations → Keeps s t
finish_keeps s number part (Refused M0) t x given = same_running s t (ap (λ (y : Service). y.generations) x) (ap (λ (y : Service). y.running) x) given
finish_keeps s number part reply t x given = finishes_keep s.running number part s reply t refl x given

open_keeps : (s : Service) (m : List ℕ) (reply : Reply) (t : Service) → Step s (Open m) reply t → IsGeneration s.running s.generations → Keeps s t
open_keeps s m (Opened id) t x given = same_running s t (ap (λ (y : Service). y.generations) x.2) (ap (λ (y : Service). y.running) x.2) given
open_keeps s m (Refused M0) t x given = same_running s t (ap (λ (y : Service). y.generations) x) (ap (λ (y : Service). y.running) x) given
open_keeps s m (Refused rule) t x given = same_running s t (ap (λ (y : Service). y.generations) x.1) (ap (λ (y : Service). y.running) x.1) given
open_keeps s m _ t x given = absurd x

submit_keeps : (s : Service) (id : SessionId) (tree : TreeModel) (reply : Reply) (t : Service) → Step s (Submit id tree) reply t → IsGeneration s.running s.generations → Keeps s t
submit_keeps s id tree (Submitted n) t x given = same_running s t (ap (λ (y : Service). y.generations) x.2) (ap (λ (y : Service). y.running) x.2) given
submit_keeps s id tree (Refused M0) t x given = same_running s t (ap (λ (y : Service). y.generations) x) (ap (λ (y : Service). y.running) x) given
submit_keeps s id tree (Refused rule) t x given = same_running s t (ap (λ (y : Service). y.generations) x.1) (ap (λ (y : Service). y.running) x.1) given
submit_keeps s id tree _ t x given = absurd x

close_keeps : (s : Service) (id : SessionId) (reply : Reply) (t : Service) → Step s (Close id) reply t → IsGeneration s.running s.generations → Keeps s t
close_keeps s id Closed t x given = same_running s t (ap (λ (y : Service). y.generations) x.1) (ap (λ (y : Service). y.running) x.1) given
close_keeps s id (Refused O5) t x given = same_running s t (ap (λ (y : Service). y.generations) x.1) (ap (λ (y : Service). y.running) x.1) given
close_keeps s id _ t x given = absurd x

give_back_keeps : (s : Service) (g : ℕ) (reply : Reply) (t : Service) → Step s (GiveBack g) reply t → IsGeneration s.running s.generations → Keeps s t
give_back_keeps s g GaveBack t x given = none_after s t (ap (λ (y : Service). y.generations) x.1) (ap (λ (y : Service). y.running) x.1)
give_back_keeps s g (Refused Z1) t x given = same_running s t (ap (λ (y : Service). y.generations) x.1) (ap (λ (y : Service). y.running) x.1) given
give_back_keeps s g _ t x given = absurd x

pub step_keeps : (s : Service) (e : Event) (reply : Reply) (t : Service) → Step s e reply t → IsGeneration s.running s.generations → Keeps s t
step_keeps s (Open m) reply t x given = open_keeps s m reply t x given
step_keeps s (Close id) reply t x given = close_keeps s id reply t x given
step_keeps s (Submit id tree) reply t x given = submit_keeps s id tree reply t x given
step_keeps s Take reply t x given = take_keeps s reply t x given
step_keeps s (Finish number part) reply t x given = finish_keeps s number part reply t x given
step_keeps s (GiveBack g) reply t x given = give_back_keeps s g reply t x given

-- the action that is handed out

-- it is of the batch that runs, and is told in it
pub record IsTaken (t : Service) (a : Action) : Type 0 where
  pub running : Running
  pub runs : t.running ≡ Some running
  pub generation : a.generation ≡ running.generation
  pub told : IsToldIn running.batch a.number a.input

-- what a list has in step with another stands in step with something
zip_at : {A B : Type 0} (R : A → B → Type 0) (xs : List A) (ys : List B) (k : ℕ) (d : B) → AllZip R xs ys → k < length ys → (x : A) × R x (get_or ys k d)
zip_at R [] [] k d h lt = absurd (omega (arith, lt))
zip_at R [] (y ∷ ys) k d h lt = absurd h
zip_at R (x ∷ xs) [] k d h lt = absurd h
zip_at R (x ∷ xs) (y ∷ ys) zero d h lt = (x, h.0)
zip_at R (x ∷ xs) (y ∷ ys) (suc k) d h lt = zip_at R xs ys k d h.1 (omega (arith, lt))

told_at : (b : BatchModel) (place : ℕ) (i : InputModel) → IsToldOnce b → IsInputAt b.sources b.parts place i → (s : SummaryModel) → Contains i.reached s → IsToldAt b s
told_at b place i once at s h =
    let found = zip_at (Tells b.parts) at.input.reached.numbers i.reached h.0 s at.input.reached.told h.1 in
    let tells : Tells b.parts found.0 s = subst (Tells b.parts found.0) h.2 found.1 in
    record { place = found.0; slot = once.finished found.0 s tells; tells = tells }

acts_taken : (s : Service) (r : Running) (a : Action) (t : Service) → Acts s r a t → RunsOnce t.running → IsTaken t a
acts_taken s r a t x runs_once =
    let moved : t.running ≡ Some (with_batch r x.after) = ap (λ (y : Service). y.running) x.state in
    let once : IsToldOnce x.after = subst RunsOnce moved runs_once in
    let place = x.handed.place in
    let slots : slice_get x.after.slots place ≡ Some (Taken a.number a.input)
    = ap (λ (b : BatchModel). slice_get b.slots place) x.handed.slots ∙ set_at r.batch.slots place (Taken a.number a.input) (slice_get_within r.batch.slots place Untaken x.handed.ready.untaken) in
    let at : IsInputAt x.after.sources x.after.parts place a.input = subst (λ (b : BatchModel). IsInputAt b.sources b.parts place a.input) (sym x.handed.slots) x.handed.of_package in
    record {
      running = with_batch r x.after;
      runs = moved;
      generation = x.generation;
      told = record {
        reached = told_at x.after place a.input once at;
        place = place;
        own = record { within = (let long = once.many in let lt = slice_get_within x.after.slots place (Taken a.number a.input) slots in omega (arith, long, lt)); is = inl slots };
      };
    }

takes_new_taken : (ws : List Submission) (s : Service) (a : Action) (t : Service) → TakesNew ws s (Act a) t → RunsOnce t.running → IsTaken t a
takes_new_taken [] s a t x once = absurd x
takes_new_taken (w ∷ ws) s a t x once = acts_taken (with_formed s x.0) x.0 a t x.2 once

takes_of_taken : (o : Option Running) (s : Service) (a : Action) (t : Service) → TakesOf o s (Act a) t → RunsOnce t.running → IsTaken t a
takes_of_taken None s a t x once = takes_new_taken s.waiting s a t x once
takes_of_taken (Some r) s a t x once = acts_taken s r a t x once

pub take_takes : (s : Service) (a : Action) (t : Service) → Step s Take (Act a) t → RunsOnce t.running → IsTaken t a
take_takes s a t x once = takes_of_taken s.running s a t x once

-- what inputs of one batch see

path_made : (i : InputModel) (c : ContentOf) → IsPart i c → path_of c.summary ≡ path_in i
path_made i c made = ap path_of made.summary

module _ (b : BatchModel) (once : IsToldOnce b) (m n : ℕ) (i j : InputModel) (one : IsToldIn b m i) (other : IsToldIn b n j) where
  own_agrees : (c : ContentOf) (r : SummaryModel) (t : IsToldAt b r) → IsPart i c → path_in i ≡ path_of r → (slice_get b.slots one.place ≡ Some (Taken m i)) ⊎ IsEndedAt b one.place i → c.summary ≡ r
  own_agrees c r t made same (inl taken) = absurd (once.taken t.place one.place m r i t.tells taken same)
  own_agrees c r t made same (inr e) = once.own t.place one.place r e.part c t.tells e.there (ap path_in e.made ∙ same) (subst (λ (x : InputModel). IsPart x c) (sym e.made) made)

  agrees_by : (s r : SummaryModel) (t : IsToldAt b r) → IsOf i s → path_of s ≡ path_of r → s ≡ r
  agrees_by s r t (inl h) same = (let u = one.reached s h in once.once t.place u.place r s t.tells u.tells same)
  agrees_by s r t (inr h) same = h.2 ∙ own_agrees h.0 r t h.1 (sym (path_made i h.0 h.1) ∙ (ap path_of (sym h.2) ∙ same)) one.own.is

  pub agree : AgreeOf i j
  agree = λ s r is h same. agrees_by s r (other.reached r h) is same

-- the action that is handed out agrees with each of its generation of which this is known
pub taken_agrees : (t : Service) (a : Action) (g n : ℕ) (i : InputModel) → IsTaken t a → RunsOnce t.running → WhileRuns t.running g n i → g ≡ a.generation → AgreeOf i a.input
taken_agrees t a g n i taken runs_once told same =
    let once : IsToldOnce taken.running.batch = subst RunsOnce taken.runs runs_once in
    let known : WhileRuns (Some taken.running) g n i = subst (λ (o : Option Running). WhileRuns o g n i) taken.runs told in
    agree taken.running.batch once n a.number i a.input (known (sym (same ∙ taken.generation))) taken.told

-- and it is known of it
pub taken_runs : (t : Service) (a : Action) → IsTaken t a → WhileRuns t.running a.generation a.number a.input
taken_runs t a taken = subst (λ (o : Option Running). WhileRuns o a.generation a.number a.input) (sym taken.runs) (λ is. taken.told)

pub taken_given : (t : Service) (a : Action) → IsTaken t a → IsGeneration t.running t.generations → a.generation ≤ t.generations
taken_given t a taken given = (let is = taken.generation in let le = generation_of t.running t.generations taken.running taken.runs given in omega (arith, is, le))
