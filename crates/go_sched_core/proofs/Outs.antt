-- What the steps leave of the actions that are handed out and not finished.
use Rattle.std.proofs.Common.{◌≡◌, ◌⊎◌, inl, inr, ⊎_elim, ℕ, zero, suc, ◌+◌, ◌≤◌, List, [], ◌∷◌, refl, sym, ap, subst, arith, Option, Some, None}
use Rattle.std.specs.Prelude.{slice_get, slice_set}
use Rattle.go_path_core.specs.text_core.declared.rule.Rule.TheVariants.{M0, O5, Z1}
use Rattle.go_submit_core.specs.package_core.PackagePartInputs.{InputModel}
use Rattle.go_submit_core.specs.package_core.PackagePartParts.{PartModel}
use Rattle.go_batch_core.specs.Batches.{BatchModel}
use Rattle.go_batch_core.specs.declared.slot.Slot.{Slot}
use Rattle.go_batch_core.specs.declared.slot.Slot.TheVariants.{NoAction, Untaken, Taken, Finished}
use Rattle.go_submit_core.specs.Trees.{TreeModel}
use Rattle.go_submit_core.specs.declared.submission.Submission.{Submission}
use Rattle.go_sched_core.specs.Outs.{AreNumbered, IsOut, KnowsInput}
use Rattle.go_sched_core.specs.Service.{Service}
use Rattle.go_sched_core.specs.Steps.{Acts, Finishes, IsFormed, Step, Takes, TakesNew, TakesOf, with_batch, with_formed}
use Rattle.go_sched_core.specs.declared.event.Action.{Action}
use Rattle.go_sched_core.specs.declared.event.Event.{Event}
use Rattle.go_sched_core.specs.declared.event.Event.TheVariants.{Open, Close, Submit, Take, Finish, GiveBack}
use Rattle.go_sched_core.specs.declared.event.Reply.{Reply}
use Rattle.go_sched_core.specs.declared.event.Reply.TheVariants.{Opened, Closed, Submitted, Act, Idle, Finished as Ended, Published, GaveBack, Refused}
use Rattle.go_sched_core.specs.declared.event.SessionId.{SessionId}
use Rattle.go_sched_core.specs.declared.running.Running.{Running}

-- the numbers of actions stay given, and what is known of their inputs stays known
pub record Stays (s t : Service) : Type 0 where
  pub more : s.actions ≤ t.actions
  pub numbered : AreNumbered t
  pub known : (number : ℕ) (input : InputModel) → number ≤ s.actions → KnowsInput s number input → KnowsInput t number input

get_set : {X : Type 0} (xs : List X) (p : ℕ) (y : X) (q : ℕ) (x : X) → slice_get (slice_set xs p y) q ≡ Some x → (slice_get xs q ≡ Some x) ⊎ (y ≡ x)
get_set [] p y q x e = absurd (cc)
get_set (z ∷ xs) zero y zero x e = inr (cc)
get_set (z ∷ xs) zero y (suc q) x e = inl e
get_set (z ∷ xs) (suc p) y zero x e = inl e
get_set (z ∷ xs) (suc p) y (suc q) x e = get_set xs p y q x e

-- nothing more is out
fewer : (s t : Service) → t.actions ≡ s.actions → ((p n : ℕ) (i : InputModel) → IsOut t.running p n i → IsOut s.running p n i) → AreNumbered s → Stays s t
fewer s t same out numbered = record {
  more = omega (arith, same);
  numbered = λ p n i e. (let le = numbered p n i (out p n i e) in omega (arith, le, same));
  known = λ n i given knows p j e. knows p j (out p n j e);
}

-- the actions and the batch that runs are the same
same_running : (s t : Service) → t.actions ≡ s.actions → t.running ≡ s.running → AreNumbered s → Stays s t
same_running s t actions running numbered = fewer s t actions (λ p n i e. subst (λ (o : Option Running). IsOut o p n i) running e) numbered

-- no batch runs
none_runs : (s t : Service) → t.actions ≡ s.actions → t.running ≡ None → AreNumbered s → Stays s t
none_runs s t actions none numbered = fewer s t actions (λ p n i e. absurd (subst (λ (o : Option Running). IsOut o p n i) none e)) numbered

-- what is out once an action is handed out
acts_out : (s : Service) (r : Running) (a : Action) (t : Service) → s.running ≡ Some r → Acts s r a t → (p n : ℕ) (i : InputModel) → IsOut t.running p n i → IsOut s.running p n i ⊎ ((a.number ≡ n) × (a.input ≡ i))
acts_out s r a t runs x p n i e =
    let running : t.running ≡ Some (with_batch r x.after) = ap (λ (y : Service). y.running) x.state in
    let there : slice_get x.after.slots p ≡ Some (Taken n i) = subst (λ (o : Option Running). IsOut o p n i) running e in
    let set : slice_get (slice_set r.batch.slots x.handed.place (Taken a.number a.input)) p ≡ Some (Taken n i) = subst (λ (b : BatchModel). slice_get b.slots p ≡ Some (Taken n i)) x.handed.slots there in
    ⊎_elim
    (λ (old : slice_get r.batch.slots p ≡ Some (Taken n i)). inl (subst (λ (o : Option Running). IsOut o p n i) (sym runs) old))
    (λ (new : Taken a.number a.input ≡ Taken n i). inr (cc (new), cc (new)))
    (get_set r.batch.slots x.handed.place (Taken a.number a.input) p (Taken n i) set)

acts_stay : (s : Service) (r : Running) (a : Action) (t : Service) → s.running ≡ Some r → Acts s r a t → AreNumbered s → Stays s t
acts_stay s r a t runs x numbered =
    let actions : t.actions ≡ s.actions + 1 = ap (λ (y : Service). y.actions) x.state in
    let number : a.number ≡ s.actions + 1 = x.number in record {
      more = omega (arith, actions);
      numbered = λ p n i e. ⊎_elim
          (λ (old : IsOut s.running p n i). let le = numbered p n i old in omega (arith, le, actions))
          (λ (new : (a.number ≡ n) × (a.input ≡ i)). let is = new.0 in omega (arith, is, number, actions))
          (acts_out s r a t runs x p n i e);
      known = λ n i given knows p j e. ⊎_elim
          (λ (old : IsOut s.running p n j). knows p j old)
          (λ (new : (a.number ≡ n) × (a.input ≡ j)). let is = new.0 in absurd (omega (arith, is, number, given)))
          (acts_out s r a t runs x p n j e);
    }

-- the action that is handed out has a number that is given, and its input is known
pub record IsGiven (t : Service) (a : Action) : Type 0 where
  pub given : a.number ≤ t.actions
  pub knows : KnowsInput t a.number a.input

acts_given : (s : Service) (r : Running) (a : Action) (t : Service) → s.running ≡ Some r → Acts s r a t → AreNumbered s → IsGiven t a
acts_given s r a t runs x numbered =
    let actions : t.actions ≡ s.actions + 1 = ap (λ (y : Service). y.actions) x.state in
    let number : a.number ≡ s.actions + 1 = x.number in record {
      given = omega (arith, actions, number);
      knows = λ p j e. ⊎_elim
          (λ (old : IsOut s.running p a.number j). let le = numbered p a.number j old in absurd (omega (arith, le, number)))
          (λ (new : (a.number ≡ a.number) × (a.input ≡ j)). sym (new.1))
          (acts_out s r a t runs x p a.number j e);
    }

-- what is not taken yet where some fact is so, and has no action where it is not, is not taken
not_taken : {X : Type 0} (n : ℕ) (i : InputModel) (o : Option Slot) → (X → o ≡ Some Untaken) → ((X → ⊥) → Taken n i ≡ NoAction) → o ≡ Some (Taken n i) → ⊥
not_taken {X} n i o some none e =
    let not : X → ⊥ = λ x. (let is : Taken n i ≡ Untaken = cc (e, some x) in absurd (cc (is))) in
    let is = none not in absurd (cc (is))

-- of a batch that begins nothing is taken
begun_none : (s : Service) (r : Running) → IsFormed s r → (p n : ℕ) (i : InputModel) → IsOut (Some r) p n i → ⊥
begun_none s r formed p n i e = not_taken n i (slice_get r.batch.slots p) (formed.begun.assembled p) (formed.begun.others p (Taken n i) e) e

formed_stays : (s : Service) (r : Running) → IsFormed s r → AreNumbered s → Stays s (with_formed s r)
formed_stays s r formed numbered = record {
  more = omega arith;
  numbered = λ p n i e. absurd (begun_none s r formed p n i e);
  known = λ n i given knows p j e. absurd (begun_none s r formed p n j e);
}

stays_on : (s m t : Service) → Stays s m → Stays m t → Stays s t
stays_on s m t one two = record {
  more = (let a = one.more in let b = two.more in omega (arith, a, b));
  numbered = two.numbered;
  known = λ n i given knows. (let a = one.more in two.known n i (omega (arith, given, a)) (one.known n i given knows));
}

takes_stay : (s : Service) (r : Running) (reply : Reply) (t : Service) → s.running ≡ Some r → Takes s r reply t → AreNumbered s → Stays s t
takes_stay s r (Act a) t runs x numbered = acts_stay s r a t runs x numbered
takes_stay s r Idle t runs x numbered = same_running s t (ap (λ (y : Service). y.actions) x.1) (ap (λ (y : Service). y.running) x.1) numbered
takes_stay s r _ t runs x numbered = absurd x

takes_new_stay : (ws : List Submission) (s : Service) (reply : Reply) (t : Service) → TakesNew ws s reply t → AreNumbered s → Stays s t
takes_new_stay [] s Idle t x numbered = same_running s t (ap (λ (y : Service). y.actions) x) (ap (λ (y : Service). y.running) x) numbered
takes_new_stay [] s _ t x numbered = absurd x
takes_new_stay (w ∷ ws) s (Published n) t x numbered = none_runs s t (ap (λ (y : Service). y.actions) x.2.state) (ap (λ (y : Service). y.running) x.2.state) numbered
takes_new_stay (w ∷ ws) s (Act a) t x numbered = let first = formed_stays s x.0 x.1 numbered in stays_on s (with_formed s x.0) t first (acts_stay (with_formed s x.0) x.0 a t refl x.2 first.numbered)
takes_new_stay (w ∷ ws) s _ t x numbered = absurd x

takes_of_stay : (o : Option Running) (s : Service) (reply : Reply) (t : Service) → s.running ≡ o → TakesOf o s reply t → AreNumbered s → Stays s t
takes_of_stay None s reply t is x numbered = takes_new_stay s.waiting s reply t x numbered
takes_of_stay (Some r) s reply t is x numbered = takes_stay s r reply t is x numbered

take_stays : (s : Service) (reply : Reply) (t : Service) → Step s Take reply t → AreNumbered s → Stays s t
take_stays s (Refused M0) t x numbered = same_running s t (ap (λ (y : Service). y.actions) x) (ap (λ (y : Service). y.running) x) numbered
take_stays s reply t x numbered = takes_of_stay s.running s reply t refl x numbered

finishes_stay : (o : Option Running) (number : ℕ) (part : PartModel) (s : Service) (reply : Reply) (t : Service) → s.running ≡ o → Finishes o number part s reply t → AreNumbered s → Stays s t
finishes_stay None number part s (Refused Z1) t is x numbered = same_running s t (ap (λ (y : Service). y.actions) x) (ap (λ (y : Service). y.running) x) numbered
finishes_stay None number part s _ t is x numbered = absurd x
finishes_stay (Some r) number part s (Refused Z1) t is x numbered = same_running s t (ap (λ (y : Service). y.actions) x.1) (ap (λ (y : Service). y.running) x.1) numbered
finishes_stay (Some r) number part s Ended t is x numbered =
    fewer s t (ap (λ (y : Service). y.actions) x.3)
    (λ p n i e.
    let there : slice_get x.0.slots p ≡ Some (Taken n i) = subst (λ (o : Option Running). IsOut o p n i) (ap (λ (y : Service). y.running) x.3) e in
    let set : slice_get (slice_set r.batch.slots x.1.place Finished) p ≡ Some (Taken n i) = subst (λ (b : BatchModel). slice_get b.slots p ≡ Some (Taken n i)) x.1.slots there in
    ⊎_elim
    (λ (old : slice_get r.batch.slots p ≡ Some (Taken n i)). subst (λ (o : Option Running). IsOut o p n i) (sym is) old)
    (λ (new : Finished ≡ Taken n i). absurd (cc (new)))
    (get_set r.batch.slots x.1.place Finished p (Taken n i) set))
    numbered
finishes_stay (Some r) number part s (Published n) t is x numbered = none_runs s t (ap (λ (y : Service). y.actions) x.2.state) (ap (λ (y : Service). y.running) x.2.state) numbered
finishes_stay (Some r) number part s _ t is x numbered = absurd x

finish_stays : (s : Service) (number : ℕ) (part : PartModel) (reply : Reply) (t : Service) → Step s (Finish number part) reply t → AreNumbered s → Stays s t
finish_stays s number part (Refused M0) t x numbered = same_running s t (ap (λ (y : Service). y.actions) x) (ap (λ (y : Service). y.running) x) numbered
finish_stays s number part reply t x numbered = finishes_stay s.running number part s reply t refl x numbered

open_stays : (s : Service) (m : List ℕ) (reply : Reply) (t : Service) → Step s (Open m) reply t → AreNumbered s → Stays s t
open_stays s m (Opened id) t x numbered = same_running s t (ap (λ (y : Service). y.actions) x.2) (ap (λ (y : Service). y.running) x.2) numbered
open_stays s m (Refused M0) t x numbered = same_running s t (ap (λ (y : Service). y.actions) x) (ap (λ (y : Service). y.running) x) numbered
open_stays s m (Refused rule) t x numbered = same_running s t (ap (λ (y : Service). y.actions) x.1) (ap (λ (y : Service). y.running) x.1) numbered
open_stays s m _ t x numbered = absurd x

submit_stays : (s : Service) (id : SessionId) (tree : TreeModel) (reply : Reply) (t : Service) → Step s (Submit id tree) reply t → AreNumbered s → Stays s t
submit_stays s id tree (Submitted n) t x numbered = same_running s t (ap (λ (y : Service). y.actions) x.2) (ap (λ (y : Service). y.running) x.2) numbered
submit_stays s id tree (Refused M0) t x numbered = same_running s t (ap (λ (y : Service). y.actions) x) (ap (λ (y : Service). y.running) x) numbered
submit_stays s id tree (Refused rule) t x numbered = same_running s t (ap (λ (y : Service). y.actions) x.1) (ap (λ (y : Service). y.running) x.1) numbered
submit_stays s id tree _ t x numbered = absurd x

close_stays : (s : Service) (id : SessionId) (reply : Reply) (t : Service) → Step s (Close id) reply t → AreNumbered s → Stays s t
close_stays s id Closed t x numbered = same_running s t (ap (λ (y : Service). y.actions) x.1) (ap (λ (y : Service). y.running) x.1) numbered
close_stays s id (Refused O5) t x numbered = same_running s t (ap (λ (y : Service). y.actions) x.1) (ap (λ (y : Service). y.running) x.1) numbered
close_stays s id _ t x numbered = absurd x

give_back_stays : (s : Service) (g : ℕ) (reply : Reply) (t : Service) → Step s (GiveBack g) reply t → AreNumbered s → Stays s t
give_back_stays s g GaveBack t x numbered = none_runs s t (ap (λ (y : Service). y.actions) x.1) (ap (λ (y : Service). y.running) x.1) numbered
give_back_stays s g (Refused Z1) t x numbered = same_running s t (ap (λ (y : Service). y.actions) x.1) (ap (λ (y : Service). y.running) x.1) numbered
give_back_stays s g _ t x numbered = absurd x

pub step_stays : (s : Service) (e : Event) (reply : Reply) (t : Service) → Step s e reply t → AreNumbered s → Stays s t
step_stays s (Open m) reply t x numbered = open_stays s m reply t x numbered
step_stays s (Close id) reply t x numbered = close_stays s id reply t x numbered
step_stays s (Submit id tree) reply t x numbered = submit_stays s id tree reply t x numbered
step_stays s Take reply t x numbered = take_stays s reply t x numbered
step_stays s (Finish number part) reply t x numbered = finish_stays s number part reply t x numbered
step_stays s (GiveBack g) reply t x numbered = give_back_stays s g reply t x numbered

takes_new_given : (ws : List Submission) (s : Service) (a : Action) (t : Service) → TakesNew ws s (Act a) t → AreNumbered s → IsGiven t a
takes_new_given [] s a t x numbered = absurd x
takes_new_given (w ∷ ws) s a t x numbered = acts_given (with_formed s x.0) x.0 a t refl x.2 (formed_stays s x.0 x.1 numbered).numbered

takes_of_given : (o : Option Running) (s : Service) (a : Action) (t : Service) → s.running ≡ o → TakesOf o s (Act a) t → AreNumbered s → IsGiven t a
takes_of_given None s a t is x numbered = takes_new_given s.waiting s a t x numbered
takes_of_given (Some r) s a t is x numbered = acts_given s r a t is x numbered

pub take_gives : (s : Service) (a : Action) (t : Service) → Step s Take (Act a) t → AreNumbered s → IsGiven t a
take_gives s a t x numbered = takes_of_given s.running s a t refl x numbered
