-- The stamped actions, from step to step.
use Rattle.std.proofs.Common.{◌≡◌, ℕ, zero, suc, ◌≤◌, true, List, [], ◌∷◌, ◌++◌, length, Option, Some, None, is_some, refl, sym, subst, arith}
use Rattle.std.specs.Prelude.{MatchOption, slice_get}
use Rattle.go_package_core.specs.package_part.Parts.{PartModel}
use Rattle.go_sched_core.proofs.Outs.{Stays, step_stays, take_gives}
use Rattle.go_sched_core.proofs.Tells.{IsTaken, Keeps, step_keeps, take_takes, taken_agrees, taken_given, taken_runs}
use Rattle.go_sched_core.specs.Outs.{KnowsInput}
use Rattle.go_sched_core.specs.Service.{Service, empty}
use Rattle.go_sched_core.specs.Sights.{IsGeneration, IsListed, KnowsOthers, RunsOnce}
use Rattle.go_sched_core.specs.Steps.{accepts}
use Rattle.go_sched_core.specs.declared.event.Action.{Action}
use Rattle.go_sched_core.specs.declared.event.Event.{Event}
use Rattle.go_sched_core.specs.declared.event.Event.TheVariants.{Finish, Take}
use Rattle.go_sched_core.specs.declared.event.Reply.{Reply}
use Rattle.go_sched_core.specs.declared.event.Reply.TheVariants.{Act}
use Rattle.go_hall_core.specs.Kept.{Kept, Recorded}
use Rattle.go_hall_core.specs.mirrors.Stamped.{AreStamped, IsStamped}

-- of a hall to which nothing happened
pub none_stamped : AreStamped [] empty
none_stamped = record {
  numbered = λ place n i out. absurd out;
  generation = tt;
  each = λ k a at. absurd (cc (at));
}

stays_stamped : (stamped : List Action) (s t : Service) → Stays s t → Keeps s t → AreStamped stamped s → AreStamped stamped t
stays_stamped stamped s t stays keeps all = record {
  numbered = stays.numbered;
  generation = keeps.given;
  each = λ k a at. (
      let given = (all.each k a at).given in
      let generation = (all.each k a at).generation in
      let more = stays.more in
      let later = keeps.more in
      record {
        given = omega (arith, given, more);
        knows = stays.known a.number a.input given (all.each k a at).knows;
        generation = omega (arith, generation, later);
        told = keeps.told a.generation a.number a.input generation (all.each k a at).told;
      }
      );
}

pub recorded_stamped : (stamped : List Action) (old new : Kept) (e : Event) (reply : Reply) → Recorded old e reply new → AreStamped stamped old.service → AreStamped stamped new.service
recorded_stamped stamped old new e reply r all =
    stays_stamped stamped old.service new.service (step_stays old.service e reply new.service r.0 all.numbered) (step_keeps old.service e reply new.service r.0 all.generation) all

-- the same where an action is finished by its earlier part, if it is
pub kept_stamped : (stamped : List Action) (old new : Kept) (number : ℕ) (o : Option Reply) → MatchOption o (new ≡ old) (λ reply. (part : PartModel) × (accepts reply ≡ true) × Recorded old (Finish number part) reply new) → AreStamped stamped old.service → AreStamped stamped new.service
kept_stamped stamped old new number None same all = subst (λ (k : Kept). AreStamped stamped k.service) (sym same) all
kept_stamped stamped old new number (Some reply) r all = recorded_stamped stamped old new (Finish number r.0) reply (r.2) all

-- what stands in a list with one more behind it
each_pushed : (P : Action → Type 0) (xs : List Action) (x : Action) → ((k : ℕ) (a : Action) → slice_get xs k ≡ Some a → P a) → P x → (k : ℕ) (a : Action) → slice_get (xs ++ x ∷ []) k ≡ Some a → P a
each_pushed P [] x each own zero a at = subst P (cc (at)) own
each_pushed P [] x each own (suc k) a at = absurd (cc (at))
each_pushed P (y ∷ ys) x each own zero a at = each zero a at
each_pushed P (y ∷ ys) x each own (suc k) a at = each_pushed P ys x (λ n b there. each (suc n) b there) own k a at

-- the last of a list
last_at : (xs : List Action) (x : Action) → slice_get (xs ++ x ∷ []) (length xs) ≡ Some x
last_at [] x = refl
last_at (y ∷ ys) x = last_at ys x

-- what is known of the action that is handed out, whose packages tell one summary a path, is that of a stamped one
own_stamped : (s t : Service) (a : Action) (taken : IsTaken t a) → KnowsInput t a.number a.input → a.number ≤ t.actions → IsGeneration t.running t.generations → IsStamped t a
own_stamped s t a taken knows given generation = record { given = given; knows = knows; generation = taken_given t a taken generation; told = taken_runs t a taken }

-- the action that is handed out is stamped, or it is not
pub taken_stamped : (stamped more : List Action) (old new : Kept) (a : Action) (o : Option Action) → Recorded old Take (Act a) new → MatchOption o (more ≡ stamped) (λ x. (x ≡ a) × (more ≡ stamped ++ a ∷ [])) → RunsOnce new.service.running → AreStamped stamped old.service → AreStamped more new.service
taken_stamped stamped more old new a None r same once all = subst (λ (l : List Action). AreStamped l new.service) (sym same) (recorded_stamped stamped old new Take (Act a) r all)
taken_stamped stamped more old new a (Some x) r own once all =
    let given = take_gives old.service a new.service r.0 all.numbered in
    let taken = take_takes old.service a new.service r.0 once in
    let others = recorded_stamped stamped old new Take (Act a) r all in
    subst (λ (l : List Action). AreStamped l new.service) (sym (own.1)) (record {
      numbered = others.numbered;
      generation = others.generation;
      each = each_pushed (IsStamped new.service) stamped a others.each (own_stamped old.service new.service a taken given.knows given.given others.generation);
    })

-- it agrees with each stamped one of its generation
pub taken_knows : (more : List Action) (old new : Kept) (a : Action) → Recorded old Take (Act a) new → RunsOnce new.service.running → AreStamped more new.service → KnowsOthers more a
taken_knows more old new a r once all k b at same =
    taken_agrees new.service a b.generation b.number b.input (take_takes old.service a new.service r.0 once) once (all.each k b at).told same

-- and it stands among the stamped ones, where it is stamped
pub taken_listed : (stamped more : List Action) (a : Action) (o : Option Action) → MatchOption o (more ≡ stamped) (λ x. (x ≡ a) × (more ≡ stamped ++ a ∷ [])) → is_some o ≡ true → IsListed more a
taken_listed stamped more a None same is = absurd (cc (is))
taken_listed stamped more a (Some y) own is = (length stamped, subst (λ (l : List Action). slice_get l (length stamped) ≡ Some a) (sym (own.1)) (last_at stamped a))

-- what is known of an action that was stamped
pub knows_stamped : (stamped : List Action) (s : Service) (a b : Action) (k : ℕ) → AreStamped stamped s → slice_get stamped k ≡ Some b → b ≡ a → KnowsInput s a.number a.input
knows_stamped stamped s a b k all at same = subst (λ (x : Action). KnowsInput s x.number x.input) same (all.each k b at).knows
