-- What is seen for an action, and what is kept after it.
use Rattle.std.proofs.Common.{◌≡◌, ◌⊎◌, ⊎_elim, ℕ, List, [], Some, refl, ◌∙◌, arith}
use Rattle.std.specs.Prelude.{Contains, slice_get}
use Rattle.go_sched_core.specs.Sights.{AreOfActions, IsListed, KnowsOthers, Serves}
use Rattle.go_sched_core.specs.declared.event.Action.{Action}
use Rattle.go_sched_core.specs.batch_core.SeenSights.{AreSeenBy, IsOf}
use Rattle.go_package_core.specs.summary_core.Summaries.{SummaryModel}

-- nothing
pub serves_none : (log : List Action) (a : Action) → Serves log a []
serves_none log a = record {
  of_actions = λ s h. absurd (let lt = h.1 in omega (arith, lt));
  agrees = λ s r h there same. absurd (let lt = h.1 in omega (arith, lt));
}

-- what was seen for actions of its generation, all of which it knows
pub serves_known : (log own : List Action) (a : Action) (generation : ℕ) (ss : List SummaryModel) → KnowsOthers log a → AreOfActions own generation ss
    → ((k : ℕ) (x : Action) → slice_get own k ≡ Some x → slice_get log k ≡ Some x) → generation ≡ a.generation → Serves log a ss
serves_known log own a generation ss known of covers same = record {
  of_actions = λ s h. (let o = of s h in record { place = o.place; action = o.action; there = covers o.place o.action o.there; same = o.same ∙ same; is = o.is });
  agrees = λ s r h there path. (let o = of s h in known o.place o.action (covers o.place o.action o.there) (o.same ∙ same) s r o.is there path);
}

-- with what is of the action itself, which is listed
pub of_all : (log : List Action) (a : Action) (ss more : List SummaryModel) → AreOfActions log a.generation ss → AreSeenBy ss a.input more → IsListed log a → AreOfActions log a.generation more
of_all log a ss more of seen listed s h =
    ⊎_elim (λ (old : Contains ss s). of s old) (λ (own : IsOf a.input s). record { place = listed.0; action = a; there = listed.1; same = refl; is = own }) (seen s h)
