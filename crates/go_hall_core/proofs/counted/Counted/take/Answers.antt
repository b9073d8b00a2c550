use Rattle.std.proofs.Common.{◌+◌, List, refl, sym, ap, ◌∙◌, subst}
use Rattle.go_sched_core.specs.declared.event.Event.TheVariants.{Take}
use Rattle.go_sched_core.specs.declared.event.Reply.{Reply}
use Rattle.go_sched_core.specs.declared.event.Reply.TheVariants.{Act}
use Rattle.go_hall_core.specs.Kept.{Kept, Recorded}
use Rattle.go_hall_core.proofs.Pushes.{recorded_counts}
use Rattle.go_sched_core.specs.Sights.{IsListed, KnowsOthers}
use Rattle.go_sched_core.specs.declared.event.Action.{Action}
use Rattle.go_hall_core.proofs.Stamps.{recorded_stamped, taken_knows, taken_listed, taken_stamped}
use Rattle.go_hall_core.proofs.counted.Counted.take.Goals as goal

pub invariant_of-self : goal.invariant_of-self
invariant_of-self g c =
    let same = recorded_counts c.self.inside.state c.take.new.self Take c.take.result c.take.ensures refl refl in
    let acts : Recorded c.self.inside.state Take (Act c.in-Act.action) c.take.new.self = subst (λ (r : Reply). Recorded c.self.inside.state Take r c.take.new.self) c.in-Act.is c.take.ensures in (
      c.self.invariant.0 ∙ sym same.1,
      c.self.invariant.1,
      ap (λ n. c.self.inside.rest.parts + n) same.0 ∙ c.self.invariant.2,
      c.self.invariant.3,
      taken_stamped c.self.inside.stamper c.stamp-stamp.new.self c.self.inside.state c.take.new.self c.in-Act.action c.stamp-stamp.result acts c.stamp-stamp.ensures c.is_told_once.ensures c.self.invariant.4,
    )

pub invariant_of-self-in_default : goal.invariant_of-self-in_default
invariant_of-self-in_default g c =
    let same = recorded_counts c.self.inside.state c.take.new.self Take c.take.result c.take.ensures refl refl in (
      c.self.invariant.0 ∙ sym same.1,
      c.self.invariant.1,
      ap (λ n. c.self.inside.rest.parts + n) same.0 ∙ c.self.invariant.2,
      c.self.invariant.3,
      recorded_stamped c.self.inside.stamper c.self.inside.state c.take.new.self Take c.take.result c.take.ensures c.self.invariant.4,
    )

pub returns-in-Act-clause-recorded : goal.returns-in-Act-clause-recorded
returns-in-Act-clause-recorded g c =
    subst (λ (k : Kept). Recorded k Take (Act c.in-Act.action) c.take.new.self) c.self.view_is
    (subst (λ (r : Reply). Recorded c.self.inside.state Take r c.take.new.self) c.in-Act.is c.take.ensures)

pub new-known-requires-clause-listed : goal.new-known-requires-clause-listed
new-known-requires-clause-listed g c is =
    let old = c.self.inside.stamper in
    let more = c.stamp-stamp.new.self in
    let action = c.in-Act.action in
    subst (λ (l : List Action). IsListed l action) (sym c.seal-seal.ensures) (taken_listed old more action c.stamp-stamp.result c.stamp-stamp.ensures (sym c.is_some.ensures ∙ is))

pub new-known-requires-clause-known : goal.new-known-requires-clause-known
new-known-requires-clause-known g c =
    let old = c.self.inside.stamper in
    let more = c.stamp-stamp.new.self in
    let action = c.in-Act.action in
    let acts : Recorded c.self.inside.state Take (Act action) c.take.new.self = subst (λ (r : Reply). Recorded c.self.inside.state Take r c.take.new.self) c.in-Act.is c.take.ensures in
    let all = taken_stamped old more c.self.inside.state c.take.new.self action c.stamp-stamp.result acts c.stamp-stamp.ensures c.is_told_once.ensures c.self.invariant.4 in
    subst (λ (l : List Action). KnowsOthers l action) (sym c.seal-seal.ensures) (taken_knows more c.self.inside.state c.take.new.self action acts c.is_told_once.ensures all)
