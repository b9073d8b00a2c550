-- The first action of a batch that is formed.
use Rattle.std.proofs.Common.{◌≡◌, ℕ, ◌+◌, cond, List, ◌∷◌, Option, Some, None, refl, sym, ap, ◌∙◌, subst}
use Rattle.std.specs.Prelude.{slice_set}
use Rattle.go_submit_core.specs.package_core.PackagePartInputs.{InputModel, path_in}
use Rattle.go_submit_core.specs.package_core.PackagePartParts.{PartModel}
use Rattle.go_submit_core.specs.snap_core.WholeWorkspaceInputs.{IsInputAt}
use Rattle.go_batch_core.specs.Batches.{batch_with}
use Rattle.go_batch_core.specs.Steadiness.{SteadyModel}
use Rattle.go_batch_core.specs.declared.slot.Slot.TheVariants.{Taken}
use Rattle.go_submit_core.specs.Published.{IsEarlierPart}
use Rattle.go_submit_core.specs.declared.submission.Submission.{Submission}
use Rattle.go_sched_core.specs.Service.{Service, counts}
use Rattle.go_sched_core.specs.Steps.{Acts, Step, TakesNew, TakesOf, with_batch, with_formed}
use Rattle.go_sched_core.specs.declared.change.Hand.{Hand}
use Rattle.go_sched_core.specs.declared.event.Action.{Action}
use Rattle.go_sched_core.specs.declared.event.Event.TheVariants.{Take}
use Rattle.go_sched_core.specs.declared.event.Reply.TheVariants.{Act}
use Rattle.go_sched_core.specs.declared.running.Running.{Running}
use Rattle.go_sched_core.specs.mirrors.Fitting.{FitsBegin}
use Rattle.go_sched_core.proofs.Marking.{kept_action}

-- the state in which the batch runs, of which an action of this number and input is handed out
abbrev pub begun_with : Service → Running → ℕ → ℕ → InputModel → Service
begun_with s r place number input = counts (record (with_formed s r) { actions = s.actions + 1; running = Some (with_batch r (batch_with r.batch.sources (slice_set r.batch.slots place (Taken number input)) r.batch.parts)) })

abbrev pub begun_record : ℕ → List Submission → Option Running → Service → Service
begun_record accepted waiting running s = record s { accepted = accepted; waiting = waiting; generations = s.generations + 1; actions = s.actions + 1; running = running }

pub begun_step : (s : Service) (r : Running) (steady : Option SteadyModel) (h : Hand) (a : Action) (t : Service) → FitsBegin s Take r steady h → a.generation ≡ r.generation → a.number ≡ s.actions + 1 → a.input ≡ h.next.input → a.earlier ≡ h.earlier → a.kept ≡ cond h.kept (Some h.next.place) None
    → t ≡ begun_with s r h.next.place (s.actions + 1) h.next.awaited → Step s Take (Act a) t
begun_step s r steady h a t fits generation number input earlier kept state =
    let hand = fits.hand in
    let begins = fits.begins in
    let place : ℕ = h.next.place in
    let acts : Acts (with_formed s r) r a t = record {
      generation = generation;
      number = number;
      earlier = subst (λ (o : Option PartModel). IsEarlierPart s.published (path_in a.input) o) (sym earlier) (subst (λ (i : InputModel). IsEarlierPart s.published (path_in i) h.earlier) (sym input) hand.earlier);
      after = batch_with r.batch.sources (slice_set r.batch.slots place (Taken a.number a.input)) r.batch.parts;
      handed = record { place = place; ready = hand.next.ready; of_package = subst (λ (i : InputModel). IsInputAt r.batch.sources r.batch.parts place i) (sym input) hand.next.input; slots = refl };
      kept = kept_action s.published r.batch h a hand kept earlier input;
      state = state ∙ ap (λ (n : ℕ). begun_with s r place n h.next.awaited) (sym number) ∙ ap (λ (i : InputModel). begun_with s r place a.number i) (hand.next.awaited ∙ sym input);
    } in
    let takes : TakesNew (begins.first ∷ begins.others) s (Act a) t = (r, begins.formed, acts) in
    let new : TakesNew s.waiting s (Act a) t = subst (λ (l : List Submission). TakesNew l s (Act a) t) (sym begins.waiting) takes in
    subst (λ (o : Option Running). TakesOf o s (Act a) t) (sym begins.none) new
