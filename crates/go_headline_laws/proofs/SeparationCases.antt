-- What each kind of step keeps, each step keeps, and so does a run.
use Rattle.std.proofs.Common.{◌≡◌, ℕ, ◌+◌, All, List, [], ◌∷◌, ◌++◌, refl, sym, ap, ◌∙◌, subst, Option, Some, None}
use Rattle.std.proofs.lemmas.List.Elements.{All-head, All-tail}
use Rattle.go_path_core.specs.text_core.declared.rule.Rule.TheVariants.{M0, O5, Z1}
use Rattle.go_submit_core.specs.package_core.PackagePartParts.{PartModel}
use Rattle.go_submit_core.specs.snap_core.Snapshots.{IsSnapshot, SnapshotModel}
use Rattle.go_sched_core.specs.batch_core.Batches.{BatchModel}
use Rattle.go_submit_core.specs.Published.{batch_of}
use Rattle.go_submit_core.specs.Submitted.{submission_with}
use Rattle.go_submit_core.specs.Trees.{TreeModel}
use Rattle.go_submit_core.specs.declared.submission.Submission.{Submission}
use Rattle.go_sched_core.specs.Service.{Service, counts, open_rule, submit_rule}
use Rattle.go_sched_core.specs.Steps.{Acts, Finishes, IsFormed, Publishes, Replay, Run, Step, Takes, TakesNew, TakesOf, held_with, with_batch, with_formed, without_session}
use Rattle.go_sched_core.specs.declared.event.Action.{Action}
use Rattle.go_sched_core.specs.declared.event.Event.{Event}
use Rattle.go_sched_core.specs.declared.event.Event.TheVariants.{Open, Close, Submit, Take, Finish, GiveBack}
use Rattle.go_sched_core.specs.declared.event.Reply.{Reply}
use Rattle.go_sched_core.specs.declared.event.Reply.TheVariants.{Opened, Closed, Submitted, Act, Idle, Finished as Ended, Published, GaveBack, Refused}
use Rattle.go_sched_core.specs.declared.event.SessionId.{SessionId}
use Rattle.go_sched_core.specs.declared.running.Running.{Running}

-- each change of the state keeps what holds of it, where what sessions send is fit
pub record Keeps (Fit : Event → Type 0) (P : Service → Type 0) : Type 0 where
  pub opens : (s : Service) (id : SessionId) (m : List ℕ) → open_rule s m ≡ None → P s → P (counts (record s { opened = s.opened + 1; held = s.held ++ held_with id m ∷ [] }))
  pub closes : (s : Service) (id : SessionId) → P s → P (counts (record s { held = without_session s.held id }))
  pub submits : (s : Service) (id : SessionId) (n : ℕ) (tree : TreeModel) → submit_rule s id tree ≡ None → Fit (Submit id tree) → P s
      → P (counts (record s { tickets = s.tickets + 1; waiting = s.waiting ++ submission_with n tree ∷ [] }))
  pub forms : (s : Service) (r : Running) → IsFormed s r → P s → P (with_formed s r)
  pub acts : (s : Service) (r : Running) (b : BatchModel) → s.running ≡ Some r → b.sources ≡ r.batch.sources → P s → P (counts (record s { actions = s.actions + 1; running = Some (with_batch r b) }))
  pub finishes : (s : Service) (r : Running) (b : BatchModel) → s.running ≡ Some r → b.sources ≡ r.batch.sources → P s → P (counts (record s { running = Some (with_batch r b) }))
  pub publishes : (s : Service) (r : Running) (x : SnapshotModel) → s.running ≡ Some r → x.sources ≡ r.batch.sources → IsSnapshot x.sources x.parts x.faults → P s
      → P (counts (record s { running = None; published = s.published ++ batch_of r.submissions x ∷ [] }))
  pub gives_back : (s : Service) → P s → P (counts (record s { running = None }))

module _ (Fit : Event → Type 0) (P : Service → Type 0) (keeps : Keeps Fit P) where
  same : (s t : Service) → t ≡ s → P s → P t
  same s t e h = subst P (sym e) h

  acts_kept : (s : Service) (r : Running) (a : Action) (t : Service) → s.running ≡ Some r → Acts s r a t → P s → P t
  acts_kept s r a t runs x h = subst P (sym x.state) (keeps.acts s r x.after runs (ap (λ (b : BatchModel). b.sources) x.handed.slots) h)

  takes_kept : (s : Service) (r : Running) (reply : Reply) (t : Service) → s.running ≡ Some r → Takes s r reply t → P s → P t
  takes_kept s r (Act a) t runs x h = acts_kept s r a t runs x h
  takes_kept s r Idle t runs x h = same s t x.1 h
  takes_kept s r _ t runs x h = absurd x

  publishes_kept : (s : Service) (r : Running) (n : ℕ) (t : Service) → s.running ≡ Some r → Publishes s r n t → P s → P t
  publishes_kept s r n t runs x h = subst P (sym x.state) (keeps.publishes s r x.snapshot runs x.sources x.whole h)

  takes_new_kept : (ws : List Submission) (s : Service) (reply : Reply) (t : Service) → TakesNew ws s reply t → P s → P t
  takes_new_kept [] s Idle t x h = same s t x h
  takes_new_kept [] s _ t x h = absurd x
  takes_new_kept (w ∷ ws) s (Published n) t x h = publishes_kept (with_formed s x.0) x.0 n t refl x.2 (keeps.forms s x.0 x.1 h)
  takes_new_kept (w ∷ ws) s (Act a) t x h = acts_kept (with_formed s x.0) x.0 a t refl x.2 (keeps.forms s x.0 x.1 h)
  takes_new_kept (w ∷ ws) s _ t x h = absurd x

  takes_of_kept : (o : Option Running) (s : Service) (reply : Reply) (t : Service) → s.running ≡ o → TakesOf o s reply t → P s → P t
  takes_of_kept None s reply t is x h = takes_new_kept s.waiting s reply t x h
  takes_of_kept (Some r) s reply t is x h = takes_kept s r reply t is x h

  take_kept : (s : Service) (reply : Reply) (t : Service) → Step s Take reply t → P s → P t
  take_kept s (Refused M0) t x h = same s t x h
  take_kept s reply t x h = takes_of_kept s.running s reply t refl x h

  -- the last action of a batch
  last_kept : (s : Service) (r : Running) (b : BatchModel) (n : ℕ) (t : Service) → s.running ≡ Some r → b.sources ≡ r.batch.sources → Publishes s (with_batch r b) n t → P s → P t
  last_kept s r b n t runs on x h = subst P (sym x.state) (keeps.publishes s r x.snapshot runs (x.sources ∙ on) x.whole h)

  finishes_kept : (o : Option Running) (number : ℕ) (part : PartModel) (s : Service) (reply : Reply) (t : Service) → s.running ≡ o → Finishes o number part s reply t → P s → P t
  finishes_kept None number part s (Refused Z1) t is x h = same s t x h
  finishes_kept None number part s _ t is x h = absurd x
  finishes_kept (Some r) number part s (Refused Z1) t is x h = same s t x.1 h
  finishes_kept (Some r) number part s Ended t is x h = subst P (sym x.3) (keeps.finishes s r x.0 is (ap (λ (b : BatchModel). b.sources) x.1.slots) h)
  finishes_kept (Some r) number part s (Published n) t is x h = last_kept s r x.0 n t is (ap (λ (b : BatchModel). b.sources) x.1.slots) x.2 h
  finishes_kept (Some r) number part s _ t is x h = absurd x

  finish_kept : (s : Service) (number : ℕ) (part : PartModel) (reply : Reply) (t : Service) → Step s (Finish number part) reply t → P s → P t
  finish_kept s number part (Refused M0) t x h = same s t x h
  finish_kept s number part reply t x h = finishes_kept s.running number part s reply t refl x h

  open_kept : (s : Service) (m : List ℕ) (reply : Reply) (t : Service) → Step s (Open m) reply t → P s → P t
  open_kept s m (Opened id) t x h = subst P (sym x.2) (keeps.opens s id m x.0 h)
  open_kept s m (Refused M0) t x h = same s t x h
  open_kept s m (Refused rule) t x h = same s t x.1 h
  open_kept s m _ t x h = absurd x

  submit_kept : (s : Service) (id : SessionId) (tree : TreeModel) (reply : Reply) (t : Service) → Fit (Submit id tree) → Step s (Submit id tree) reply t → P s → P t
  submit_kept s id tree (Submitted n) t fit x h = subst P (sym x.2) (keeps.submits s id n.0 tree x.0 fit h)
  submit_kept s id tree (Refused M0) t fit x h = same s t x h
  submit_kept s id tree (Refused rule) t fit x h = same s t x.1 h
  submit_kept s id tree _ t fit x h = absurd x

  close_kept : (s : Service) (id : SessionId) (reply : Reply) (t : Service) → Step s (Close id) reply t → P s → P t
  close_kept s id Closed t x h = subst P (sym x.1) (keeps.closes s id h)
  close_kept s id (Refused O5) t x h = same s t x.1 h
  close_kept s id _ t x h = absurd x

  give_back_kept : (s : Service) (g : ℕ) (reply : Reply) (t : Service) → Step s (GiveBack g) reply t → P s → P t
  give_back_kept s g GaveBack t x h = subst P (sym x.1) (keeps.gives_back s h)
  give_back_kept s g (Refused Z1) t x h = same s t x.1 h
  give_back_kept s g _ t x h = absurd x

  pub step_kept : (s : Service) (e : Event) (reply : Reply) (t : Service) → Fit e → Step s e reply t → P s → P t
  step_kept s (Open m) reply t fit x h = open_kept s m reply t x h
  step_kept s (Close id) reply t fit x h = close_kept s id reply t x h
  step_kept s (Submit id tree) reply t fit x h = submit_kept s id tree reply t fit x h
  step_kept s Take reply t fit x h = take_kept s reply t x h
  step_kept s (Finish number part) reply t fit x h = finish_kept s number part reply t x h
  step_kept s (GiveBack g) reply t fit x h = give_back_kept s g reply t x h

  pub run_kept : (s : Service) (es : List Event) (rs : List Reply) (t : Service) → All Fit es → Run s es rs t → P s → P t
  run_kept s [] [] t fit x h = same s t x h
  run_kept s (e ∷ es) (r ∷ rs) t fit x h = run_kept x.0 es rs t (All-tail Fit e es fit) x.2 (step_kept s e r x.0 (All-head Fit e es fit) x.1 h)
  run_kept s [] (r ∷ rs) t fit x h = absurd x
  run_kept s (e ∷ es) [] t fit x h = absurd x

  pub replay_kept : (s : Service) (es : List Event) (t : Service) → All Fit es → Replay s es t → P s → P t
  replay_kept s [] t fit x h = same s t x h
  replay_kept s (e ∷ es) t fit x h = replay_kept x.1 es t (All-tail Fit e es fit) x.4 (step_kept s e x.0 x.1 (All-head Fit e es fit) x.3 h)
