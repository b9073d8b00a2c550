-- The last part of a batch, and what is handed out.
use Rattle.std.proofs.Common.{◌≡◌, ◌++◌, ◌∷◌, [], ℕ, List, length, Option, Some, None, refl, sym, ap, ◌∙◌, subst}
use Rattle.std.proofs.lemmas.List.{length_push}
use Rattle.go_submit_core.specs.Published.{batch_of}
use Rattle.go_submit_core.specs.declared.published.PublishedBatch.{PublishedBatch}
use Rattle.go_batch_core.specs.Batches.{with_part}
use Rattle.go_sched_core.specs.Service.{Service, counts}
use Rattle.go_sched_core.specs.Steps.{Finishes, Publishes, Step, with_batch}
use Rattle.go_sched_core.specs.mirrors.Fitting.{FitsPublishLast}
use Rattle.go_sched_core.specs.declared.event.Event.{Event}
use Rattle.go_sched_core.specs.declared.event.Event.TheVariants.{Finish}
use Rattle.go_sched_core.specs.declared.event.Reply.{Reply}
use Rattle.go_sched_core.specs.declared.event.Reply.TheVariants.{Published}
use Rattle.go_sched_core.specs.declared.running.Running.{Running}

pub published_last_step : (s : Service) (e : Event) (bs : List PublishedBatch) (reply : Reply) (t : Service) → FitsPublishLast s e bs → reply ≡ Published (length bs) → t ≡ counts (record s { running = None; published = bs }) → Step s e reply t
published_last_step s e bs reply t fits is state =
    let p = fits.published in
    let publishes : Publishes s (with_batch fits.r (with_part fits.r.batch fits.place fits.part)) (length bs) t = record {
      over = p.over;
      snapshot = p.snapshot;
      sources = p.sources;
      parts = p.parts;
      whole = p.whole;
      number = ap length p.pushed ∙ length_push s.published (batch_of fits.r.submissions p.snapshot);
      state = state ∙ ap (λ (l : List PublishedBatch). counts (record s { running = None; published = l })) p.pushed;
    } in
    let finishes : Finishes (Some fits.r) fits.finishing.number fits.part s (Published (length bs)) t =
    (with_part fits.r.batch fits.place fits.part, record { place = fits.place; awaits = fits.finishing.awaits; slots = refl }, publishes) in
    let here : Finishes s.running fits.finishing.number fits.part s (Published (length bs)) t = subst (λ (o : Option Running). Finishes o fits.finishing.number fits.part s (Published (length bs)) t) (sym fits.finishing.running) finishes in
    let step : Step s (Finish fits.finishing.number fits.part) (Published (length bs)) t = here in
    subst (λ (x : Event). Step s x reply t) (sym fits.finishing.event) (subst (λ (x : Reply). Step s (Finish fits.finishing.number fits.part) x t) (sym is) step)

abbrev pub acting : ℕ → Option Running → ℕ → Service → Service
acting accepted running actions s = record s { accepted = accepted; running = running; actions = actions }
