-- Each published snapshot of a run is the one of its sources.
use Rattle.std.proofs.Common.{◌≡◌, ◌+◌, [], ◌∷◌, ◌++◌, sym, ap, ◌∙◌, subst, Some, None}
use Rattle.std.specs.Prelude.{⊤}
use Rattle.go_submit_core.specs.snap_core.Snapshots.{IsSnapshot, SnapshotModel}
use Rattle.go_submit_core.specs.Published.{AreSound, IsOneWorker, batch_of, sources_of}
use Rattle.go_submit_core.specs.Submitted.{submitted}
use Rattle.go_submit_core.specs.declared.published.PublishedBatch.{PublishedBatch}
use Rattle.go_submit_core.proofs.Sounds.{sound_push, sources_push}
use Rattle.go_sched_core.specs.Service.{Service, counts, empty}
use Rattle.go_sched_core.specs.Steps.{IsFormed, with_formed}
use Rattle.go_sched_core.specs.mirrors.Kept.{RunsOn}
use Rattle.go_sched_core.specs.declared.running.Running.{Running}
use Rattle.go_headline_laws.specs.separation.Laws.{RunsAreSound}
use Rattle.go_headline_laws.proofs.SeparationCases.{Keeps, run_kept}

-- what is published is sound, and the batch that runs is of what is published, with what was submitted
record Sound (s : Service) : Type 0 where
  published : AreSound s.published
  runs : RunsOn s.published s.running

-- the sources of the batch that runs
on : (s : Service) (r : Running) → s.running ≡ Some r → Sound s → r.batch.sources ≡ submitted (sources_of s.published) r.submissions
on s r runs h = subst (RunsOn s.published) runs h.runs

formed_sound : (s : Service) (r : Running) → IsFormed s r → Sound s → Sound (with_formed s r)
formed_sound s r formed h = record { published = h.published; runs = formed.begun.sources ∙ ap (submitted (sources_of s.published)) (sym formed.submissions) }

publishes_sound : (s : Service) (r : Running) (x : SnapshotModel) → s.running ≡ Some r → x.sources ≡ r.batch.sources → IsSnapshot x.sources x.parts x.faults → Sound s
    → Sound (counts (record s { running = None; published = s.published ++ batch_of r.submissions x ∷ [] }))
publishes_sound s r x runs same whole h =
    let b : PublishedBatch = batch_of r.submissions x in
    let is : IsOneWorker (sources_of (s.published ++ b ∷ [])) x = record { sources = same ∙ (on s r runs h ∙ sym (sources_push s.published b)); whole = whole } in
    record { published = sound_push s.published b h.published is; runs = tt }

keeps_sound : Keeps (λ e. ⊤) Sound
keeps_sound = record {
  opens = λ s id m allowed h. record { published = h.published; runs = h.runs };
  closes = λ s id h. record { published = h.published; runs = h.runs };
  submits = λ s id n tree allowed fit h. record { published = h.published; runs = h.runs };
  forms = formed_sound;
  acts = λ s r b runs same h. record { published = h.published; runs = same ∙ on s r runs h };
  finishes = λ s r b runs same h. record { published = h.published; runs = same ∙ on s r runs h };
  publishes = publishes_sound;
  gives_back = λ s h. record { published = h.published; runs = tt };
}

none_sound : Sound empty
none_sound = record { published = record { each = λ k b at. absurd (cc) }; runs = tt }

pub runs_are_sound : RunsAreSound
runs_are_sound es rs t x = (run_kept (λ e. ⊤) Sound keeps_sound empty es rs t (λ k d lt. tt) x none_sound).published
