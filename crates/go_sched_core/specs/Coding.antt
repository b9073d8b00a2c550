-- States and prepared steps as they are stored.
use Rattle.std.specs.Prelude.{refl, ℕ, List, Option}
use Rattle.std.specs.Coded.{Coded, code_by, coded×, coded_list, coded_option, coded_ℕ}
use Rattle.go_submit_core.specs.Coding.{coded_batches}
use Rattle.go_submit_core.specs.Submitted.{coded_submissions}
use Rattle.go_submit_core.specs.declared.published.PublishedBatch.{PublishedBatch}
use Rattle.go_submit_core.specs.declared.submission.Submission.{Submission}
use Rattle.go_sched_core.specs.declared.event.Event.{Event}
use Rattle.go_sched_core.specs.declared.event.Held.{Held}
use Rattle.go_sched_core.specs.declared.running.Running.{Running}
use Rattle.go_sched_core.specs.contracts.event.Event as event
use Rattle.go_sched_core.specs.contracts.event.Held as held
use Rattle.go_sched_core.specs.contracts.running.Running as running
use Rattle.go_sched_core.specs.Prepared.{Prepared, prepared_with}
use Rattle.go_sched_core.specs.Service.{Service}

abbrev pub service_with : ℕ → ℕ → List Held → ℕ → List Submission → ℕ → ℕ → Option Running → List PublishedBatch → Service
service_with accepted opened held tickets waiting generations actions running published = record { accepted = accepted; opened = opened; held = held; tickets = tickets; waiting = waiting; generations = generations; actions = actions; running = running; published = published }

abbrev pub coded_service : Coded Service
coded_service = code_by
    (ℕ × (ℕ × (List Held × (ℕ × (List Submission × (ℕ × (ℕ × (Option Running × List PublishedBatch))))))))
    (coded× coded_ℕ (coded× coded_ℕ (coded× (coded_list held.the_row.coded) (coded× coded_ℕ (coded× coded_submissions (coded× coded_ℕ (coded× coded_ℕ (coded× (coded_option running.the_row.coded) coded_batches))))))))
    (λ s. (s.accepted, (s.opened, (s.held, (s.tickets, (s.waiting, (s.generations, (s.actions, (s.running, s.published)))))))))
    (λ p. service_with p.0 p.1.0 p.1.1.0 p.1.1.1.0 p.1.1.1.1.0 p.1.1.1.1.1.0 p.1.1.1.1.1.1.0 p.1.1.1.1.1.1.1.0 p.1.1.1.1.1.1.1.1)
    (λ _. refl)

abbrev pub coded_prepared : Coded Prepared
coded_prepared = code_by (Service × (Event × List PublishedBatch)) (coded× coded_service (coded× event.the_row.coded coded_batches)) (λ p. (p.from, (p.event, p.batches))) (λ p. prepared_with p.0 p.1.0 p.1.1) (λ _. refl)
