-- What the lock keeps, what an action knows and what is seen, as they are stored.
use Rattle.std.specs.Prelude.{refl, ℕ, Bool, List}
use Rattle.std.specs.Coded.{Coded, code_by, coded_bool, coded_list, coded×, coded_ℕ}
use Rattle.go_sched_core.specs.Coding.{coded_service}
use Rattle.go_sched_core.specs.Service.{Service}
use Rattle.go_sched_core.specs.declared.event.Event.{Event}
use Rattle.go_sched_core.specs.declared.event.Action.{Action}
use Rattle.go_package_core.specs.summary_core.Summaries.{SummaryModel}
use Rattle.go_sched_core.specs.contracts.event.Action as action
use Rattle.go_sched_core.specs.contracts.event.Event as event
use Rattle.go_sched_core.specs.batch_core.contracts.seen.sight.Sight as sight
use Rattle.go_hall_core.specs.Kept.{Kept, kept_with}
use Rattle.go_hall_core.specs.mirrors.Known.{GatheredModel, KnownModel, gathered_with, known_with}

abbrev pub coded_kept : Coded Kept
coded_kept = code_by (Service × (List Event × Bool)) (coded× coded_service (coded× (coded_list event.the_row.coded) coded_bool)) (λ k. (k.service, (k.history, k.stopped))) (λ p. kept_with p.0 p.1.0 p.1.1) (λ _. refl)

abbrev pub coded_known : Coded KnownModel
coded_known = code_by (Action × List Action) (coded× action.the_row.coded (coded_list action.the_row.coded)) (λ k. (k.action, k.log)) (λ p. known_with p.0 p.1) (λ _. refl)

abbrev pub coded_gathered : Coded GatheredModel
coded_gathered = code_by (List SummaryModel × (ℕ × List Action)) (coded× sight.the_row.coded (coded× coded_ℕ (coded_list action.the_row.coded))) (λ s. (s.sight, (s.generation, s.log))) (λ p. gathered_with p.0 p.1.0 p.1.1) (λ _. refl)
