-- What contracts see of sessions, as it is stored.
use Rattle.std.specs.Prelude.{refl, ℕ, List}
use Rattle.std.specs.Coded.{Coded, code_by, coded×, coded_ℕ}
use Rattle.go_hall_core.specs.submit_core.Coding.{coded_batches}
use Rattle.go_hall_core.specs.submit_core.Trees.{TreeModel, coded_tree}
use Rattle.go_hall_core.specs.submit_core.declared.published.PublishedBatch.{PublishedBatch}
use Rattle.go_hall_core.specs.sched_core.declared.event.SessionId.{SessionId}
use Rattle.go_hall_core.specs.sched_core.contracts.event.SessionId as session
use Rattle.go_hall.specs.Seat.{Seat, seat_with}

abbrev pub coded_seat : Coded Seat
coded_seat = code_by
    (SessionId × (TreeModel × (List PublishedBatch × (List PublishedBatch × ℕ))))
    (coded× session.the_row.coded (coded× coded_tree (coded× coded_batches (coded× coded_batches coded_ℕ))))
    (λ s. (s.id, (s.draft, (s.seen, (s.told, s.submits)))))
    (λ p. seat_with p.0 p.1.0 p.1.1.0 p.1.1.1.0 p.1.1.1.1)
    (λ _. refl)
